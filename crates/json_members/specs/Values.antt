-- The values of members, by what a look-up finds.
use Rattle.std.specs.Prelude.{ℕ, ℤ, pos, List, [], Option, None, option_and_then, unwrap_or}
use Rattle.serde_json.specs.Data.{Data, number}
use Rattle.serde_json.specs.Find.{as_str, of_integer}
use Rattle.json_members.specs.declared.rows.Version.{Version}
use Rattle.json_members.specs.declared.rows.Version.TheVariants.{Older, Newer}
use Rattle.json_members.specs.Form.{long_of, natural_of, int_of}

-- the number of 64 bits that is found
abbrev pub number_in : Option Data → Option ℤ
number_in found = option_and_then long_of found

-- one that is not below 0
abbrev pub natural_in : Option Data → Option ℤ
natural_in found = option_and_then natural_of found

-- one of 32 bits
abbrev pub int_in : Option Data → Option ℤ
int_in found = option_and_then int_of found

-- the number that is found, if the version has it
abbrev pub number_since : Version → Option Data → Option ℤ
number_since Older found = None
number_since Newer found = number_in found

-- the number that is found, or 0
abbrev pub number_or_0 : Option Data → ℤ
number_or_0 found = unwrap_or (number_in found) (pos 0)

-- the text that is found
abbrev pub text_in : Option Data → Option (List ℕ)
text_in found = option_and_then as_str found

-- the text that is found, or an empty one
abbrev pub text_or_empty : Option Data → List ℕ
text_or_empty found = unwrap_or (text_in found) []

-- a whole number as a value
abbrev pub whole : ℤ → Data
whole z = number (of_integer z)
