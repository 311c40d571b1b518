-- What a value has to be, and the numbers and items of values.
use Rattle.std.specs.Prelude.{◌^◌, ◌-◌, ℤ, pos, negsuc, int_lt, Bool, true, Option, Some, None, is_some}
use Rattle.std.specs.Prelude.{option_and_then, unwrap_or, if◌then◌else◌}
use Rattle.serde_json.specs.Data.{Data, Items, no_items}
use Rattle.serde_json.specs.Find.{as_str, as_bool, as_number, as_array, as_object, as_i64}
use Rattle.json_members.specs.declared.form.Form.{Form}
use Rattle.json_members.specs.declared.form.Form.TheVariants.{Any, Text, Long, Natural, Int, Flag, List, Object}

-- a number that is not above 64 bits with a sign
abbrev pub is_long : ℤ → Bool
is_long z = int_lt z (pos (2 ^ 63))

abbrev pub if_long : ℤ → Option ℤ
if_long z = if is_long z then Some z else None

-- a whole number of 64 bits with a sign
abbrev pub long_of : Data → Option ℤ
long_of value = option_and_then if_long (option_and_then as_i64 (as_number value))

-- one that is not below 0
abbrev pub if_natural : ℤ → Option ℤ
if_natural z = if int_lt z (pos 0) then None else Some z

abbrev pub natural_of : Data → Option ℤ
natural_of value = option_and_then if_natural (long_of value)

-- one of 32 bits with a sign
abbrev pub if_int : ℤ → Option ℤ
if_int z = if int_lt z (negsuc (2 ^ 31 - 1)) then None else (if int_lt z (pos (2 ^ 31)) then Some z else None)

abbrev pub int_of : Data → Option ℤ
int_of value = option_and_then if_int (long_of value)

-- the items of a list; whatever else is found, or nothing, has none
abbrev pub items_in : Option Data → Items
items_in found = unwrap_or (option_and_then as_array found) no_items

-- the value has the form
abbrev pub has_form : Form → Data → Bool
has_form Any value = true
has_form Text value = is_some (as_str value)
has_form Long value = is_some (long_of value)
has_form Natural value = is_some (natural_of value)
has_form Int value = is_some (int_of value)
has_form Flag value = is_some (as_bool value)
has_form List value = is_some (as_array value)
has_form Object value = is_some (as_object value)
