-- The version of the table's format, and the table's id.
use Rattle.std.specs.Prelude.{◌≡◌, ◌⊎◌, ℕ, ◌==◌, ℤ, pos, List, Option, Some, None, option_and_then, Result, Ok, Err}
use Rattle.std.specs.Prelude.{codes}
use Rattle.std.specs.Prelude.{if◌then◌else◌}
use Rattle.std.specs.Ordering.{int_eq}
use Rattle.uuid.specs.Text.{parsed}
use Rattle.serde_json.specs.Data.{Data}
use Rattle.json_members.specs.declared.rows.Version.{Version as Members}
use Rattle.json_members.specs.declared.rows.Version.TheVariants.{Older, Newer}
use Rattle.json_members.specs.Form.{long_of}
use Rattle.json_members.specs.Values.{text_in}
use Rattle.metadata_reading.specs.declared.refusal.MetaRefusal.{MetaRefusal}
use Rattle.metadata_reading.specs.declared.refusal.MetaRefusal.TheVariants.{Missing, Wrong, Version}

-- versions 2 and 3 are read
abbrev pub IsVersion : ℕ → Type 0
IsVersion version = (version ≡ 2) ⊎ (version ≡ 3)

-- which members a version has
abbrev pub format : ℕ → Members
format version = if version == 3 then Newer else Older

abbrev pub version_of : Option ℤ → Result ℕ MetaRefusal
version_of None = Err (Wrong (codes "format-version"))
version_of (Some n) = if int_eq n (pos 2) then Ok 2 else (if int_eq n (pos 3) then Ok 3 else Err (Version n))

-- the version that is found, or why there is none
abbrev pub version_in : Option Data → Result ℕ MetaRefusal
version_in None = Err (Missing (codes "format-version"))
version_in (Some value) = version_of (long_of value)

abbrev pub uuid_of : Option (List ℕ) → Result (List ℕ) MetaRefusal
uuid_of None = Err (Wrong (codes "table-uuid"))
uuid_of (Some uuid) = Ok uuid

-- the id of the text that is found
abbrev pub uuid_in : Option Data → Result (List ℕ) MetaRefusal
uuid_in found = uuid_of (option_and_then parsed (text_in found))
