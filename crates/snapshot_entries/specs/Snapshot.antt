-- Which snapshots have a JSON object that is read as them.
use Rattle.std.specs.Prelude.{◌≡◌, ◌≤◌, ◌≤ℤ◌, ℤ, pos, int_lt, ⊤, true, false, List, [], ◌∷◌, length, Option, Some, None}
use Rattle.json_members.specs.declared.rows.Version.{Version}
use Rattle.json_members.specs.declared.rows.Version.TheVariants.{Older, Newer}
use Rattle.json_members.specs.Form.{is_long}
use Rattle.json_members.specs.Members.{lacks}
use Rattle.json_members.specs.Plain.{ArePlain}
use Rattle.snapshot_entries.specs.declared.snapshot.Snapshot.{Snapshot}
use Rattle.snapshot_entries.specs.List.{most_path}
use Rattle.snapshot_entries.specs.Members.{known}

-- a number from 0 to 2^63 - 1
pub record IsNatural (z : ℤ) : Type 0 where
  pub fits : is_long z ≡ true
  pub least : int_lt z (pos 0) ≡ false

-- a number not above 2^63 - 1, or none
abbrev pub IsLongIfAny : Option ℤ → Type 0
IsLongIfAny None = ⊤
IsLongIfAny (Some z) = is_long z ≡ true

-- a number that only the newer version has, and that may be missing there
abbrev pub IsNewNumber : Version → Option ℤ → Type 0
IsNewNumber Older number = number ≡ None
IsNewNumber Newer None = ⊤
IsNewNumber Newer (Some z) = IsNatural z

-- a snapshot of a table whose last sequence number this is
pub record IsSnapshot (version : Version) (last : ℤ) (s : Snapshot) : Type 0 where
  pub id : IsNatural s.id
  pub parent : IsLongIfAny s.parent
  pub sequence : IsNatural s.sequence
  pub passed : s.sequence ≤ℤ last
  pub time : is_long s.time ≡ true
  pub schema_id : IsLongIfAny s.schema_id
  pub first_row_id : IsNewNumber version s.first_row_id
  pub added_rows : IsNewNumber version s.added_rows
  pub path : length s.list ≤ most_path
  pub carried : lacks (known version) s.rest ≡ true
  pub plain : ArePlain 124 s.rest

-- snapshots of such a table
abbrev pub AreSnapshots : Version → ℤ → List Snapshot → Type 0
AreSnapshots version last [] = ⊤
AreSnapshots version last (s ∷ snapshots) = IsSnapshot version last s × AreSnapshots version last snapshots
