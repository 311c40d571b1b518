-- The encryption keys of snapshots. Iceberg spec, "Snapshots": `key-id`.
use Rattle.std.specs.Prelude.{⊤, Bool, false, not, ◌||◌, List, [], ◌∷◌, Option, Some, None, is_some, codes}
use Rattle.serde_json.specs.Data.{Data}
use Rattle.serde_json.specs.Find.{get_member, as_null}
use Rattle.json_members.specs.Meaning.{IsUnset}
use Rattle.snapshot_entries.specs.declared.snapshot.Snapshot.{Snapshot}

-- a value is found, and it isn't null
abbrev pub is_set : Option Data → Bool
is_set None = false
is_set (Some value) = not (is_some (as_null value))

-- the snapshot carries a `key-id`
abbrev pub has_key : Snapshot → Bool
has_key s = is_set (get_member (codes "key-id") s.rest)

-- some snapshot does
abbrev pub has_keys : List Snapshot → Bool
has_keys [] = false
has_keys (s ∷ snapshots) = has_key s || has_keys snapshots

-- none does
abbrev pub AreUnencrypted : List Snapshot → Type 0
AreUnencrypted [] = ⊤
AreUnencrypted (s ∷ snapshots) = IsUnset (get_member (codes "key-id") s.rest) × AreUnencrypted snapshots
