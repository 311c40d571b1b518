-- What a change keeps of the members that are carried.
use Rattle.std.specs.Prelude.{◌≡◌, ⊤, ℕ, List, [], ◌∷◌, false, Some}
use Rattle.serde_json.specs.Data.{object, Members}
use Rattle.serde_json.specs.Find.{get_member}
use Rattle.json_members.specs.Members.{is_among}
use Rattle.snapshot_entries.specs.declared.snapshot.Snapshot.{Snapshot}

-- what is found at each name but these is the same
abbrev pub KeepsOthers : List (List ℕ) → Members → Members → Type 0
KeepsOthers names old new = (name : List ℕ) → is_among name names ≡ false → get_member name new ≡ get_member name old

-- an object at the name stays one, and its members keep what `Keeps` says
abbrev pub KeepsIn : List ℕ → (Members → Members → Type 0) → Members → Members → Type 0
KeepsIn name Keeps old new = (inner : Members) → get_member name old ≡ Some (object inner)
    → (after : Members) × (get_member name new ≡ Some (object after)) × Keeps inner after

-- as many snapshots, and each one carries what it did, but for these names
abbrev pub SnapshotsKeepOthers : List (List ℕ) → List Snapshot → List Snapshot → Type 0
SnapshotsKeepOthers names [] [] = ⊤
SnapshotsKeepOthers names [] (s ∷ news) = ⊥
SnapshotsKeepOthers names (s ∷ olds) [] = ⊥
SnapshotsKeepOthers names (old ∷ olds) (new ∷ news) =
    KeepsOthers names old.rest new.rest × SnapshotsKeepOthers names olds news
