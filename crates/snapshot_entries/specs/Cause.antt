-- Why a list of snapshots is refused: the cause of each refusal, whichever check comes first. Iceberg spec,
-- "Snapshots".
use Rattle.std.specs.Prelude.{◌≡◌, ◌⊎◌, ℕ, ◌<◌, ℤ, ◌<ℤ◌, length, List, Option, Some, None, codes}
use Rattle.serde_json.specs.Data.{Items, no_items, item, Members}
use Rattle.serde_json.specs.Events.{items_len}
use Rattle.serde_json.specs.Find.{get_member, as_object}
use Rattle.json_members.specs.declared.fault.Fault.TheVariants as fault
use Rattle.json_members.specs.declared.rows.Version.{Version}
use Rattle.json_members.specs.Cause.{AnyHasFault}
use Rattle.json_members.specs.Rows.{Lookup}
use Rattle.json_members.specs.Values.{number_in, number_or_0, text_in}
use Rattle.snapshot_entries.specs.declared.refusal.SnapshotRefusal.{SnapshotRefusal}
use Rattle.snapshot_entries.specs.declared.refusal.SnapshotRefusal.TheVariants.{Missing, Wrong, NoManifestList}
use Rattle.snapshot_entries.specs.declared.refusal.SnapshotRefusal.TheVariants.{Snapshots, Path, Memory}
use Rattle.snapshot_entries.specs.List.{most_snapshots, most_path}
use Rattle.snapshot_entries.specs.Members.{rows}

-- ---- one snapshot, by what is found in its object

-- its sequence number is above the table's last one; one that isn't there is 0
pub record IsAbove (last : ℤ) (found : Lookup) (name : List ℕ) : Type 0 where
  pub named : name ≡ codes "sequence-number"
  pub above : last <ℤ number_or_0 (found (codes "sequence-number"))

-- it has this id, and no text that is the path of its manifest list
pub record LacksList (found : Lookup) (id : ℤ) : Type 0 where
  pub here : number_in (found (codes "snapshot-id")) ≡ Some id
  pub no_text : text_in (found (codes "manifest-list")) ≡ None

-- that path has so many bytes, which are too many
pub record IsLongPath (found : Lookup) (many : ℕ) : Type 0 where
  pub path : List ℕ
  pub here : text_in (found (codes "manifest-list")) ≡ Some path
  pub counted : length path ≡ many
  pub above : most_path < many

-- the refusal of what is found
abbrev pub IsRefused : Version → ℤ → Lookup → SnapshotRefusal → Type 0
IsRefused version last found (Missing name) = AnyHasFault found (rows version) (fault.Missing name)
IsRefused version last found (Wrong name) =
    AnyHasFault found (rows version) (fault.Wrong name) ⊎ IsAbove last found name
IsRefused version last found (NoManifestList id) = LacksList found id
IsRefused version last found (Path many) = IsLongPath found many
IsRefused version last found (Snapshots many) = ⊥
IsRefused version last found Memory = ⊥

-- ---- snapshots

-- an item that is no object is the list's fault
abbrev pub ItemIsRefused : Version → ℤ → Option Members → SnapshotRefusal → Type 0
ItemIsRefused version last None refusal = refusal ≡ Wrong (codes "snapshots")
ItemIsRefused version last (Some members) refusal =
    IsRefused version last (λ name. get_member name members) refusal

-- one of the items has this refusal
abbrev pub AnyIsRefused : Version → ℤ → Items → SnapshotRefusal → Type 0
AnyIsRefused version last no_items refusal = ⊥
AnyIsRefused version last (item value items) refusal =
    ItemIsRefused version last (as_object value) refusal ⊎ AnyIsRefused version last items refusal

-- there are so many snapshots, which are too many
pub record AreTooMany (items : Items) (many : ℕ) : Type 0 where
  pub counted : items_len items ≡ many
  pub above : most_snapshots < many

-- the refusal of the list
abbrev pub IsListCause : Version → ℤ → Items → SnapshotRefusal → Type 0
IsListCause version last items (Snapshots many) = AreTooMany items many
IsListCause version last items refusal = AnyIsRefused version last items refusal
