-- Which snapshot may come next in a table.
use Rattle.std.specs.Prelude.{◌≡◌, ◌<◌, ℤ, pos, ◌+ℤ◌, false, [], ◌∷◌, length, Option}
use Rattle.snapshot_entries.specs.declared.snapshot.Snapshot.{Snapshot}
use Rattle.snapshot_entries.specs.List.{has_id, most_snapshots}
use Rattle.snapshot_entries.specs.Snapshot.{IsSnapshot}
use Rattle.snapshot_entries.specs.Keys.{AreUnencrypted}
use Rattle.metadata_reading.specs.declared.meta.TableMeta.{TableMeta}
use Rattle.metadata_reading.specs.Relation.{ids}
use Rattle.metadata_reading.specs.Table.{IsNext}
use Rattle.metadata_reading.specs.Version.{format}

-- a snapshot that may come next, with the table's next row id after it
pub record MayCome (m : TableMeta) (s : Snapshot) (next : Option ℤ) : Type 0 where
  pub unused : has_id (ids m.snapshots) s.id ≡ false
  pub sequence : s.sequence ≡ m.last_sequence +ℤ pos 1
  pub few : length m.snapshots < most_snapshots
  pub snapshot : IsSnapshot (format m.version) s.sequence s
  pub unencrypted : AreUnencrypted (s ∷ [])
  pub next_row_id : IsNext (format m.version) next
