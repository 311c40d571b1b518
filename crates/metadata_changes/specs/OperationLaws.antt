-- A snapshot that carries nothing but its operation may come next.
use Rattle.std.proofs.Common.{◌≡◌, ◌<◌, ◌≤◌, ℕ, ℤ, pos, ◌+ℤ◌, length, List, Option, Some, None, true, false}
use Rattle.std.proofs.Common.{refl, sym, subst, arith}
use Rattle.std.proofs.lemmas.Int.{ints}
use Rattle.std.specs.Prelude.{◌≤ℤ◌, codes}
use Rattle.serde_json.specs.Data.{Members}
use Rattle.serde_json.specs.Find.{get_member}
use Rattle.json_members.specs.declared.rows.Version.{Version}
use Rattle.json_members.specs.declared.rows.Version.TheVariants.{Older, Newer}
use Rattle.json_members.specs.Form.{is_long}
use Rattle.json_members.specs.Meaning.{IsUnset}
use Rattle.json_members.specs.Members.{lacks}
use Rattle.json_members.specs.Plain.{ArePlain}
use Rattle.snapshot_entries.specs.declared.snapshot.Snapshot.{Snapshot}
use Rattle.snapshot_entries.specs.List.{has_id}
use Rattle.snapshot_entries.specs.Members.{known}
use Rattle.snapshot_entries.specs.Snapshot.{IsNatural, IsLongIfAny, IsNewNumber}
use Rattle.snapshot_entries.specs.Summary.{of_operation}
use Rattle.metadata_reading.specs.declared.meta.TableMeta.{TableMeta}
use Rattle.metadata_reading.specs.Relation.{ids}
use Rattle.metadata_reading.specs.Table.{IsNext}
use Rattle.metadata_reading.specs.Version.{format}
use Rattle.metadata_changes.specs.MayCome.{MayCome}

-- a number that the newer version must have is one that it may have
new_number : (version : Version) (number : Option ℤ) → IsNext version number → IsNewNumber version number
new_number Older number is = is
new_number Newer None is = tt
new_number Newer (Some z) is = is

-- no number is above itself
not_above : (z : ℤ) → z ≤ℤ z
not_above z = grind (arith, ints)

-- the operation has no name of a field
operation_lacks : (version : Version) (text : List ℕ) → lacks (known version) (of_operation text) ≡ true
operation_lacks Older text = refl
operation_lacks Newer text = refl

-- it has no float, and nests one deep
operation_plain : (text : List ℕ) → ArePlain 124 (of_operation text)
operation_plain text = record { shallow = omega arith; whole = refl }

-- a snapshot with a new id, the next sequence number, and row ids exactly if the version has them, may come next
pub operation_may_come : (m : TableMeta) (s : Snapshot) (next : Option ℤ) (text : List ℕ)
    → has_id (ids m.snapshots) s.id ≡ false → IsNatural s.id → IsLongIfAny s.parent
    → s.sequence ≡ m.last_sequence +ℤ pos 1 → IsNatural s.sequence → is_long s.time ≡ true
    → IsLongIfAny s.schema_id → length m.snapshots < 10000 → length s.list ≤ 1024 → IsNext (format m.version) next
    → IsNext (format m.version) s.first_row_id → IsNext (format m.version) s.added_rows → s.rest ≡ of_operation text
    → MayCome m s next
operation_may_come m s next text unused id parent after sequence time schema few path right first added rest = record {
  unused = unused;
  sequence = after;
  few = few;
  snapshot = record {
    id = id;
    parent = parent;
    sequence = sequence;
    passed = not_above s.sequence;
    time = time;
    schema_id = schema;
    first_row_id = new_number (format m.version) s.first_row_id first;
    added_rows = new_number (format m.version) s.added_rows added;
    path = path;
    carried = subst (λ (ms : Members). lacks (known (format m.version)) ms ≡ true) (sym rest)
        (operation_lacks (format m.version) text);
    plain = subst (ArePlain 124) (sym rest) (operation_plain text);
  };
  unencrypted = (subst (λ (ms : Members). IsUnset (get_member (codes "key-id") ms)) (sym rest) tt, tt);
  next_row_id = right;
}
