-- The snapshots of a list of plain objects have objects that are read as them.
use Rattle.std.proofs.Common.{◌≡◌, ℤ, pos, int_lt, List, [], ◌∷◌, true, Option, Some, None, is_some, codes}
use Rattle.std.proofs.Common.{refl, sym, ap, subst, ◌∙◌}
use Rattle.serde_json.specs.Data.{Data, object, Items, no_items, item, Members}
use Rattle.serde_json.specs.Find.{get_member}
use Rattle.json_members.specs.declared.rows.Version.{Version}
use Rattle.json_members.specs.declared.rows.Version.TheVariants.{Older, Newer}
use Rattle.json_members.specs.Form.{long_of}
use Rattle.json_members.specs.LackLaws.{lacks_without}
use Rattle.json_members.specs.Meaning.{IsLongIfSet, IsNaturalOr0}
use Rattle.json_members.specs.MeaningLaws.{natural_is_number, or_0}
use Rattle.json_members.specs.Members.{lacks, without}
use Rattle.json_members.specs.NumberLaws.{natural_is}
use Rattle.json_members.specs.Plain.{IsPlain, ArePlain, ItemsArePlain}
use Rattle.json_members.specs.PlainLaws.{plain_item, plain_object, plain_without}
use Rattle.json_members.specs.ValueLaws.{long_if_found}
use Rattle.json_members.specs.Values.{natural_in}
use Rattle.snapshot_entries.specs.declared.snapshot.Snapshot.{Snapshot}
use Rattle.snapshot_entries.specs.Members.{known}
use Rattle.snapshot_entries.specs.Relation.{IsNewNumberFound, IsSnapshotOf, AreEntries, AreSnapshotsOf}
use Rattle.snapshot_entries.specs.Snapshot.{IsNatural, IsLongIfAny, IsNewNumber, IsSnapshot, AreSnapshots}

-- ---- numbers

pub natural_kept : (found : Option Data) (z : ℤ) → natural_in found ≡ Some z → IsNatural z
natural_kept None z is = absurd cc
natural_kept (Some value) z is =
    let number = natural_is_number (Some value) z is in
    record {
      fits = long_if_found (Some value) z number;
      least = ap (λ (n : ℤ). int_lt n (pos 0)) (sym (or_0 (Some value) z number))
          ∙ natural_is (long_of value) (ap is_some is);
    }

or_0_kept : (found : Option Data) (z : ℤ) → IsNaturalOr0 found z → IsNatural z
or_0_kept None z is = subst IsNatural (sym is) (record { fits = refl; least = refl })
or_0_kept (Some value) z is = natural_kept (Some value) z is

long_kept : (found : Option Data) (o : Option ℤ) → IsLongIfSet found o → IsLongIfAny o
long_kept found None is = tt
long_kept found (Some z) is = long_if_found found z is

new_kept : (version : Version) (found : Option Data) (o : Option ℤ) → IsNewNumberFound version found o
    → IsNewNumber version o
new_kept Older found o is = is
new_kept Newer found None is = tt
new_kept Newer found (Some z) is = natural_kept found z is

-- ---- a snapshot

-- what it carries
rest_lacks : (version : Version) (members rest : Members) → without (known version) members ≡ rest
    → lacks (known version) rest ≡ true
rest_lacks version members rest is =
    ap (lacks (known version)) (sym is) ∙ lacks_without (known version) members

rest_plain : (version : Version) (members rest : Members) → ArePlain 124 members
    → without (known version) members ≡ rest
    → ArePlain 124 rest
rest_plain version members rest all is = subst (ArePlain 124) is (plain_without 124 (known version) members all)

snapshot_kept : (version : Version) (last : ℤ) (members : Members) (s : Snapshot) → ArePlain 124 members
    → IsSnapshotOf version last members s → IsSnapshot version last s
snapshot_kept version last members s plain h = record {
  id = natural_kept (get_member (codes "snapshot-id") members) s.id h.id;
  parent = long_kept (get_member (codes "parent-snapshot-id") members) s.parent h.parent;
  sequence = or_0_kept (get_member (codes "sequence-number") members) s.sequence h.sequence;
  passed = h.passed;
  time = long_if_found (get_member (codes "timestamp-ms") members) s.time h.time;
  schema_id = long_kept (get_member (codes "schema-id") members) s.schema_id h.schema_id;
  first_row_id = new_kept version (get_member (codes "first-row-id") members) s.first_row_id h.first_row_id;
  added_rows = new_kept version (get_member (codes "added-rows") members) s.added_rows h.added_rows;
  path = h.path;
  carried = rest_lacks version members s.rest h.rest;
  plain = rest_plain version members s.rest plain h.rest;
}

-- ---- snapshots

entries_kept : (version : Version) (last : ℤ) (items : Items) (snapshots : List Snapshot) → ItemsArePlain 125 items
    → AreEntries version last items snapshots → AreSnapshots version last snapshots
entries_kept version last no_items [] plain h = tt
entries_kept version last no_items (s ∷ snapshots) plain h = absurd h
entries_kept version last (item value items) [] plain h = absurd h
entries_kept version last (item value items) (s ∷ snapshots) plain h =
    let p = plain_item 125 value items plain in
    let here : IsPlain 125 (object h.0.members) = subst (IsPlain 125) h.0.is_object p.0 in (
      snapshot_kept version last h.0.members s (plain_object 124 h.0.members here) h.0.snapshot,
      entries_kept version last items snapshots p.1 h.1,
    )

-- those of a list of plain objects
pub kept : (version : Version) (last : ℤ) (items : Items) (snapshots : List Snapshot) → ItemsArePlain 125 items
    → AreSnapshotsOf version last items snapshots → AreSnapshots version last snapshots
kept version last items snapshots plain h = entries_kept version last items snapshots plain h.entries
