-- The object of a snapshot is read as the snapshot.
use Rattle.std.proofs.Common.{◌≡◌, ◌≤◌, ℕ, ℤ, pos, int_lt, List, [], ◌∷◌, length, map, Bool, true, false, ◌&&◌, Option}
use Rattle.std.proofs.Common.{Some, None, option_map, Ok, codes, refl, sym, ap, subst, ◌∙◌}
use mathlib.Core.Path.{fun_ext}
use Rattle.serde_json.specs.Data.{Data}
use Rattle.serde_json.specs.Find.{get_member}
use Rattle.serde_json.specs.View.{items_of}
use Rattle.json_members.specs.declared.rows.Version.{Version}
use Rattle.json_members.specs.declared.rows.Version.TheVariants.{Older, Newer}
use Rattle.json_members.specs.FieldLaws.{get_fields, without_fields}
use Rattle.json_members.specs.Form.{is_long}
use Rattle.json_members.specs.LackLaws.{without_lacking, get_lacked}
use Rattle.json_members.specs.MeaningLaws.{long_written, natural_written, long_set_again, natural_set_again}
use Rattle.json_members.specs.Members.{without, with_fields, found_in, is_among, is_field_among, are_among}
use Rattle.json_members.specs.Rows.{Lookup}
use Rattle.json_members.specs.Values.{whole}
use Rattle.snapshot_entries.specs.declared.snapshot.Snapshot.{Snapshot}
use Rattle.snapshot_entries.specs.FoundLaws.{snapshots_only}
use Rattle.snapshot_entries.specs.List.{most_snapshots}
use Rattle.snapshot_entries.specs.Members.{known}
use Rattle.snapshot_entries.specs.Printing.{snapshot_fields, snapshot_value}
use Rattle.snapshot_entries.specs.Reading.{snapshots_in}
use Rattle.snapshot_entries.specs.Relation.{IsNewNumberFound, IsFound, IsSnapshotOf, AreEntries, AreSnapshotsOf}
use Rattle.snapshot_entries.specs.Snapshot.{IsLongIfAny, IsNewNumber, IsSnapshot, AreSnapshots}

-- what is found in a snapshot's object
abbrev pub looked : Snapshot → Lookup
looked s name = found_in name (snapshot_fields s) (get_member name s.rest)

found_is : (s : Snapshot) → (λ (name : List ℕ). get_member name (with_fields (snapshot_fields s) s.rest)) ≡ looked s
found_is s = fun_ext (λ name. get_fields name (snapshot_fields s) s.rest)

-- ---- numbers

long_any : (o : Option ℤ) (z : ℤ) → IsLongIfAny o → o ≡ Some z → is_long z ≡ true
long_any None z h is = absurd cc
long_any (Some y) z h is = let same : y ≡ z = cc in ap is_long (sym same) ∙ h

natural_any : (o : Option ℤ) (z : ℤ) → IsNewNumber Newer o → o ≡ Some z
    → (is_long z ≡ true) × (int_lt z (pos 0) ≡ false)
natural_any None z h is = absurd cc
natural_any (Some y) z h is =
    let same : y ≡ z = cc in
    (ap is_long (sym same) ∙ h.fits, ap (λ (n : ℤ). int_lt n (pos 0)) (sym same) ∙ h.least)

-- ---- the members that are left

among_if : (name : List ℕ) (value : Option Data) (names : List (List ℕ)) → is_among name names ≡ true
    → is_field_among name value names ≡ true
among_if name None names is = refl
among_if name (Some value) names is = is

all_four : (a b c d : Bool) → a ≡ true → b ≡ true → c ≡ true → d ≡ true → (a && (b && (c && (d && true)))) ≡ true
all_four a b c d p q r s = rw (p, q, r, s) refl

left_is : (version : Version) (last : ℤ) (s : Snapshot) → IsSnapshot version last s
    → are_among (snapshot_fields s) (known version) ≡ true
    → without (known version) (with_fields (snapshot_fields s) s.rest) ≡ s.rest
left_is version last s h among =
    without_fields (known version) (snapshot_fields s) s.rest among ∙ without_lacking (known version) s.rest h.carried

fields_known_newer : (s : Snapshot) → are_among (snapshot_fields s) (known Newer) ≡ true
fields_known_newer s =
    all_four _ _ _ _ (among_if (codes "parent-snapshot-id") (option_map whole s.parent) (known Newer) refl)
    (among_if (codes "schema-id") (option_map whole s.schema_id) (known Newer) refl)
    (among_if (codes "first-row-id") (option_map whole s.first_row_id) (known Newer) refl)
    (among_if (codes "added-rows") (option_map whole s.added_rows) (known Newer) refl)

none_among : (name : List ℕ) (o : Option ℤ) (names : List (List ℕ)) → o ≡ None
    → is_field_among name (option_map whole o) names ≡ true
none_among name o names is = ap (λ (o : Option ℤ). is_field_among name (option_map whole o) names) is

fields_known_older : (s : Snapshot) → s.first_row_id ≡ None → s.added_rows ≡ None
    → are_among (snapshot_fields s) (known Older) ≡ true
fields_known_older s first added =
    all_four _ _ _ _ (among_if (codes "parent-snapshot-id") (option_map whole s.parent) (known Older) refl)
    (among_if (codes "schema-id") (option_map whole s.schema_id) (known Older) refl)
    (none_among (codes "first-row-id") s.first_row_id (known Older) first)
    (none_among (codes "added-rows") s.added_rows (known Older) added)

-- ---- a snapshot

-- what is found in its object, with what differs by version
found_with : (version : Version) (last : ℤ) (s : Snapshot) → IsSnapshot version last s
    → get_member (codes "parent-snapshot-id") s.rest ≡ None → get_member (codes "schema-id") s.rest ≡ None
    → IsNewNumberFound version (looked s (codes "first-row-id")) s.first_row_id
    → IsNewNumberFound version (looked s (codes "added-rows")) s.added_rows
    → are_among (snapshot_fields s) (known version) ≡ true
    → IsFound version last (looked s) (without (known version) (with_fields (snapshot_fields s) s.rest)) s
found_with version last s h parent schema_id first_row_id added_rows among = record {
  id = natural_written s.id h.id.fits h.id.least;
  time = long_written s.time h.time;
  sequence = natural_written s.sequence h.sequence.fits h.sequence.least;
  passed = h.passed;
  parent = long_set_again s.parent (get_member (codes "parent-snapshot-id") s.rest) parent
      (λ z. long_any s.parent z h.parent);
  schema_id = long_set_again s.schema_id (get_member (codes "schema-id") s.rest) schema_id
      (λ z. long_any s.schema_id z h.schema_id);
  first_row_id = first_row_id;
  added_rows = added_rows;
  list = refl;
  path = h.path;
  rest = left_is version last s h among;
}

-- and in each version
found_again : (version : Version) (last : ℤ) (s : Snapshot) → IsSnapshot version last s
    → IsFound version last (looked s) (without (known version) (with_fields (snapshot_fields s) s.rest)) s
found_again Older last s h =
    found_with Older last s h (get_lacked (codes "parent-snapshot-id") (known Older) s.rest refl h.carried)
    (get_lacked (codes "schema-id") (known Older) s.rest refl h.carried) h.first_row_id h.added_rows
    (fields_known_older s h.first_row_id h.added_rows)
found_again Newer last s h =
    found_with Newer last s h (get_lacked (codes "parent-snapshot-id") (known Newer) s.rest refl h.carried)
    (get_lacked (codes "schema-id") (known Newer) s.rest refl h.carried)
    (natural_set_again s.first_row_id (get_member (codes "first-row-id") s.rest)
    (get_lacked (codes "first-row-id") (known Newer) s.rest refl h.carried)
    (λ z. natural_any s.first_row_id z h.first_row_id))
    (natural_set_again s.added_rows (get_member (codes "added-rows") s.rest)
    (get_lacked (codes "added-rows") (known Newer) s.rest refl h.carried)
    (λ z. natural_any s.added_rows z h.added_rows))
    (fields_known_newer s)

-- its object is the snapshot
pub snapshot_again : (version : Version) (last : ℤ) (s : Snapshot) → IsSnapshot version last s
    → IsSnapshotOf version last (with_fields (snapshot_fields s) s.rest) s
snapshot_again version last s h =
    subst (λ (found : Lookup). IsFound version last found (without (known version) (with_fields
    (snapshot_fields s) s.rest)) s)
    (sym (found_is s)) (found_again version last s h)

-- ---- snapshots

-- their objects are these snapshots
pub entries_again : (version : Version) (last : ℤ) (snapshots : List Snapshot) → AreSnapshots version last snapshots
    → AreEntries version last (items_of (map snapshot_value snapshots)) snapshots
entries_again version last [] h = tt
entries_again version last (s ∷ snapshots) h = (
  record {
    members = with_fields (snapshot_fields s) s.rest;
    is_object = refl;
    snapshot = snapshot_again version last s h.0;
  },
  entries_again version last snapshots h.1,
)

-- of few snapshots they are a list within its limits
pub list_again : (version : Version) (last : ℤ) (snapshots : List Snapshot) → AreSnapshots version last snapshots
    → length snapshots ≤ most_snapshots
    → AreSnapshotsOf version last (items_of (map snapshot_value snapshots)) snapshots
list_again version last snapshots h few = record { few = few; entries = entries_again version last snapshots h }

-- and are read as them
pub snapshots_again : (version : Version) (last : ℤ) (snapshots : List Snapshot) → AreSnapshots version last snapshots
    → length snapshots ≤ most_snapshots
    → snapshots_in version last (items_of (map snapshot_value snapshots)) ≡ Ok snapshots
snapshots_again version last snapshots h few =
    snapshots_only version last _ snapshots (list_again version last snapshots h few)
