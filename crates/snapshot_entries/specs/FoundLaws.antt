-- What is read of a list are its snapshots, and a list that has snapshots is read as them.
use Rattle.std.proofs.Common.{◌≡◌, ℕ, ℤ, int_lt, ◌≤◌, ◌≤ℤ◌, List, [], ◌∷◌, ◌++◌, length, Bool, false, Option, Some}
use Rattle.std.proofs.Common.{None, Result, Ok, Err, codes, if◌then◌else◌, refl, sym, ap, subst, ◌∙◌, append_assoc}
use Rattle.std.proofs.Common.{append-nil, arith}
use Rattle.std.proofs.lemmas.Int.{ints}
use Rattle.words.specs.Reading.{◌>>=◌, map_refusal}
use Rattle.words.specs.Steps.{bind_ok, bind_only, map_ok, ok_is, test_failed}
use Rattle.serde_json.specs.Data.{Data, null, boolean, number, string, array, object, Items, no_items, item, Members}
use Rattle.json_members.specs.declared.rows.Version.{Version}
use Rattle.json_members.specs.MeaningLaws.{natural_is_number, or_0, or_0_is, if_set_is}
use Rattle.json_members.specs.Rows.{Lookup, checked_by}
use Rattle.json_members.specs.RowLaws.{all_right, no_fault}
use Rattle.json_members.specs.Values.{number_or_0, text_or_empty}
use Rattle.snapshot_entries.specs.declared.snapshot.Snapshot.{Snapshot}
use Rattle.snapshot_entries.specs.declared.refusal.SnapshotRefusal.{SnapshotRefusal}
use Rattle.snapshot_entries.specs.declared.refusal.SnapshotRefusal.TheVariants.{Wrong}
use Rattle.snapshot_entries.specs.EntryLaws.{entries_many, entries_short}
use Rattle.snapshot_entries.specs.List.{most_snapshots, most_path, path_length, paths_checked, limits_checked}
use Rattle.snapshot_entries.specs.ListLaws.{paths_short, limits_kept, kept_limits}
use Rattle.snapshot_entries.specs.Members.{first_rows, other_rows}
use Rattle.snapshot_entries.specs.Reading.{passed, path_in, path_by, snapshot_with, snapshot_by, snapshot_at}
use Rattle.snapshot_entries.specs.Reading.{snapshots_from, snapshots_in}
use Rattle.snapshot_entries.specs.Refusal.{of_fault}
use Rattle.snapshot_entries.specs.Relation.{IsFound, IsEntry, AreEntries, AreSnapshotsOf}
use Rattle.snapshot_entries.specs.RowLaws.{all_rows, two_parts, Numbers, numbers, right_rows, since_is}

-- ---- one snapshot

at_most : (last sequence : ℤ) → int_lt last sequence ≡ false → sequence ≤ℤ last
at_most last sequence is = grind (arith, ints)

not_above : (last sequence : ℤ) → sequence ≤ℤ last → int_lt last sequence ≡ false
not_above last sequence is = grind (arith, ints)

passed_found : (last sequence : ℤ) (x : Unit {0}) → passed last sequence ≡ Ok x → sequence ≤ℤ last
passed_found last sequence x is =
    at_most last sequence (test_failed (int_lt last sequence) (Ok tt) (Wrong (codes "sequence-number")) x is).0

passed_only : (last sequence : ℤ) → sequence ≤ℤ last → passed last sequence ≡ Ok tt
passed_only last sequence le =
    ap (λ (b : Bool). if b then Err (Wrong (codes "sequence-number")) else Ok tt) (not_above last sequence le)

path_found : (id : ℤ) (found : Option Data) (path : List ℕ) → path_in id found ≡ Ok path → found ≡ Some (string path)
path_found id None path is = absurd cc
path_found id (Some null) path is = absurd cc
path_found id (Some (boolean b)) path is = absurd cc
path_found id (Some (number n)) path is = absurd cc
path_found id (Some (string text)) path is = let same : text ≡ path = cc in ap (λ (t : List ℕ). Some (string t)) same
path_found id (Some (array items)) path is = absurd cc
path_found id (Some (object ms)) path is = absurd cc

-- the snapshot of members whose rows are right, and whose path is short enough
found_with : (version : Version) (last : ℤ) (found : Lookup) (left : Members) (path : List ℕ) → Numbers version found
    → number_or_0 (found (codes "sequence-number")) ≤ℤ last → found (codes "manifest-list") ≡ Some (string path)
    → length path ≤ most_path → IsFound version last found left (snapshot_with version found left path)
found_with version last found left path n passed list short = record {
  id = n.id;
  time = n.time;
  sequence = n.sequence;
  passed = passed;
  parent = n.parent;
  schema_id = n.schema_id;
  first_row_id = n.first_row_id;
  added_rows = n.added_rows;
  list = list;
  path = short;
  rest = refl;
}

-- a snapshot that is read is what is found
pub by_found : (version : Version) (last : ℤ) (found : Lookup) (left : Members) (s : Snapshot)
    → length (text_or_empty (found (codes "manifest-list"))) ≤ most_path → snapshot_by version last found left ≡ Ok s
    → IsFound version last found left s
by_found version last found left s short is =
    let p = bind_ok (path_by version last found) _ s is in
    let a = bind_ok (map_refusal of_fault (checked_by found (first_rows version))) _ p.0 p.1 in
    let b = bind_ok (passed last (number_or_0 (found (codes "sequence-number")))) _ p.0 a.2 in
    let c = bind_ok (map_refusal of_fault (checked_by found (other_rows version))) _ p.0 b.2 in
    let right = all_rows version found (all_right found (first_rows version) (map_ok of_fault _ a.0 a.1))
    (all_right found (other_rows version) (map_ok of_fault _ c.0 c.1)) in
    let list = path_found _ _ p.0 c.2 in
    let path : length p.0 ≤ most_path
    = subst (λ (o : Option Data). length (text_or_empty o) ≤ most_path) list short in
    subst (IsFound version last found left) (ok_is (snapshot_with version found left p.0) s p.2)
    (found_with version last found left p.0 (numbers version found right) (passed_found last _ b.0 b.1) list path)

abbrev made : ℤ → Option ℤ → ℤ → ℤ → List ℕ → Option ℤ → Option ℤ → Option ℤ → Members → Snapshot
made id parent sequence time list schema_id first_row_id added_rows rest = record {
  id = id;
  parent = parent;
  sequence = sequence;
  time = time;
  list = list;
  schema_id = schema_id;
  first_row_id = first_row_id;
  added_rows = added_rows;
  rest = rest;
}

same_record : {A B C D E F G H I J : Type 0} (f : A → B → C → D → E → F → G → H → I
    → J) (a a' : A) (b b' : B) (c c' : C)
    (d d' : D) (e e' : E) (g g' : F) (h h' : G) (i i' : H) (j j' : I) → a ≡ a' → b ≡ b' → c ≡ c' → d ≡ d' → e ≡ e'
    → g ≡ g' → h ≡ h' → i ≡ i' → j ≡ j' → f a b c d e g h i j ≡ f a' b' c' d' e' g' h' i' j'
same_record f a a' b b' c c' d d' e e' g g' h h' i i' j j' p q r t u v w x y = cc

-- it is the record of what is found
record_is : (version : Version) (last : ℤ) (found : Lookup) (left : Members) (s : Snapshot)
    → IsFound version last found left s → snapshot_with version found left s.list ≡ s
record_is version last found left s h =
    same_record made _ s.id _ s.parent _ s.sequence _ s.time s.list s.list _ s.schema_id _ s.first_row_id _ s.added_rows
    left s.rest
    (or_0 (found (codes "snapshot-id")) s.id (natural_is_number (found (codes "snapshot-id")) s.id h.id))
    (if_set_is (found (codes "parent-snapshot-id")) s.parent h.parent)
    (or_0_is (found (codes "sequence-number")) s.sequence h.sequence)
    (or_0 (found (codes "timestamp-ms")) s.time h.time) refl
    (if_set_is (found (codes "schema-id")) s.schema_id h.schema_id)
    (since_is version (found (codes "first-row-id")) s.first_row_id h.first_row_id)
    (since_is version (found (codes "added-rows")) s.added_rows h.added_rows) h.rest

-- and what is found is read
pub by_only : (version : Version) (last : ℤ) (found : Lookup) (left : Members) (s : Snapshot)
    → IsFound version last found left s → snapshot_by version last found left ≡ Ok s
by_only version last found left s h =
    let parts = two_parts version found (right_rows version last found left s h) in
    let sequence = or_0_is (found (codes "sequence-number")) s.sequence h.sequence in
    let le : number_or_0 (found (codes "sequence-number")) ≤ℤ last
    = subst (λ (z : ℤ). z ≤ℤ last) (sym sequence) h.passed in
    let path : path_by version last found ≡ Ok s.list =
    bind_only _ _ tt _ (ap (map_refusal of_fault) (no_fault found (first_rows version) parts.0))
    (bind_only _ _ tt _ (passed_only last _ le)
    (bind_only _ _ tt _ (ap (map_refusal of_fault) (no_fault found (other_rows version) parts.1))
    (ap (path_in (number_or_0 (found (codes "snapshot-id")))) h.list))) in
    ap (λ (r : Result (List ℕ) SnapshotRefusal). r >>= (λ path. Ok (snapshot_with version found left path))) path
    ∙ ap Ok (record_is version last found left s h)

-- ---- snapshots

entry_found : (version : Version) (last : ℤ) (value : Data) (s : Snapshot) → path_length value ≤ most_path
    → snapshot_at version last value ≡ Ok s → IsEntry version last value s
entry_found version last null s short is = absurd cc
entry_found version last (boolean b) s short is = absurd cc
entry_found version last (number n) s short is = absurd cc
entry_found version last (string t) s short is = absurd cc
entry_found version last (array items) s short is = absurd cc
entry_found version last (object members) s short is =
    record { members = members; is_object = refl; snapshot = by_found version last _ _ s short is }

-- the snapshots that are read after others are those of the list
entries_found : (version : Version) (last : ℤ) (seen : List Snapshot) (items : Items) (all : List Snapshot)
    → paths_checked items ≡ Ok tt → snapshots_from version last seen items ≡ Ok all
    → (new : List Snapshot) × (all ≡ seen ++ new) × AreEntries version last items new
entries_found version last seen no_items all short is = ([], sym (ok_is seen all is) ∙ sym (append-nil seen), tt)
entries_found version last seen (item value items) all short is =
    let paths = paths_short value items short in
    let a = bind_ok (snapshot_at version last value) _ all is in
    let rest = entries_found version last (seen ++ a.0 ∷ []) items all paths.1 a.2 in
    let here = entry_found version last value a.0 paths.0 a.1 in
    (a.0 ∷ rest.0, rest.1 ∙ append_assoc seen (a.0 ∷ []) rest.0, (here, rest.2))

-- and those of the list are read
entries_only : (version : Version) (last : ℤ) (seen : List Snapshot) (items : Items) (new : List Snapshot)
    → AreEntries version last items new → snapshots_from version last seen items ≡ Ok (seen ++ new)
entries_only version last seen no_items [] h = ap Ok (sym (append-nil seen))
entries_only version last seen no_items (s ∷ new) h = absurd h
entries_only version last seen (item value items) [] h = absurd h
entries_only version last seen (item value items) (s ∷ new) h =
    let read : snapshot_at version last value ≡ Ok s =
    ap (snapshot_at version last) h.0.is_object ∙ by_only version last _ _ s h.0.snapshot in
    ap (λ (r : Result Snapshot SnapshotRefusal). r >>= (λ s. snapshots_from version last (seen ++ s ∷ []) items)) read
    ∙ entries_only version last (seen ++ s ∷ []) items new h.1 ∙ ap Ok (append_assoc seen (s ∷ []) new)

-- ---- a list within its limits

-- the snapshots that are read are those of the list
pub snapshots_found : (version : Version) (last : ℤ) (items : Items) (snapshots : List Snapshot)
    → snapshots_in version last items ≡ Ok snapshots → AreSnapshotsOf version last items snapshots
snapshots_found version last items snapshots is =
    let p = bind_ok (limits_checked items) _ snapshots is in
    let limits = limits_kept items p.1 in
    let read = entries_found version last [] items snapshots limits.1 p.2 in
    let entries = subst (AreEntries version last items) (sym read.1) read.2 in
    let few = subst (λ (n : ℕ). n ≤ most_snapshots) (entries_many version last items snapshots entries) limits.0 in
    record { few = few; entries = entries }

-- and those of the list are read
pub snapshots_only : (version : Version) (last : ℤ) (items : Items) (snapshots : List Snapshot)
    → AreSnapshotsOf version last items snapshots → snapshots_in version last items ≡ Ok snapshots
snapshots_only version last items snapshots h =
    let many = entries_many version last items snapshots h.entries in
    let few = subst (λ (n : ℕ). n ≤ most_snapshots) (sym many) h.few in
    let short = entries_short version last items snapshots h.entries in
    bind_only (limits_checked items) _ tt _ (kept_limits items few short)
    (entries_only version last [] items snapshots h.entries)
