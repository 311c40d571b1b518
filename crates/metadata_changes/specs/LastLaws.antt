-- Snapshots and ids with one more at their end.
use Rattle.std.proofs.Common.{◌≡◌, ◌≢◌, ◌<◌, ◌≤◌, ℤ, pos, negsuc, ◌+ℤ◌, int_lt, length, List, [], ◌∷◌, ◌++◌, Bool}
use Rattle.std.proofs.lemmas.Bool.{or_parts}
use Rattle.std.proofs.Common.{true, false, not, ◌&&◌, ◌||◌, refl, ap, ◌∙◌, arith}
use Rattle.std.proofs.Common.{length-append}
use Rattle.std.proofs.lemmas.Int.{ints}
use Rattle.std.specs.Prelude.{◌≤ℤ◌}
use Rattle.std.specs.Ordering.{int_eq}
use Rattle.json_members.specs.declared.rows.Version.{Version}
use Rattle.json_members.specs.FieldLaws.{both}
use Rattle.snapshot_entries.specs.declared.snapshot.Snapshot.{Snapshot}
use Rattle.snapshot_entries.specs.Keys.{AreUnencrypted}
use Rattle.snapshot_entries.specs.List.{has_id, are_apart, most_snapshots}
use Rattle.snapshot_entries.specs.Snapshot.{IsNatural, IsSnapshot, AreSnapshots}
use Rattle.metadata_reading.specs.Relation.{ids, IsIdOf}

pub passed_on : (sequence last next : ℤ) → sequence ≤ℤ last → next ≡ last +ℤ pos 1 → sequence ≤ℤ next
passed_on sequence last next before is = grind (arith, ints)

pub older : (version : Version) (last next : ℤ) (s : Snapshot) → next ≡ last +ℤ pos 1 → IsSnapshot version last s
    → IsSnapshot version next s
older version last next s is h = record {
  id = h.id;
  parent = h.parent;
  sequence = h.sequence;
  passed = passed_on s.sequence last next h.passed is;
  time = h.time;
  schema_id = h.schema_id;
  first_row_id = h.first_row_id;
  added_rows = h.added_rows;
  path = h.path;
  carried = h.carried;
  plain = h.plain;
}

-- snapshots of a table are those of it after the next one, with that one last
pub all_with : (version : Version) (last next : ℤ) (snapshots : List Snapshot) (s : Snapshot) → next ≡ last +ℤ pos 1
    → AreSnapshots version last snapshots → IsSnapshot version next s → AreSnapshots version next (snapshots ++ s ∷ [])
all_with version last next [] s is all here = (here, tt)
all_with version last next (first ∷ snapshots) s is all here =
    (older version last next first is all.0, all_with version last next snapshots s is all.1 here)

pub unencrypted_with : (snapshots : List Snapshot) (s : Snapshot) → AreUnencrypted snapshots → AreUnencrypted (s ∷ [])
    → AreUnencrypted (snapshots ++ s ∷ [])
unencrypted_with [] s all here = here
unencrypted_with (first ∷ snapshots) s all here = (all.0, unencrypted_with snapshots s all.1 here)

pub few_with : (snapshots : List Snapshot) (s : Snapshot) → length snapshots < most_snapshots
    → length (snapshots ++ s ∷ []) ≤ most_snapshots
few_with snapshots s few = omega (arith, few, length-append snapshots (s ∷ []))

-- an id put last is among them
pub among_last : (all : List ℤ) (id : ℤ) → int_eq id id ≡ true → has_id (all ++ id ∷ []) id ≡ true
among_last [] id same = ap (λ (b : Bool). b || false) same
among_last (other ∷ all) id same = rw (among_last all id same) (or_true (int_eq other id))
  where
    or_true : (b : Bool) → (b || true) ≡ true
    or_true true = refl
    or_true false = refl

-- another id is among them as before
pub among_more : (all : List ℤ) (id other : ℤ) → int_eq id other ≡ false → has_id all other ≡ false
    → has_id (all ++ id ∷ []) other ≡ false
among_more [] id other new none = ap (λ (b : Bool). b || false) new
among_more (first ∷ all) id other new none =
    let p = or_parts (int_eq first other) (has_id all other) none in
    ap (λ (b : Bool). b || has_id (all ++ id ∷ []) other) p.0 ∙ among_more all id other new p.1

pub turned : (a b : ℤ) → int_eq a b ≡ false → int_eq b a ≡ false
turned a b is = grind (arith, ints)

pub negated : (b : Bool) → not b ≡ true → b ≡ false
negated true is = absurd cc
negated false is = refl

-- ids stay apart if a new one is put last
pub apart_with : (all : List ℤ) (id : ℤ) → are_apart all ≡ true → has_id all id ≡ false
    → are_apart (all ++ id ∷ []) ≡ true
apart_with [] id apart new = refl
apart_with (first ∷ all) id apart new =
    let p = both (not (has_id all first)) (are_apart all) apart in
    let q = or_parts (int_eq first id) (has_id all id) new in
    ap (λ (b : Bool). not b && are_apart (all ++ id ∷ []))
    (among_more all id first (turned first id q.0) (negated _ p.0))
    ∙ apart_with all id p.1 q.1

pub ids_with : (snapshots : List Snapshot) (s : Snapshot) → ids (snapshots ++ s ∷ []) ≡ ids snapshots ++ s.id ∷ []
ids_with [] s = refl
ids_with (first ∷ snapshots) s = ap (λ (all : List ℤ). first.id ∷ all) (ids_with snapshots s)

pub reflexive : (z : ℤ) → int_eq z z ≡ true
reflexive z = grind (arith, ints)

pub is_set : (z : ℤ) → int_lt z (pos 0) ≡ false → z ≢ negsuc 0
is_set z least is = absurd (grind (arith, ints))

pub current_with : (snapshots : List Snapshot) (s : Snapshot) → IsNatural s.id → IsIdOf (snapshots ++ s ∷ []) s.id
current_with snapshots s natural = record {
  among = ap (λ (all : List ℤ). has_id all s.id) (ids_with snapshots s)
      ∙ among_last (ids snapshots) s.id (reflexive s.id);
  set = is_set s.id natural.least;
}
