-- The rows of a snapshot that are right, and what their members mean.
use Rattle.std.proofs.Common.{◌≡◌, ℕ, ℤ, List, Option, Some, Ok, codes, refl, sym, ap}
use Rattle.serde_json.specs.Data.{Data, string, Members}
use Rattle.json_members.specs.declared.form.Form.{Form}
use Rattle.json_members.specs.declared.form.Form.TheVariants.{Any, Long, Natural}
use Rattle.json_members.specs.declared.rows.Keep.TheVariants.{InField}
use Rattle.json_members.specs.declared.rows.Need.{Need}
use Rattle.json_members.specs.declared.rows.Need.TheVariants.{Needed, MayBeAbsent, MayBeNull}
use Rattle.json_members.specs.declared.rows.Version.{Version}
use Rattle.json_members.specs.declared.rows.Version.TheVariants.{Older, Newer}
use Rattle.json_members.specs.Meaning.{IsLongIfSet, IsNaturalOr0}
use Rattle.json_members.specs.MeaningLaws.{row_of, natural_found, found_natural, long_found, found_long, natural_or_0}
use Rattle.json_members.specs.MeaningLaws.{or_0_natural, long_if_set, set_long, natural_if_set, set_natural}
use Rattle.json_members.specs.MeaningLaws.{natural_set_is}
use Rattle.json_members.specs.Rows.{Lookup, tested, AreRight}
use Rattle.json_members.specs.Values.{number_in, natural_in, number_since, number_or_0}
use Rattle.snapshot_entries.specs.declared.snapshot.Snapshot.{Snapshot}
use Rattle.snapshot_entries.specs.Members.{first_rows, other_rows, rows}
use Rattle.snapshot_entries.specs.Relation.{IsNewNumberFound, IsFound}

-- ---- the rows in two parts

-- the rows are right if those of both parts are
pub all_rows : (version : Version) (found : Lookup) → AreRight found (first_rows version)
    → AreRight found (other_rows version)
    → AreRight found (rows version)
all_rows Older found first other = (first.0, (first.1.0, (first.1.1.0, other)))
all_rows Newer found first other = (first.0, (first.1.0, (first.1.1.0, other)))

-- and the other way round
pub two_parts : (version : Version) (found : Lookup) → AreRight found (rows version)
    → AreRight found (first_rows version) × AreRight found (other_rows version)
two_parts Older found all = ((all.0, (all.1.0, (all.1.1.0, tt))), all.1.1.1)
two_parts Newer found all = ((all.0, (all.1.0, (all.1.1.0, tt))), all.1.1.1)

-- ---- the rows, and what their members mean

-- a row of both versions is right
abbrev IsRight : Need → Form → List ℕ → Lookup → Type 0
IsRight need form name found = tested (row_of need form name Older InField) (found name) ≡ Ok tt

-- the rows that both versions have first are right, and so is this
abbrev FirstAreRight : Lookup → Type 0 → Type 0
FirstAreRight found rest =
    IsRight Needed Natural (codes "snapshot-id") found
    × (IsRight Needed Long (codes "timestamp-ms") found
    × (IsRight MayBeAbsent Natural (codes "sequence-number") found
    × (IsRight MayBeNull Long (codes "parent-snapshot-id") found
    × (IsRight MayBeNull Long (codes "schema-id") found × rest))))

-- each number is the one that is read
pub record Numbers (version : Version) (found : Lookup) : Type 0 where
  pub id : natural_in (found (codes "snapshot-id")) ≡ Some (number_or_0 (found (codes "snapshot-id")))
  pub time : number_in (found (codes "timestamp-ms")) ≡ Some (number_or_0 (found (codes "timestamp-ms")))
  pub sequence : IsNaturalOr0 (found (codes "sequence-number")) (number_or_0 (found (codes "sequence-number")))
  pub parent : IsLongIfSet (found (codes "parent-snapshot-id")) (number_in (found (codes "parent-snapshot-id")))
  pub schema_id : IsLongIfSet (found (codes "schema-id")) (number_in (found (codes "schema-id")))
  pub first_row_id : IsNewNumberFound version (found (codes "first-row-id"))
      (number_since version (found (codes "first-row-id")))
  pub added_rows : IsNewNumberFound version (found (codes "added-rows"))
      (number_since version (found (codes "added-rows")))

numbers_with : (version : Version) (found : Lookup) (rest : Type 0) → FirstAreRight found rest
    → IsNewNumberFound version (found (codes "first-row-id")) (number_since version (found (codes "first-row-id")))
    → IsNewNumberFound version (found (codes "added-rows")) (number_since version (found (codes "added-rows")))
    → Numbers version found
numbers_with version found rest right first_row_id added_rows = record {
  id = natural_found (codes "snapshot-id") Older InField (found (codes "snapshot-id")) right.0;
  time = long_found (codes "timestamp-ms") Older InField (found (codes "timestamp-ms")) right.1.0;
  sequence = natural_or_0 (codes "sequence-number") Older InField (found (codes "sequence-number")) right.1.1.0;
  parent = long_if_set (codes "parent-snapshot-id") Older InField (found (codes "parent-snapshot-id")) right.1.1.1.0;
  schema_id = long_if_set (codes "schema-id") Older InField (found (codes "schema-id")) right.1.1.1.1.0;
  first_row_id = first_row_id;
  added_rows = added_rows;
}

-- of rows that are right
pub numbers : (version : Version) (found : Lookup) → AreRight found (rows version) → Numbers version found
numbers Older found right = numbers_with Older found _ right refl refl
numbers Newer found right =
    numbers_with Newer found _ right
    (natural_if_set (codes "first-row-id") Newer InField (found (codes "first-row-id")) right.1.1.1.1.1.0)
    (natural_if_set (codes "added-rows") Newer InField (found (codes "added-rows")) right.1.1.1.1.1.1.0)

right_with : (version : Version) (last : ℤ) (found : Lookup) (left : Members) (s : Snapshot) (rest : Type 0)
    → IsFound version last found left s → rest → FirstAreRight found rest
right_with version last found left s rest h right = (
  found_natural (codes "snapshot-id") Older InField (found (codes "snapshot-id")) s.id h.id,
  (
    found_long (codes "timestamp-ms") Older InField (found (codes "timestamp-ms")) s.time h.time,
    (
      or_0_natural (codes "sequence-number") Older InField (found (codes "sequence-number")) s.sequence h.sequence,
      (
        set_long (codes "parent-snapshot-id") Older InField (found (codes "parent-snapshot-id")) s.parent h.parent,
        (set_long (codes "schema-id") Older InField (found (codes "schema-id")) s.schema_id h.schema_id, right),
      ),
    ),
  ),
)

path_right : (found : Option Data) (path : List ℕ) → found ≡ Some (string path)
    → tested (row_of MayBeAbsent Any (codes "manifest-list") Older InField) found ≡ Ok tt
path_right found path is = ap (tested (row_of MayBeAbsent Any (codes "manifest-list") Older InField)) is

-- the rows of a snapshot's members are right
pub right_rows : (version : Version) (last : ℤ) (found : Lookup) (left : Members) (s : Snapshot)
    → IsFound version last found left s → AreRight found (rows version)
right_rows Older last found left s h =
    right_with Older last found left s _ h (path_right (found (codes "manifest-list")) s.list h.list, tt)
right_rows Newer last found left s h = right_with Newer last found left s _ h (
  set_natural (codes "first-row-id") Newer InField (found (codes "first-row-id")) s.first_row_id h.first_row_id,
  (
    set_natural (codes "added-rows") Newer InField (found (codes "added-rows")) s.added_rows h.added_rows,
    (path_right (found (codes "manifest-list")) s.list h.list, tt),
  ),
)

-- and the newer numbers are those that are read
pub since_is : (version : Version) (found : Option Data) (o : Option ℤ) → IsNewNumberFound version found o
    → number_since version found ≡ o
since_is Older found o is = sym is
since_is Newer found o is = natural_set_is found o is
