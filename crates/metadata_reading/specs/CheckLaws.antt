-- What the checks of all members mean: the version, the table's id, and each part of the table.
use Rattle.std.proofs.Common.{◌≡◌, ℕ, ℤ, pos, List, Bool, true, false, if◌then◌else◌, Option, Some, None}
use Rattle.std.proofs.Common.{is_some, Result, Ok, Err, codes, inl, inr, refl, sym, ap, ◌∙◌}
use Rattle.std.proofs.lemmas.Bool.Decides.{Decides-int_eq}
use Rattle.std.specs.Ordering.{int_eq}
use Rattle.words.specs.Reading.{map_refusal}
use Rattle.words.specs.Steps.{bind_ok, bind_only, map_ok, test_passed}
use Rattle.serde_json.specs.Data.{Data, string}
use Rattle.json_members.specs.declared.rows.Version.{Version as Members}
use Rattle.json_members.specs.declared.rows.Version.TheVariants.{Older, Newer}
use Rattle.json_members.specs.Form.{items_in, long_of}
use Rattle.json_members.specs.RowLaws.{all_right, no_fault}
use Rattle.json_members.specs.Rows.{Lookup, AreRight}
use Rattle.json_members.specs.Values.{number_in, number_or_0, text_or_empty}
use Rattle.snapshot_entries.specs.List.{are_distinct, ids_checked}
use Rattle.snapshot_entries.specs.declared.refusal.SnapshotRefusal.TheVariants as snapshots
use Rattle.metadata_reading.specs.declared.refusal.MetaRefusal.{MetaRefusal}
use Rattle.metadata_reading.specs.declared.refusal.MetaRefusal.TheVariants.{Wrong, Version}
use Rattle.metadata_reading.specs.Members.{part}
use Rattle.metadata_reading.specs.Reading.{rows_checked, current_in, current_checked, schemas_by, snapshots_by}
use Rattle.metadata_reading.specs.Reading.{members_by}
use Rattle.metadata_reading.specs.Refusal.{of_fault, of_snapshots}
use Rattle.metadata_reading.specs.Relation.{IsUuid}
use Rattle.metadata_reading.specs.Schemas.{are_schemas, schemas_checked, schema_of, are_specs}
use Rattle.metadata_reading.specs.Schemas.{specs_checked}
use Rattle.metadata_reading.specs.Version.{IsVersion, version_of, version_in, uuid_of, uuid_in}

-- a check that passes
abbrev pub passed : Result (Unit {0}) MetaRefusal
passed = Ok tt

-- ---- the version, and the table's id

number_version : (o : Option ℤ) (version : ℕ) → version_of o ≡ Ok version → (o ≡ Some (pos version)) × IsVersion version
number_version None version is = absurd cc
number_version (Some n) version is = by_two (int_eq n (pos 2)) refl is
  where
    by_three : (b : Bool) → int_eq n (pos 3) ≡ b → (if b then Ok 3 else Err (Version n)) ≡ Ok version
        → (Some n ≡ Some (pos version)) × IsVersion version
    by_three true three is =
        let same : 3 ≡ version = cc in
        (ap Some ((Decides-int_eq n (pos 3)).0 three ∙ ap pos same), inr (sym same))
    by_three false three is = absurd cc

    by_two : (b : Bool) → int_eq n (pos 2) ≡ b
        → (if b then Ok 2 else (if int_eq n (pos 3) then Ok 3 else Err (Version n))) ≡ Ok version
        → (Some n ≡ Some (pos version)) × IsVersion version
    by_two true two is =
        let same : 2 ≡ version = cc in
        (ap Some ((Decides-int_eq n (pos 2)).0 two ∙ ap pos same), inl (sym same))
    by_two false two is = by_three (int_eq n (pos 3)) refl is

-- the version is the number that is found: 2 or 3
pub version_found : (found : Option Data) (version : ℕ) → version_in found ≡ Ok version
    → (number_in found ≡ Some (pos version)) × IsVersion version
version_found None version is = absurd cc
version_found (Some value) version is = number_version (long_of value) version is

version_again : (version : ℕ) → IsVersion version → version_of (Some (pos version)) ≡ Ok version
version_again version (inl two) = ap (λ (n : ℕ). version_of (Some (pos n))) two ∙ ap Ok (sym two)
version_again version (inr three) = ap (λ (n : ℕ). version_of (Some (pos n))) three ∙ ap Ok (sym three)

-- and such a number is read
pub found_version : (found : Option Data) (version : ℕ) → number_in found ≡ Some (pos version) → IsVersion version
    → version_in found ≡ Ok version
found_version None version is right = absurd cc
found_version (Some value) version is right = ap version_of is ∙ version_again version right

uuid_some : (o : Option (List ℕ)) (uuid : List ℕ) → uuid_of o ≡ Ok uuid → o ≡ Some uuid
uuid_some None uuid is = absurd cc
uuid_some (Some other) uuid is = let same : other ≡ uuid = cc in ap Some same

-- the id is that of the text that is found
pub uuid_found : (found : Option Data) (uuid : List ℕ) → found ≡ Some (string (text_or_empty found))
    → uuid_in found ≡ Ok uuid → IsUuid found uuid
uuid_found found uuid text is =
    record { text = text_or_empty found; is_text = text; is_id = uuid_some _ uuid (sym (ap uuid_in text) ∙ is) }

-- and such a text is read
pub found_uuid : (found : Option Data) (uuid : List ℕ) → IsUuid found uuid → uuid_in found ≡ Ok uuid
found_uuid found uuid h = ap uuid_in h.is_text ∙ ap uuid_of h.is_id

-- ---- the table, part by part

-- rows of a part without a fault are right
pub rows_right : (version : Members) (from count : ℕ) (found : Lookup) (x : Unit {0})
    → rows_checked version from count found ≡ Ok x → AreRight found (part from count version)
rows_right version from count found x is = all_right found (part from count version) (map_ok of_fault _ x is)

pub right_rows : (version : Members) (from count : ℕ) (found : Lookup) → AreRight found (part from count version)
    → rows_checked version from count found ≡ Ok tt
right_rows version from count found right =
    ap (map_refusal of_fault) (no_fault found (part from count version) right)

-- a part that is the same in both versions
pub in_both : (from count : ℕ) → part from count Newer ≡ part from count Older → (version : Members)
    → part from count version ≡ part from count Older
in_both from count same Older = refl
in_both from count same Newer = same

-- all checks of the members after the table's id pass
pub record Checked (version : Members) (found : Lookup) : Type 0 where
  pub first : AreRight found (part 2 5 version)
  pub schemas : are_schemas (items_in (found (codes "schemas"))) ≡ true
  pub schema_id : AreRight found (part 7 1 version)
  pub schema : is_some (schema_of (number_or_0 (found (codes "current-schema-id")))
      (items_in (found (codes "schemas")))) ≡ true
  pub partition_specs : AreRight found (part 8 1 version)
  pub specs : are_specs (items_in (found (codes "partition-specs"))) ≡ true
  pub numbers : AreRight found (part 9 3 version)
  pub ids : are_distinct (items_in (found (codes "snapshots"))) ≡ true
  pub current_id : AreRight found (part 12 1 version)
  pub current : current_checked (current_in (found (codes "current-snapshot-id")))
      (items_in (found (codes "snapshots"))) ≡ Ok tt
  pub last : AreRight found (part 13 5 version)

-- they do if the members are read
pub all_checked : (version : Members) (found : Lookup) (x : Unit {0}) → members_by version found ≡ Ok x
    → Checked version found
all_checked version found x is =
    let a = bind_ok (schemas_by version found) _ x is in
    let a1 = bind_ok (rows_checked version 2 5 found) _ a.0 a.1 in
    let a2 = bind_ok (schemas_checked (items_in (found (codes "schemas")))) _ a.0 a1.2 in
    let a3 = bind_ok (rows_checked version 7 1 found) _ a.0 a2.2 in
    let b = bind_ok (rows_checked version 8 1 found) _ x a.2 in
    let c = bind_ok (specs_checked (items_in (found (codes "partition-specs")))) _ x b.2 in
    let d = bind_ok (snapshots_by version found) _ x c.2 in
    let d1 = bind_ok (rows_checked version 9 3 found) _ d.0 d.1 in
    let d2 = bind_ok (map_refusal of_snapshots (ids_checked (items_in (found (codes "snapshots"))))) _ d.0 d1.2 in
    let d3 = bind_ok (rows_checked version 12 1 found) _ d.0 d2.2 in
    record {
      first = rows_right version 2 5 found a1.0 a1.1;
      schemas = (test_passed (are_schemas (items_in (found (codes "schemas")))) (Ok tt) _ a2.0 a2.1).0;
      schema_id = rows_right version 7 1 found a3.0 a3.1;
      schema = (test_passed (is_some (schema_of (number_or_0 (found (codes "current-schema-id")))
          (items_in (found (codes "schemas"))))) passed (Wrong (codes "current-schema-id")) a.0 a3.2).0;
      partition_specs = rows_right version 8 1 found b.0 b.1;
      specs = (test_passed (are_specs (items_in (found (codes "partition-specs")))) (Ok tt) _ c.0 c.1).0;
      numbers = rows_right version 9 3 found d1.0 d1.1;
      ids = (test_passed (are_distinct (items_in (found (codes "snapshots")))) (Ok tt) _ d2.0
          (map_ok of_snapshots (ids_checked (items_in (found (codes "snapshots")))) d2.0 d2.1)).0;
      current_id = rows_right version 12 1 found d3.0 d3.1;
      current = d3.2;
      last = rows_right version 13 5 found x d.2;
    }

passed_if : (b : Bool) (refusal : MetaRefusal) → b ≡ true → (if b then passed else Err refusal) ≡ passed
passed_if b refusal is = ap (λ (b : Bool). if b then passed else Err refusal) is

-- and the members are read if they do
pub checked_all : (version : Members) (found : Lookup) → Checked version found → members_by version found ≡ Ok tt
checked_all version found h =
    let schemas : schemas_by version found ≡ Ok tt =
    bind_only _ _ tt _ (right_rows version 2 5 found h.first)
    (bind_only _ _ tt _ (passed_if _ _ h.schemas)
    (bind_only _ _ tt _ (right_rows version 7 1 found h.schema_id) (passed_if _ _ h.schema))) in
    let ids : map_refusal of_snapshots (ids_checked (items_in (found (codes "snapshots")))) ≡ Ok tt =
    ap (λ (b : Bool). map_refusal of_snapshots (if b then Ok tt else Err (snapshots.Wrong (codes "snapshots"))))
    h.ids in
    let snapshots : snapshots_by version found ≡ Ok tt =
    bind_only _ _ tt _ (right_rows version 9 3 found h.numbers)
    (bind_only _ _ tt _ ids
    (bind_only _ _ tt _ (right_rows version 12 1 found h.current_id) h.current)) in
    bind_only _ _ tt _ schemas
    (bind_only _ _ tt _ (right_rows version 8 1 found h.partition_specs)
    (bind_only _ _ tt _ (passed_if _ _ h.specs)
    (bind_only _ _ tt _ snapshots (right_rows version 13 5 found h.last))))
