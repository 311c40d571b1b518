-- The fields of a file that can be read for a table: what passes the checks is readable, and what is readable passes
-- them.
use Rattle.std.proofs.Common.{◌≡◌, false, List, [], ◌∷◌, All, Some, None, Ok, refl}
use Rattle.std.specs.Prelude.{ℤ, Option}
use Rattle.std.proofs.lemmas.Bool.{not-false, not_from_true}
use Rattle.std.proofs.lemmas.List.Elements.{All-nil, All-cons, All-head, All-tail}
use Rattle.row_types.specs.declared.column.Column.{Column}
use Rattle.row_types.specs.declared.column.Kind.{Kind}
use Rattle.row_types.specs.declared.column.Kind.TheVariants as kinds
use Rattle.schema_tree.specs.declared.schema.Field.{Field}
use Rattle.words.specs.Steps.{bind_then, test_failed}
use Rattle.avro_cells.specs.Kind.{is_allowed}
use Rattle.stored_rows.specs.Field.{Found, find, row_id_field, last_updated_field, is_missing, is_wrong}
use Rattle.stored_rows.specs.Field.{check_missing, check_kind, check_kinds, check_fields}
use Rattle.stored_rows.specs.Stored.{IsThere, HoldsLongs, AreReadable}

-- ---- one field

-- what is neither missing nor of a wrong type is there
there : (column : Column) (found : Option Found) → is_missing column found ≡ false
    → is_wrong column.kind found ≡ false → IsThere column found
there column None missing wrong = missing
there column (Some found) missing wrong = not-false (is_allowed column.kind found.1) wrong

-- what is there isn't missing
not_missing : (column : Column) (found : Option Found) → IsThere column found → is_missing column found ≡ false
not_missing column None is = is
not_missing column (Some found) is = refl

-- and has no wrong type
not_wrong : (column : Column) (found : Option Found) → IsThere column found → is_wrong column.kind found ≡ false
not_wrong column None is = refl
not_wrong column (Some found) is = not_from_true (is_allowed column.kind found.1) is

-- a field that isn't wrong for longs holds them
longs_held : (found : Option Found) → is_wrong kinds.Long found ≡ false → HoldsLongs found
longs_held None right = tt
longs_held (Some found) right = not-false (is_allowed kinds.Long found.1) right

-- a field that holds longs isn't wrong for them
longs_right : (found : Option Found) → HoldsLongs found → is_wrong kinds.Long found ≡ false
longs_right None held = refl
longs_right (Some found) held = not_from_true (is_allowed kinds.Long found.1) held

-- a field that was checked isn't wrong
kind_right : (id : ℤ) (kind : Kind) (fields : List Field) (done : Unit {0}) → check_kind id kind fields ≡ Ok done
    → is_wrong kind (find id fields) ≡ false
kind_right id kind fields done checked = (test_failed (is_wrong kind (find id fields)) _ _ done checked).0

-- a field that isn't wrong passes the check
kind_passes : (id : ℤ) (kind : Kind) (fields : List Field) → is_wrong kind (find id fields) ≡ false
    → check_kind id kind fields ≡ Ok tt
kind_passes id kind fields right = rw right refl

-- ---- all fields

-- the field of the column can be read, or the column needs none
abbrev IsIn : List Field → Column → Type 0
IsIn fields column = IsThere column (find column.id fields)

-- each column passes both checks
each_there : (fields : List Field) (columns : List Column) (done also : Unit {0})
    → check_missing fields columns ≡ Ok done → check_kinds fields columns ≡ Ok also → All (IsIn fields) columns
unfolding check_missing check_kinds
each_there fields [] done also missing wrong = All-nil (IsIn fields)
each_there fields (column ∷ columns) done also missing wrong =
    let test = test_failed (is_missing column (find column.id fields)) _ _ done missing in
    bind_then (check_kind column.id column.kind fields) (λ _. check_kinds fields columns) also wrong
    (λ one right others.
    let here = there column (find column.id fields) test.0 (kind_right column.id column.kind fields one right) in
    All-cons (IsIn fields) column columns here (each_there fields columns done also test.1 others))

-- no required column is missing
none_missing : (fields : List Field) (columns : List Column) → All (IsIn fields) columns
    → check_missing fields columns ≡ Ok tt
unfolding check_missing
none_missing fields [] each = refl
none_missing fields (column ∷ columns) each =
    rw (not_missing column (find column.id fields) (All-head (IsIn fields) column columns each))
    (none_missing fields columns (All-tail (IsIn fields) column columns each))

-- no column has a wrong type
none_wrong : (fields : List Field) (columns : List Column) → All (IsIn fields) columns
    → check_kinds fields columns ≡ Ok tt
unfolding check_kinds
none_wrong fields [] each = refl
none_wrong fields (column ∷ columns) each =
    rw (not_wrong column (find column.id fields) (All-head (IsIn fields) column columns each))
    (none_wrong fields columns (All-tail (IsIn fields) column columns each))

-- fields that were checked are readable
pub fields_readable : (fields : List Field) (columns : List Column) (done : Unit {0})
    → check_fields fields columns ≡ Ok done → AreReadable columns fields
unfolding check_fields
fields_readable fields columns done checked =
    bind_then (check_missing fields columns) _ done checked (λ there is_there others.
    bind_then (check_kinds fields columns) _ done others (λ right are_right others.
    bind_then (check_kind row_id_field kinds.Long fields) _ done others (λ id id_right last_right.
    record {
      each = each_there fields columns there right is_there are_right;
      row_id = longs_held (find row_id_field fields) (kind_right row_id_field kinds.Long fields id id_right);
      last_updated =
          longs_held (find last_updated_field fields)
          (kind_right last_updated_field kinds.Long fields done last_right);
    })))

-- fields that are readable pass the checks
pub fields_checked : (fields : List Field) (columns : List Column) → AreReadable columns fields
    → check_fields fields columns ≡ Ok tt
unfolding check_fields
fields_checked fields columns readable =
    let ids = kind_passes row_id_field kinds.Long fields (longs_right (find row_id_field fields) readable.row_id) in
    let changes =
    kind_passes last_updated_field kinds.Long fields
    (longs_right (find last_updated_field fields) readable.last_updated) in
    rw (none_missing fields columns readable.each, none_wrong fields columns readable.each, ids) changes
