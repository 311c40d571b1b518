-- The first field of an id, and the checks of columns, one after the other, as a loop does.
use Rattle.std.proofs.Common.{◌≡◌, ℕ, ◌+◌, ◌<◌, ◌≤◌, true, false, List, length, get_or, drop, Ok, Err, refl}
use Rattle.std.specs.Prelude.{ℤ}
use Rattle.std.specs.declared.option.Option.TheVariants.{Some, None}
use Rattle.std.proofs.lemmas.List.{drop_more, drop_all}
use Rattle.schema_tree.specs.declared.schema.Field.{Field, out-Field}
use Rattle.row_types.specs.declared.column.Column.{Column}
use Rattle.stored_rows.specs.declared.refusal.RowRefusal.{RowRefusal}
use Rattle.stored_rows.specs.declared.refusal.RowRefusal.TheVariants.{MissingColumn}
use Rattle.stored_rows.specs.Field.{is_this, find_from, find, is_missing, check_missing, check_kind, check_kinds}

-- a field of the id is the first one
pub found_here : (fields : List Field) (place : ℕ) (id : ℤ) (field : Field) → place < length fields → field ≡ get_or fields place field → is_this id (out-Field field).id ≡ true
    → find_from place id (drop place fields) ≡ Some (place, (out-Field field).schema)
unfolding find_from
found_here fields place id field within here this = rw (drop_more fields place field within, ← here, this) refl

-- another field is passed over
pub not_here : (fields : List Field) (place : ℕ) (id : ℤ) (field : Field) → place < length fields → field ≡ get_or fields place field → is_this id (out-Field field).id ≡ false
    → find_from place id (drop place fields) ≡ find_from (place + 1) id (drop (place + 1) fields)
unfolding find_from
not_here fields place id field within here other = rw (drop_more fields place field within, ← here, other) refl

-- no field is left
pub none_left : (fields : List Field) (place : ℕ) (id : ℤ) → length fields ≤ place → find_from place id (drop place fields) ≡ None
unfolding find_from
none_left fields place id all = rw (drop_all place fields all) refl

-- these steps
pub ruleset find_steps = (found_here, not_here, none_left)

-- ---- the checks of columns

-- a column is missing
pub missing : (fields : List Field) (columns : List Column) (place : ℕ) (column : Column) → place < length columns → column ≡ get_or columns place column → is_missing column (find column.id fields) ≡ true
    → check_missing fields (drop place columns) ≡ Err (MissingColumn column.id)
unfolding check_missing
missing fields columns place column within here lacks = rw (drop_more columns place column within, ← here, lacks) refl

-- a column isn't missing
pub not_missing : (fields : List Field) (columns : List Column) (place : ℕ) (column : Column) → place < length columns → column ≡ get_or columns place column → is_missing column (find column.id fields) ≡ false
    → check_missing fields (drop place columns) ≡ check_missing fields (drop (place + 1) columns)
unfolding check_missing
not_missing fields columns place column within here there = rw (drop_more columns place column within, ← here, there) refl

-- no column is left
pub none_missing : (fields : List Field) (columns : List Column) (place : ℕ) → length columns ≤ place → check_missing fields (drop place columns) ≡ Ok tt
unfolding check_missing
none_missing fields columns place all = rw (drop_all place columns all) refl

-- these steps
pub ruleset missing_steps = (missing, not_missing, none_missing)

-- a column can't be read
pub wrong_kind : (fields : List Field) (columns : List Column) (place : ℕ) (column : Column) (refusal : RowRefusal) → place < length columns → column ≡ get_or columns place column → check_kind column.id column.kind fields ≡ Err refusal
    → check_kinds fields (drop place columns) ≡ Err refusal
unfolding check_kinds
wrong_kind fields columns place column refusal within here refused = rw (drop_more columns place column within, ← here, refused) refl

-- a column can be read
pub right_kind : (fields : List Field) (columns : List Column) (place : ℕ) (column : Column) (done : Unit {0}) → place < length columns → column ≡ get_or columns place column → check_kind column.id column.kind fields ≡ Ok done
    → check_kinds fields (drop place columns) ≡ check_kinds fields (drop (place + 1) columns)
unfolding check_kinds
right_kind fields columns place column done within here right = rw (drop_more columns place column within, ← here, right) refl

-- no column is left
pub none_wrong : (fields : List Field) (columns : List Column) (place : ℕ) → length columns ≤ place → check_kinds fields (drop place columns) ≡ Ok tt
unfolding check_kinds
none_wrong fields columns place all = rw (drop_all place columns all) refl

-- these steps
pub ruleset kinds_steps = (wrong_kind, right_kind, none_wrong)
