-- The columns of fields, field by field, and the fault of columns that is told.
use Rattle.std.proofs.Common.{◌≡◌, ℕ, ◌+◌, ◌<◌, ◌≤◌, Bool, true, false, List, [], length, get_or, take, drop, Result}
use Rattle.std.proofs.Common.{Ok, Err, refl, sym, ◌∙◌, inl, inr}
use Rattle.std.specs.Prelude.{ℤ, pos, nat_lt, ◌||◌}
use Rattle.std.specs.declared.option.Option.{Option}
use Rattle.std.specs.declared.option.Option.TheVariants.{None, Some}
use Rattle.std.proofs.lemmas.Bool.{cases_Bool}
use Rattle.std.proofs.lemmas.List.{drop_more, drop_all}
use Rattle.schema_tree.specs.declared.schema.Field.{Field, out-Field}
use Rattle.row_types.specs.declared.column.Column.{Column}
use Rattle.row_types.specs.declared.columns.ColumnsRefusal.{ColumnsRefusal}
use Rattle.row_types.specs.declared.columns.ColumnsRefusal.TheVariants.{Count, Id, Name}
use Rattle.row_types.specs.Columns.{first_fault, has_wrong_id, has_wrong_name, columns_of}
use Rattle.stored_rows.specs.declared.refusal.RowRefusal.{RowRefusal}
use Rattle.stored_rows.specs.declared.refusal.RowRefusal.TheVariants.{Kind as WrongKind}
use Rattle.row_reading.specs.Columns.{with_field, columns_from, checked}
use Rattle.row_reading.specs.Fault.{id_of}

-- what the columns of fields are
abbrev Answer : Type 0
Answer = Result (List Column) RowRefusal

-- a field is refused
pub field_refused : (fields : List Field) (place : ℕ) (field : Field) (before : List Column) (refusal : RowRefusal) (total : Answer) → place < length fields → field ≡ get_or fields place field
    → with_field before field (out-Field field).id ≡ Err refusal → columns_from before (drop place fields) ≡ total → total ≡ Err refusal
unfolding columns_from
field_refused fields place field before refusal total within here refused so_far =
    sym so_far ∙ rw (drop_more fields place field within, ← here, refused) refl

-- a field is taken, and the others are left
pub field_taken : (fields : List Field) (place : ℕ) (field : Field) (before after : List Column) (total : Answer) → place < length fields → field ≡ get_or fields place field
    → with_field before field (out-Field field).id ≡ Ok after → columns_from before (drop place fields) ≡ total → columns_from after (drop (place + 1) fields) ≡ total
unfolding columns_from
field_taken fields place field before after total within here taken so_far =
    let one : columns_from before (drop place fields) ≡ columns_from after (drop (place + 1) fields) = rw (drop_more fields place field within, ← here, taken) refl in
    sym one ∙ so_far

-- no field is left
pub fields_taken : (fields : List Field) (place : ℕ) (columns : List Column) (total : Answer) → length fields ≤ place → columns_from columns (drop place fields) ≡ total → total ≡ Ok columns
unfolding columns_from
fields_taken fields place columns total all so_far = sym so_far ∙ rw (drop_all place fields all) refl

-- these steps
pub ruleset fields_steps = (field_refused, field_taken, fields_taken)

-- a column at fault is the first one
pub fault_here : (is_fault : List Column → Column → Bool) (columns : List Column) (place : ℕ) (column : Column) → place < length columns → column ≡ get_or columns place column → is_fault (take place columns) column ≡ true
    → first_fault is_fault (take place columns) (drop place columns) ≡ Some column
fault_here is_fault columns place column within here fault = rw (drop_more columns place column within, ← here, fault) refl

-- ---- the columns of a table

-- what is refused of a list's columns, as a file's refusal
abbrev pub refusal_of : List Column → ColumnsRefusal → ℤ
refusal_of columns (Count found) = pos 0
refusal_of columns (Id id) = id
refusal_of columns (Name name) = id_of (first_fault has_wrong_name [] columns)
refusal_of columns _ = pos 0

-- the same lists are refused, and with the id
abbrev pub answered : List Column → Result (List Column) ColumnsRefusal → Answer
answered columns (Ok list) = Ok list
answered columns (Err refusal) = Err (WrongKind (refusal_of columns refusal))

-- by the faults of the ids and of the names
by_faults : (columns : List Column) (ids names : Option Column) → nat_lt (length columns) 1 || nat_lt 200 (length columns) ≡ false → first_fault has_wrong_id [] columns ≡ ids → first_fault has_wrong_name [] columns ≡ names
    → checked columns ≡ answered columns (columns_of columns)
unfolding checked columns_of
by_faults columns (Some column) names count wrong names_are = rw (count, wrong) refl
by_faults columns None (Some column) count wrong names_are = rw (count, wrong, names_are) (rw names_are refl)
by_faults columns None None count wrong names_are = rw (count, wrong, names_are) refl

-- what is checked is what makes the columns of a table
pub checked_as : (columns : List Column) → checked columns ≡ answered columns (columns_of columns)
unfolding checked columns_of
checked_as columns =
    elim (cases_Bool (nat_lt (length columns) 1 || nat_lt 200 (length columns))) [
      | inl wrong ↦ rw wrong refl
      | inr right ↦ by_faults columns _ _ right refl refl
    ]

-- too many are refused
pub too_many : (columns : List Column) → nat_lt 200 (length columns) ≡ true → checked columns ≡ Err (WrongKind (pos 0))
unfolding checked
too_many columns many =
    elim (cases_Bool (nat_lt (length columns) 1)) [
      | inl none ↦ rw none refl
      | inr some ↦ rw (some, many) refl
    ]

-- both
pub ruleset checks = (checked_as, too_many)
