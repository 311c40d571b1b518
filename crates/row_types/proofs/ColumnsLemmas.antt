-- How a list is refused if a name in it is at fault.
use Rattle.std.proofs.Common.{◌≡◌, ◌≢◌, ℕ, ◌<◌, ◌≤◌, false, List, [], length, get_or, refl}
use Rattle.std.proofs.Common.{◌∙◌, arith}
use Rattle.std.specs.declared.option.Option.TheVariants.{None, Some}
use Rattle.std.specs.Prelude.{nat_lt, slice_get, Err}
use Rattle.std.proofs.lemmas.Bool.{le-ltb}
use Rattle.std.proofs.lemmas.Option.{slice_get_read}
use Rattle.row_types.specs.declared.column.Column.{Column}
use Rattle.row_types.specs.declared.columns.ColumnsRefusal.TheVariants.{Name}
use Rattle.row_types.specs.Columns.{first_fault, has_wrong_id, has_wrong_name, columns_of}

-- the name at fault is told
pub name_refused : (list : List Column) (place : ℕ) (column : Column) → length list ≢ 0 → length list ≤ 200 → first_fault has_wrong_id [] list ≡ None
    → first_fault has_wrong_name [] list ≡ slice_get list place → place < length list → column ≡ get_or list place column → columns_of list ≡ Err (Name column.name)
unfolding columns_of
name_refused list place column count most ids_none fault within here =
    let some : nat_lt (length list) 1 ≡ false = le-ltb _ _ (omega arith) in
    let few : nat_lt 200 (length list) ≡ false = le-ltb _ _ most in
    let found : first_fault has_wrong_name [] list ≡ Some column = fault ∙ slice_get_read list (length list) place column refl within here in
    rw (some, few, ids_none, found) refl
