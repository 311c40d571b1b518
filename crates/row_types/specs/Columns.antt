-- Which lists are the columns of a table, and which fault of a list is reported.
use Rattle.std.specs.Prelude.{◌≢◌, ℕ, ◌≤◌, ℤ, pos, ◌≤ℤ◌, int_lt, Bool, ◌||◌, List, [], ◌∷◌, ◌++◌, length, All, Result}
use Rattle.std.specs.Prelude.{Ok, Err, nat_lt, if◌then◌else◌}
use Rattle.std.specs.declared.option.Option.{Option}
use Rattle.std.specs.declared.option.Option.TheVariants.{None, Some}
use Rattle.std.specs.List.{AllPairs, list_any}
use Rattle.std.specs.Ordering.{int_eq}
use Rattle.std.specs.Str.{bytes_eq}
use Rattle.words.specs.Reading.{◌>>=◌}
use Rattle.row_types.specs.declared.column.Column.{Column}
use Rattle.row_types.specs.declared.columns.ColumnsRefusal.{ColumnsRefusal}
use Rattle.row_types.specs.declared.columns.ColumnsRefusal.TheVariants.{Count, Id, Name}

-- the most columns of a table
abbrev pub most_columns : ℕ
most_columns = 200

-- the largest id of a column
abbrev pub largest_id : ℕ
largest_id = 2147483447

-- the most bytes of a name
abbrev pub most_name_bytes : ℕ
most_name_bytes = 255

-- a list is the columns of a table
pub record IsColumns (list : List Column) : Type 0 where
  pub some : 1 ≤ length list
  pub few : length list ≤ most_columns
  pub ids : All (λ column. (pos 1 ≤ℤ column.id) × (column.id ≤ℤ pos largest_id)) list
  pub distinct_ids : AllPairs (λ a b. a.id ≢ b.id) list
  pub names : All (λ column. (1 ≤ length column.name) × (length column.name ≤ most_name_bytes)) list
  pub distinct_names : AllPairs (λ a b. a.name ≢ b.name) list

-- ---- the fault that is reported

-- the first item that is at fault after those before it
abbrev pub first_fault : {X : Type 0} → (List X → X → Bool) → List X → List X → Option X
first_fault is_fault before [] = None
first_fault is_fault before (x ∷ rest) =
    if is_fault before x then Some x else first_fault is_fault (before ++ x ∷ []) rest

-- some column has the id
abbrev pub has_id : List Column → ℤ → Bool
has_id columns id = list_any (λ column. int_eq column.id id) columns

-- some column has the name
abbrev pub has_name : List Column → List ℕ → Bool
has_name columns name = list_any (λ column. bytes_eq column.name name) columns

-- a column's id is below 1, too large, or that of a column before it
abbrev pub has_wrong_id : List Column → Column → Bool
has_wrong_id before column = int_lt column.id (pos 1) || int_lt (pos largest_id) column.id || has_id before column.id

-- a column's name is empty, too long, or that of a column before it
abbrev pub has_wrong_name : List Column → Column → Bool
has_wrong_name before column =
    nat_lt (length column.name) 1 || nat_lt most_name_bytes (length column.name) || has_name before column.name

-- there are columns, and not too many
abbrev pub counted : List Column → Result (Unit {0}) ColumnsRefusal
counted list = if nat_lt (length list) 1 || nat_lt most_columns (length list) then Err (Count (length list)) else Ok tt

-- what is at fault is refused
abbrev pub refused : (Column → ColumnsRefusal) → Option Column → Result (Unit {0}) ColumnsRefusal
refused refusal None = Ok tt
refused refusal (Some column) = Err (refusal column)

-- the list itself, or its first fault: of the number, then of the ids, then of the names
unfoldable pub columns_of : List Column → Result (List Column) ColumnsRefusal
columns_of list = do
  _ ← counted list
  _ ← refused (λ column. Id column.id) (first_fault has_wrong_id [] list)
  _ ← refused (λ column. Name column.name) (first_fault has_wrong_name [] list)
  Ok list
