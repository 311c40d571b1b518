-- The last column id of a new table.
use Rattle.std.specs.Prelude.{◌≡◌, ◌⊎◌, ◌≤ℤ◌, ⊤, ℤ, pos, List, [], ◌∷◌, Option, Some}
use Rattle.serde_json.specs.Data.{Data}
use Rattle.json_members.specs.Values.{whole}
use Rattle.row_types.specs.declared.column.Column.{Column}

-- no column has an id above the number
abbrev pub AreUpTo : ℤ → List Column → Type 0
AreUpTo most [] = ⊤
AreUpTo most (column ∷ columns) = (column.id ≤ℤ most) × AreUpTo most columns

-- the number is the id of a column, or `start`
abbrev pub IsIdOr : ℤ → List Column → ℤ → Type 0
IsIdOr start [] id = id ≡ start
IsIdOr start (column ∷ columns) id = (id ≡ column.id) ⊎ IsIdOr start columns id

-- the number that is found is the greatest id of a column; 0 stands for none, since each id is above 0
pub record IsLastColumnId (columns : List Column) (found : Option Data) : Type 0 where
  pub id : ℤ
  pub is_number : found ≡ Some (whole id)
  pub most : AreUpTo id columns
  pub one : IsIdOr (pos 0) columns id
