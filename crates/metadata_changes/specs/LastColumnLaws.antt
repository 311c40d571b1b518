-- The greatest id of a column is the id of one, and none is above it.
use Rattle.std.proofs.Common.{◌≡◌, ℤ, pos, int_lt, List, [], ◌∷◌, Bool, true, false, inl, inr, codes, refl}
use Rattle.std.proofs.Common.{if◌then◌else◌, arith}
use Rattle.std.proofs.lemmas.Int.{ints}
use Rattle.std.specs.Prelude.{◌≤ℤ◌, ◌⊎◌}
use Rattle.serde_json.specs.Data.{no_members}
use Rattle.serde_json.specs.Find.{get_member}
use Rattle.json_members.specs.Members.{with_fields}
use Rattle.row_types.specs.declared.column.Column.{Column}
use Rattle.metadata_changes.specs.Fresh.{greatest, fresh_fields}
use Rattle.metadata_changes.specs.LastColumn.{AreUpTo, IsIdOr, IsLastColumnId}
use Rattle.metadata_changes.specs.NumberLaws.{first_below, second_below}
use Rattle.metadata_changes.specs.Numbers.{larger}

-- what is not above a number is not above a greater one
still_below : (a b c : ℤ) → a ≤ℤ b → b ≤ℤ c → a ≤ℤ c
still_below a b c first second = grind (arith, ints)

-- the start is not above the greatest
start_below : (most : ℤ) (columns : List Column) → most ≤ℤ greatest most columns
start_below most [] = grind (arith, ints)
start_below most (c ∷ columns) =
    still_below most (larger most c.id) (greatest (larger most c.id) columns) (first_below most c.id)
    (start_below (larger most c.id) columns)

-- no id is above the greatest
up_to : (most : ℤ) (columns : List Column) → AreUpTo (greatest most columns) columns
up_to most [] = tt
up_to most (c ∷ columns) = (
  still_below c.id (larger most c.id) (greatest (larger most c.id) columns) (second_below most c.id)
      (start_below (larger most c.id) columns),
  up_to (larger most c.id) columns,
)

-- the id of a column, or one start, is this start; or else it is the id of a column, or another start
other_start : (a b id : ℤ) (columns : List Column) → IsIdOr a columns id → (id ≡ a) ⊎ IsIdOr b columns id
other_start a b id [] is = inl is
other_start a b id (c ∷ columns) (inl here) = inr (inl here)
other_start a b id (c ∷ columns) (inr there) = by_rest (other_start a b id columns there)
  where
    by_rest : ((id ≡ a) ⊎ IsIdOr b columns id) → (id ≡ a) ⊎ ((id ≡ c.id) ⊎ IsIdOr b columns id)
    by_rest (inl start) = inl start
    by_rest (inr later) = inr (inr later)

-- if the start is the larger of a number and an id, the number may be the start, with the id beside it
larger_start : (most here id : ℤ) (columns : List Column) → IsIdOr (larger most here) columns id
    → (id ≡ here) ⊎ IsIdOr most columns id
larger_start most here id columns is = by_test (int_lt most here) is
  where
    by_test : (less : Bool) → IsIdOr (if less then here else most) columns id → (id ≡ here) ⊎ IsIdOr most columns id
    by_test true from = other_start here most id columns from
    by_test false from = inr from

-- the greatest is the id of a column, or the start
id_or : (most : ℤ) (columns : List Column) → IsIdOr most columns (greatest most columns)
id_or most [] = refl
id_or most (c ∷ columns) =
    larger_start most c.id (greatest (larger most c.id) columns) columns (id_or (larger most c.id) columns)

-- what a new table has at `last-column-id` is that
pub last_column_is : (columns : List Column)
    → IsLastColumnId columns (get_member (codes "last-column-id") (with_fields (fresh_fields columns) no_members))
last_column_is columns = record {
  id = greatest (pos 0) columns;
  is_number = refl;
  most = up_to (pos 0) columns;
  one = id_or (pos 0) columns;
}
