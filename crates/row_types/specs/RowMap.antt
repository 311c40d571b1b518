-- Rows by their ids.
use Rattle.std.specs.Prelude.{ℤ, List}
use Rattle.std.specs.declared.option.Option.{Option}
use Rattle.std.specs.Ordering.{int_cmp}
use Rattle.std.specs.BTreeMap.{is_at, insert_entry}
use Rattle.std.specs.Map.{keys_of, lookup}
use Rattle.std.specs.List.Sorted.{IsStrictlySortedBy}
use Rattle.row_types.specs.declared.cell.Cell.{Cell}

-- a row without its id: the sequence number of its last change, and its cells
abbrev pub UnnamedRow : Type 0
UnnamedRow = ℤ × List Cell

-- an id, and the row that has it
abbrev pub NamedRow : Type 0
NamedRow = ℤ × UnnamedRow

-- each id is above the one before it
abbrev pub IsRising : List NamedRow → Type 0
IsRising rows = IsStrictlySortedBy int_cmp (keys_of rows)

-- the row that has the id
abbrev pub row_at : List NamedRow → ℤ → Option UnnamedRow
row_at rows id = lookup (is_at (int_cmp id)) rows

-- the rows with this one at its id, in place of the one that had it
abbrev pub with_row : List NamedRow → ℤ → UnnamedRow → List NamedRow
with_row rows id row = insert_entry int_cmp rows id row
