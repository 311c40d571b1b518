-- Rows that come to a table, change or leave it.
use Rattle.std.specs.Prelude.{ℤ, not, List}
use Rattle.std.specs.List.{filter, zip, fold}
use Rattle.std.specs.Ordering.{int_eq}
use Rattle.row_types.specs.declared.cell.Cell.{Cell}
use Rattle.row_types.specs.RowMap.{UnnamedRow, NamedRow, with_row}

-- cells as a row that changed last at this sequence number
abbrev pub stamped : ℤ → List Cell → UnnamedRow
stamped seq cells = (seq, cells)

-- rows under their ids: the first id is the first row's, and so on
abbrev pub under : List ℤ → List UnnamedRow → List NamedRow
under ids rows = zip ids rows

-- a table's rows, with these at their ids
abbrev pub with_rows : List NamedRow → List NamedRow → List NamedRow
with_rows rows more = fold (λ all row. with_row all row.0 row.1) rows more

-- a table's rows without the one that has this id
abbrev pub without_row : List NamedRow → ℤ → List NamedRow
without_row rows id = filter (λ row. not (int_eq row.0 id)) rows

-- a table's rows without those that have these ids
abbrev pub without_rows : List NamedRow → List ℤ → List NamedRow
without_rows rows ids = fold without_row rows ids
