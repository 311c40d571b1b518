-- The last changes of the rows behind an entry.
use Rattle.std.proofs.Common.{ℤ, pos, ◌+ℤ◌, List, [], ◌∷◌, map, All, int_cmp, arith}
use Rattle.std.specs.Map.{values_of}
use Rattle.std.proofs.lemmas.Int.{ints}
use Rattle.std.proofs.lemmas.List.Elements.{All-nil, All-head, All-tail, All-cons, All-map, All-weaker}
use Rattle.std.proofs.lemmas.Map.Views.{All-values-insert_entry}
use Rattle.row_types.specs.RowMap.{NamedRow, UnnamedRow, with_row}
use Rattle.row_types.specs.declared.cell.Cell.{Cell}
use Rattle.lineage_model.specs.Rows.{stamped, under, with_rows}
use Rattle.lineage_model.proofs.LastChanges.{FromZero, IsLast}

-- what holds of each row of a table and of those that come to it holds of each row then
pub All-values-with_rows : (P : UnnamedRow → Type 0) (rows more : List NamedRow) → All P (values_of rows) → All P (values_of more) → All P (values_of (with_rows rows more))
All-values-with_rows P rows [] old new = old
All-values-with_rows P rows (row ∷ more) old new =
    All-values-with_rows P (with_row rows row.0 row.1) more (All-values-insert_entry int_cmp row.0 row.1 P rows old (All-head P row.1 (values_of more) new)) (All-tail P row.1 (values_of more) new)

-- rows beside ids are some of the rows
pub All-values-under : (P : UnnamedRow → Type 0) (ids : List ℤ) (rows : List UnnamedRow) → All P rows → All P (values_of (under ids rows))
All-values-under P [] rows all = All-nil P
All-values-under P (id ∷ ids) [] all = All-nil P
All-values-under P (id ∷ ids) (row ∷ rows) all =
    All-cons P row (values_of (under ids rows)) (All-head P row rows all) (All-values-under P ids rows (All-tail P row rows all))

-- the last changes are right at the next number too
pub later : (seq : ℤ) (rows : List UnnamedRow) → All (IsLast seq) rows → All (IsLast (seq +ℤ pos 1)) rows
later seq rows lasts = All-weaker (IsLast seq) (IsLast (seq +ℤ pos 1)) (λ row last. (last.0, omega (arith, ints, last.1))) rows lasts

-- so are those of new rows
pub now : (seq : ℤ) (adds : List (List Cell)) → FromZero seq → All (IsLast (seq +ℤ pos 1)) (map (stamped (seq +ℤ pos 1)) adds)
now seq adds from = All-map (IsLast (seq +ℤ pos 1)) (stamped (seq +ℤ pos 1)) adds (λ k d within. (omega (arith, ints), omega (arith, ints)))
