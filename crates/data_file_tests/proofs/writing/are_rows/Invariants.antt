use Rattle.std.proofs.Common.{◌≡◌, true, All, take}
use Rattle.row_types.specs.Fits.{fits_row}
use Rattle.data_file_tests.proofs.writing.are_rows.Given as goal

abbrev pub invariant-loop-row : goal.invariant-loop-row
invariant-loop-row l = All (λ row. fits_row l.columns row.cells ≡ true) (take l.row-index l.rows)
