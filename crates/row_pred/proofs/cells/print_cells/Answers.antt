use Rattle.std.proofs.Common.{◌≡◌, rules}
use Rattle.row_pred.specs.Cells.{cells_text}
use Rattle.row_pred.specs.CellsLaws.{text_again}
use Rattle.row_pred.proofs.cells.print_cells.Goals as goal

pub returns-clause-reads_back : goal.returns-clause-reads_back
returns-clause-reads_back c =
    let is : c.from_string.result ≡ cells_text c.args.cells.now = search rules in
    λ columns row. text_again columns c.args.cells.now c.from_string.result is row
