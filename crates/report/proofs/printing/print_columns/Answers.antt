use Rattle.std.proofs.Common.{◌≡◌, rules}
use Rattle.report.specs.Printed.{schema_text}
use Rattle.report.proofs.PrintedColumns.{schema_again}
use Rattle.report.proofs.printing.print_columns.Goals as goal

pub returns-clause-reads_back : goal.returns-clause-reads_back
returns-clause-reads_back c =
    let printed : c.from_string.result ≡ schema_text c.args.columns.now = search rules in
    rw printed (schema_again c.args.columns.now c.as_slice.ensures.right)
