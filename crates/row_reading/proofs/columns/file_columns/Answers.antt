use Rattle.row_reading.proofs.OwnColumns.{own_columns, opened_columns}
use Rattle.row_reading.proofs.columns.file_columns.Goals as goal

pub returns-clause-exact : goal.returns-clause-exact
returns-clause-exact c = opened_columns c.args.bytes.now _ _ c.opened_columns.result c.in_ok-open_file.ensures.exact c.opened_columns.ensures.exact

pub returns-clause-readable : goal.returns-clause-readable
returns-clause-readable c =
    own_columns c.args.bytes.now c.opened_columns.result
    (opened_columns c.args.bytes.now _ _ c.opened_columns.result c.in_ok-open_file.ensures.exact c.opened_columns.ensures.exact)
