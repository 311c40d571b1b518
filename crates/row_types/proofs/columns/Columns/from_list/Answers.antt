use Rattle.std.proofs.Common.{◌∙◌}
use Rattle.row_types.specs.ColumnsLaws.{columns_accepted}
use Rattle.row_types.proofs.columns.Columns.from_list.Goals as goal

pub returns-clause-only : goal.returns-clause-only
returns-clause-only c = λ right. c.check.ensures.exact ∙ columns_accepted c.args.list.items right
