use Rattle.std.proofs.Common.{IsUtf8, sym, subst}
use Rattle.cell_text.proofs.text.push_by.Goals as goal

pub unreachable-requires : goal.unreachable-requires
unreachable-requires c = c.in-Err.ensures.cases.0 (subst IsUtf8 (sym c.put_cell-end.ensures.put) c.cell_is_utf8.ensures)
