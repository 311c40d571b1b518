use Rattle.std.proofs.Common.{◌∙◌}
use Rattle.std.proofs.lemmas.Result.{err_from_is_err_and}
use Rattle.lineage_cli.specs.Text.{row_line, lines}
use Rattle.lineage_cli.proofs.PrintLemmas.{begun_more, begun_stops, lines_next}
use Rattle.lineage_cli.proofs.printing.put_rows.Goals as goal

pub loop-out-preserved : goal.loop-out-preserved
loop-out-preserved g c =
    let line = row_line c.advance.new.self.row in
    let next = lines_next c.loop-out.rows.left c.advance.new.self.row c.advance.new.self.left c.loop-out-test.ensures.shown in
    record {
      begun = begun_more _ _ _ _ _ _ (lines c.loop-out.rows.left) line (lines c.advance.new.self.left) (lines c.args.rows.now.left) next c.loop-out.invariant.begun c.in_ok-put_row.ensures.text;
      counted = c.in_ok-put_row.ensures.counted ∙ c.loop-out.invariant.counted;
    }

pub returns-in_err-put_row-clause-text : goal.returns-in_err-put_row-clause-text
returns-in_err-put_row-clause-text g c =
    let p = err_from_is_err_and c.from_residual.result c.from_residual.ensures.1 in
    let line = row_line c.advance.new.self.row in
    let next = lines_next c.loop-out.rows.left c.advance.new.self.row c.advance.new.self.left c.loop-out-test.ensures.shown in
    rw p.1 (begun_stops _ _ _ _ _ (lines c.loop-out.rows.left) line (lines c.advance.new.self.left) (lines c.args.rows.now.left) next c.loop-out.invariant.begun c.in_err-put_row.ensures.text)
