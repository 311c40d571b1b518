use Rattle.std.proofs.lemmas.Result.{err_from_is_err_and}
use Rattle.lineage_cli.specs.Text.{lines}
use Rattle.lineage_cli.proofs.OutputLemmas.{puts_rest}
use Rattle.lineage_cli.proofs.printing.write_by.Goals as goal

pub returns-in_err-put_rows-clause-text : goal.returns-in_err-put_rows-clause-text
returns-in_err-put_rows-clause-text g c =
    let p = err_from_is_err_and c.from_residual.result c.from_residual.ensures.1 in
    rw p.1 (rw c.requires at c.in_err-put_rows.ensures.text)

pub returns-clause-text : goal.returns-clause-text
returns-clause-text g c =
    let before = (g.W.Sink.seen c.args.out.now).written in
    let mid = (g.W.Sink.seen c.put_rows.new.out).written in
    let now = (g.W.Sink.seen c.flush.new.out).written in
    let first = rw c.requires at c.in_ok-put_rows.ensures.text in
    puts_rest before mid now c.flush.result (lines c.args.rows.now.left) c.put_rows.new.buffer first c.flush.ensures.text
