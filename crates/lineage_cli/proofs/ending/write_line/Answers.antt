use Rattle.std.proofs.lemmas.Result.{err_from_is_err_and}
use Rattle.lineage_cli.specs.Ending.{line_of}
use Rattle.lineage_cli.proofs.OutputLemmas.{puts_rest}
use Rattle.lineage_cli.proofs.ending.write_line.Goals as goal

pub returns-in_err-put_line-clause-text : goal.returns-in_err-put_line-clause-text
returns-in_err-put_line-clause-text g c =
    let p = err_from_is_err_and c.from_residual.result c.from_residual.ensures.1 in
    rw p.1 (rw c.requires at c.in_err-put_line.ensures.text)

pub returns-clause-text : goal.returns-clause-text
returns-clause-text g c =
    let before = (g.E.Sink.seen c.args.err.now).written in
    let mid = (g.E.Sink.seen c.put_line.new.err).written in
    let now = (g.E.Sink.seen c.flush.new.out).written in
    let first = rw c.requires at c.in_ok-put_line.ensures.text in
    puts_rest before mid now c.flush.result (line_of c.args.ending.now) c.put_line.new.buffer first c.flush.ensures.text
