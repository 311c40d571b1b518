use Rattle.std.proofs.Common.{sym, ◌∙◌}
use Rattle.pieces.proofs.LiteralRuns.{read_begins, read_goes_on}
use Rattle.pieces.proofs.literal.plain_end.Goals as goal

pub loop-at-init : goal.loop-at-init
loop-at-init c = read_begins c.args.bytes.now c.args.start

pub loop-at-preserved : goal.loop-at-preserved
loop-at-preserved c =
    read_goes_on c.args.bytes.now c.args.start c.loop-at.at c.loop-at.auto.at c.loop-at-test.true (sym c.is_plain.ensures ∙ c.if-not-is_plain.false) c.loop-at.invariant
