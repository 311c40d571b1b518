use Rattle.fields.proofs.FirstLemmas.{first_done}
use Rattle.fields.proofs.layout.first_of.Goals as goal

pub returns : goal.returns
returns c = first_done c.args.wanted.now c.args.sources.now c.loop-index.index c.args.place _ c.loop-index.invariant.within c.loop-index-test.false c.loop-index.invariant.so_far
