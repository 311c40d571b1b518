use Rattle.std.proofs.Common.{◌≡◌, max}
use Rattle.pieces.specs.Refusal.{place_of}
use Rattle.pieces.proofs.WordLemmas.{one_of_found, one_of_on, one_of_end}
use Rattle.pieces.proofs.word.take_one_of.Goals as goal

pub returns-in-Ok-clause-exact : goal.returns-in-Ok-clause-exact
returns-in-Ok-clause-exact c =
    one_of_found (λ w. w.now) c.args.words.now _ c.args.text.now c.loop-index.index c.args.place c.loop-index.far c.in-Ok.after _ c.loop-index-test.true c.in-Ok.ensures.exact c.loop-index.invariant

pub loop-index-preserved : goal.loop-index-preserved
loop-index-preserved c =
    let is : c.max-far.result ≡ max c.loop-index.far (place_of c.in-Err.refusal) = rw c.how_far.ensures at c.max-far.ensures in
    one_of_on (λ w. w.now) c.args.words.now _ c.args.text.now c.loop-index.index c.args.place c.loop-index.far c.max-far.result c.in-Err.refusal _ c.loop-index-test.true c.in-Err.ensures.exact is c.loop-index.invariant

pub returns-clause-exact : goal.returns-clause-exact
returns-clause-exact c =
    one_of_end (λ w. w.now) c.args.words.now c.args.text.now c.loop-index.index c.args.place c.loop-index.far _ c.loop-index-test.false c.loop-index.invariant
