use Rattle.std.proofs.Common.{sym, ◌∙◌, refl}
use Rattle.std.proofs.lemmas.Result.{err_from_is_err_and}
use Rattle.objects.specs.BlocksLaws.{block_passed, block_stays, begun_some}
use Rattle.objects.proofs.blocks.pass_next.Goals as goal

pub returns-in_err-after-clause-step : goal.returns-in_err-after-clause-step
returns-in_err-after-clause-step g c =
    let read = g.R.Object.at c.args.reader.now in
    let rest = c.go_on.new.rest in
    let some = begun_some rest.left c.in_ok-go_on.field-0 _ c.if-not-branch.false c.in_ok-go_on.ensures.begun in
    let fails = block_stays read _ _ _ rest.left rest.place c.in_err-after.field-0.0 some c.in_err-after.ensures.exact in
    let p = err_from_is_err_and c.from_residual-in_err-after.result c.from_residual-in_err-after.ensures.1 in
    rw (p.1, p.2) (sym c.go_on.ensures.same ∙ fails, fails)

pub returns-clause-step : goal.returns-clause-step
returns-clause-step g c =
    let read = g.R.Object.at c.args.reader.now in
    let rest = c.go_on.new.rest in
    let some = begun_some rest.left c.in_ok-go_on.field-0 _ c.if-not-branch.false c.in_ok-go_on.ensures.begun in
    let passed = block_passed read _ _ _ rest.left rest.place c.in_ok-after.after some c.in_ok-after.ensures.exact in
    record { first = passed.first; parts = sym c.go_on.ensures.same ∙ passed.parts }
