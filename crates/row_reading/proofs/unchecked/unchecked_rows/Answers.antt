use Rattle.std.proofs.Common.{◌<◌, ◌^◌, length, arith, rules}
use Rattle.std.proofs.lemmas.Result.{err_from_is_err_and}
use Rattle.words.specs.Laws.{refused_so}
use Rattle.stored_rows.specs.Refusal.{is_memory}
use Rattle.row_reading.proofs.CheckingLemmas.{unopened, as_opened}
use Rattle.row_reading.proofs.unchecked.unchecked_rows.Goals as goal

pub returns-in_err-walk-clause-exact : goal.returns-in_err-walk-clause-exact
returns-in_err-walk-clause-exact c =
    let p = err_from_is_err_and c.from_residual.result c.from_residual.ensures.1 in
    let e = c.in_err-walk.field-0.0 in
    rw (p.1, p.2) (refused_so (is_memory e) (unopened c.args.bytes.now c.args.columns.now e) c.in_err-walk.ensures.exact)

pub unchecked_in-requires : goal.unchecked_in-requires
unchecked_in-requires c =
    let size : length c.args.bytes.now < 2 ^ 63 = search rules in
    record { fits = omega (arith, size, c.in_ok-walk.ensures.few) }

pub returns-clause-exact : goal.returns-clause-exact
returns-clause-exact c =
    let opens = as_opened c.args.bytes.now c.args.columns.now (c.in_ok-walk.walk.whole, c.in_ok-walk.schema) c.in_ok-walk.ensures.exact in
    rw opens (rw c.as_slice.ensures.all at c.unchecked_in.ensures.exact)
