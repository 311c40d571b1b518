use Rattle.std.proofs.Common.{sym}
use Rattle.std.proofs.lemmas.Result.{err_from_is_err_and}
use Rattle.history_types.specs.Fits.{FitsRequest}
use Rattle.words.specs.Holds.{if_given}
use Rattle.history_log.specs.Refusal.{is_memory}
use Rattle.history_log.specs.Request.{request_at}
use Rattle.history_log.proofs.RequestFits.{request_fits}
use Rattle.history_log.proofs.RequestSteps.{request_refused, request_read}
use Rattle.history_log.proofs.request.take_request.Goals as goal

pub returns-in_err-index-clause-exact : goal.returns-in_err-index-clause-exact
returns-in_err-index-clause-exact c =
    let p = err_from_is_err_and c.from_residual.result c.from_residual.ensures.1 in
    rw (p.1, p.2) (request_refused c.args.columns.now c.args.text.now c.args.place c.in_err-index.field-0.0 (sym c.in_err-index.ensures.exact))

pub returns : goal.returns
returns c =
    let gives = request_read c.as_slice.result.now c.args.columns.now c.args.text.now c.args.place c.in_ok-index.index c.in_ok-index.after c.take_behind.result c.as_slice.ensures.all (sym c.in_ok-index.ensures.exact) c.take_behind.ensures.exact in
    record {
      exact = gives;
      fits = if_given (FitsRequest c.args.columns.now) is_memory c.take_behind.result (request_at c.args.columns.now c.args.text.now c.args.place) gives (request_fits c.args.columns.now c.args.text.now c.args.place);
    }
