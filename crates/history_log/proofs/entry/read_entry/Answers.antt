use Rattle.std.proofs.Common.{rules}
use Rattle.std.proofs.lemmas.Result.{err_from_is_err_and}
use Rattle.words.specs.Laws.{refused_for_certain}
use Rattle.history_log.specs.Refusal.{is_memory}
use Rattle.history_log.proofs.EntryLemmas.{numbers_refused, ids_refused, request_refused, entry_read}
use Rattle.history_log.proofs.RunsFits.{long_or_none}
use Rattle.history_log.proofs.entry.read_entry.Goals as goal

pub returns-in_err-who-clause-exact : goal.returns-in_err-who-clause-exact
returns-in_err-who-clause-exact c =
    let p = err_from_is_err_and c.from_residual.result c.from_residual.ensures.1 in
    rw (p.1, p.2) (refused_for_certain (is_memory c.in_err-who.field-0.0) (numbers_refused c.args.columns.now c.args.text.now c.in_err-who.field-0.0 c.in_err-who.ensures.exact))

pub returns-in_err-named-clause-exact : goal.returns-in_err-named-clause-exact
returns-in_err-named-clause-exact c =
    let p = err_from_is_err_and c.from_residual-in_err-named.result c.from_residual-in_err-named.ensures.1 in
    rw (p.1, p.2) (ids_refused c.args.columns.now c.args.text.now (c.in_ok-who.who, c.in_ok-who.seq, c.in_ok-who.next, c.in_ok-who.place) c.in_err-named.field-0.0 c.in_ok-who.ensures.exact c.in_err-named.ensures.exact)

pub returns-in_err-request-clause-exact : goal.returns-in_err-request-clause-exact
returns-in_err-request-clause-exact c =
    let p = err_from_is_err_and c.from_residual-in_err-request.result c.from_residual-in_err-request.ensures.1 in
    rw (p.1, p.2) (request_refused c.args.columns.now c.args.text.now (c.in_ok-who.who, c.in_ok-who.seq, c.in_ok-who.next, c.in_ok-who.place)
    (c.in_ok-named.named, c.in_ok-named.given, c.in_ok-named.place) c.in_err-request.field-0.0 c.in_ok-who.ensures.exact c.in_ok-named.ensures.exact
    c.in_err-request.ensures.exact)

pub returns-clause-exact : goal.returns-clause-exact
returns-clause-exact c =
    entry_read c.args.columns.now c.args.text.now (c.in_ok-who.who, c.in_ok-who.seq, c.in_ok-who.next, c.in_ok-who.place)
    (c.in_ok-named.named, c.in_ok-named.given, c.in_ok-named.place) c.in_ok-request.request c.in_ok-who.ensures.exact c.in_ok-named.ensures.exact
    c.in_ok-request.ensures.exact

pub returns-clause-fits : goal.returns-clause-fits
returns-clause-fits c = record {
  who = search rules;
  request = c.in_ok-request.ensures.fits;
  seq = long_or_none c.in_ok-who.seq (search rules);
  named = c.in_ok-named.ensures.fits.0;
  given = c.in_ok-named.ensures.fits.1;
  next = long_or_none c.in_ok-who.next (search rules);
}
