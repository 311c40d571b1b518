use Rattle.std.proofs.Common.{Ok, Err}
use Rattle.history_log.proofs.HistoryLemmas.{answers_found, faults_found, answered}
use Rattle.history_log.proofs.history.audit.Goals as goal

pub returns-clause-found : goal.returns-clause-found
returns-clause-found c =
    let given = rw c.as_slice.ensures at c.audited.ensures in
    answers_found c.audited.result c.args.start c.args.entries.now (c.an_audit_finds_histories.ensures.legal c.args.start c.args.entries.now) given

pub returns-clause-only : goal.returns-clause-only
returns-clause-only c = λ end history.
    let given = rw c.as_slice.ensures at c.audited.ensures in
    answered c.audited.result c.args.start c.args.entries.now (Ok end) ((c.an_audit_finds_histories.ensures.legal c.args.start c.args.entries.now end).1 history) given

pub returns-clause-illegal : goal.returns-clause-illegal
returns-clause-illegal c =
    let given = rw c.as_slice.ensures at c.audited.ensures in
    faults_found c.audited.result c.args.start c.args.entries.now (c.an_audit_finds_histories.ensures.illegal c.args.start c.args.entries.now) given

pub returns-clause-illegal_only : goal.returns-clause-illegal_only
returns-clause-illegal_only c = λ fault first.
    let given = rw c.as_slice.ensures at c.audited.ensures in
    answered c.audited.result c.args.start c.args.entries.now (Err fault) ((c.an_audit_finds_histories.ensures.illegal c.args.start c.args.entries.now fault).1 first) given
