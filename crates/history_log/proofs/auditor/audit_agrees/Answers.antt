use Rattle.history_log.proofs.AuditingLemmas.{audit_is}
use Rattle.history_log.proofs.auditor.audit_agrees.Goals as goal

pub returns : goal.returns
returns c =
    audit_is (record {
      rules = c.numbers_are_enough.ensures.rules;
      counted = c.numbers_are_enough.ensures.counted;
      opening = c.numbers_are_enough.ensures.opening;
    })
