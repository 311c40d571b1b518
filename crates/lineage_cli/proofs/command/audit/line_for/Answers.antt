use Rattle.std.proofs.Common.{sym, ap, subst, ◌∙◌, Result, List, ℕ}
use Rattle.std.proofs.lemmas.Result.{err_from_is_err_and}
use Rattle.std.specs.String.{string_bytes}
use Rattle.words.specs.Reading.{◌>>=◌, Gives}
use Rattle.words.specs.Laws.{refused_so}
use Rattle.row_types.specs.declared.column.Column.{Column}
use Rattle.history_log.specs.declared.auditor.Audit.{Audit}
use Rattle.lineage_cli.specs.declared.ending.Ending.{Ending}
use Rattle.lineage_cli.specs.Command.Audit.{judged}
use Rattle.lineage_cli.specs.Run.{is_memory}
use Rattle.lineage_cli.proofs.AuditLemmas.{answer_taken}
use Rattle.lineage_cli.proofs.command.audit.line_for.Goals as goal

pub returns-in_err-audit : goal.returns-in_err-audit
returns-in_err-audit c =
    let p = err_from_is_err_and c.from_residual.result c.from_residual.ensures.1 in
    rw (p.1, p.2)
    (refused_so (is_memory c.in_err-audit.field-0.0) (λ refused. answer_taken c.audit_agrees.ensures c.args.bytes.now ∙ ap (λ (r : Result (List Column × Audit) Ending). r >>= λ both. judged both.1) refused)
    c.in_err-audit.ensures)

pub returns : goal.returns
returns c =
    let whole = answer_taken c.audit_agrees.ensures c.args.bytes.now ∙ ap (λ (r : Result (List Column × Audit) Ending). r >>= λ both. judged both.1) c.in_ok-audit.ensures in
    subst (λ (answer : Result (List ℕ) Ending). Gives is_memory (λ line. string_bytes line) c.judge.result answer) (sym whole) c.judge.ensures
