use Rattle.std.proofs.Common.{◌^◌, pos, ◌<ℤ◌, w64, sym, ◌∙◌, arith, rules}
use Rattle.std.specs.Int.RustNames.{FitsSigned}
use Rattle.std.proofs.lemmas.Int.{ints, to_z-of_z}
use Rattle.std.proofs.lemmas.Result.{IfOk-weaker}
use Rattle.history_log.proofs.RulesLemmas.{is_an_upgrade, is_numbered, has_next, ids_below}
use Rattle.history_log.proofs.StepLemmas.{applied_upgrade, applied_commit, applied_append}
use Rattle.history_log.proofs.step.apply.Goals as goal

pub returns-in_default : goal.returns-in_default
returns-in_default c =
    let upgrade = is_an_upgrade c.args.state c.args.entry.now c.requires.legal c.in_default.is in
    record { exact = c.upgraded.ensures ∙ sym (applied_upgrade c.args.state c.args.entry.now upgrade) }

pub appended-requires : goal.appended-requires
appended-requires c =
    let fits : FitsSigned w64 c.in-Some.seq = search rules in
    rw (to_z-of_z w64 c.in-Some.seq fits) (is_numbered c.args.state c.args.entry.now c.in-Some.seq c.requires.legal c.in-Some.is).1

pub returns-then-state-ne3 : goal.returns-then-state-ne3
returns-then-state-ne3 c =
    let other = (is_numbered c.args.state c.args.entry.now c.in-Some.seq c.requires.legal c.in-Some.is).0 in
    let same = applied_append c.args.state c.args.entry.now _ other c.if-state-ne3.true (c.added-adds.ensures c.args.state) in
    record { exact = IfOk-weaker c.appended.result _ _ (λ after is. is ∙ sym same) c.appended.ensures }

pub unreachable-requires : goal.unreachable-requires
unreachable-requires c = has_next c.args.state c.args.entry.now c.in-Some.seq c.requires.legal c.in-Some.is c.if-state-ne3.false c.in_default-next.is

pub committed-requires-clause-seq : goal.committed-requires-clause-seq
committed-requires-clause-seq c =
    let fits : FitsSigned w64 c.in-Some.seq = search rules in
    rw (to_z-of_z w64 c.in-Some.seq fits) (is_numbered c.args.state c.args.entry.now c.in-Some.seq c.requires.legal c.in-Some.is).1

pub committed-requires-clause-named : goal.committed-requires-clause-named
committed-requires-clause-named c =
    let fits : FitsSigned w64 c.in-Some-next.next = search rules in
    let small : c.in-Some-next.next <ℤ pos (2 ^ 63) = omega (arith, ints) in
    (ids_below c.args.state c.args.entry.now c.in-Some.seq c.in-Some-next.next (pos (2 ^ 63)) c.requires.legal c.in-Some.is c.if-state-ne3.false c.in-Some-next.is small).0

pub committed-requires-clause-given : goal.committed-requires-clause-given
committed-requires-clause-given c =
    let fits : FitsSigned w64 c.in-Some-next.next = search rules in
    let small : c.in-Some-next.next <ℤ pos (2 ^ 63) = omega (arith, ints) in
    (ids_below c.args.state c.args.entry.now c.in-Some.seq c.in-Some-next.next (pos (2 ^ 63)) c.requires.legal c.in-Some.is c.if-state-ne3.false c.in-Some-next.is small).1

pub returns : goal.returns
returns c =
    let other = (is_numbered c.args.state c.args.entry.now c.in-Some.seq c.requires.legal c.in-Some.is).0 in
    let same = applied_commit c.args.state c.args.entry.now _ other c.if-state-ne3.false (c.added-adds.ensures c.args.state) in
    record { exact = IfOk-weaker c.committed.result _ _ (λ after is. is ∙ sym same) c.committed.ensures }
