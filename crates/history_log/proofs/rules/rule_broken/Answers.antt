use Rattle.std.proofs.Common.{rules}
use Rattle.lineage_model.specs.Step.{broken_rule}
use Rattle.history_log.proofs.rules.rule_broken.Goals as goal

pub returns-then-breaks_seq : goal.returns-then-breaks_seq
unfolding broken_rule
returns-then-breaks_seq c = search rules
