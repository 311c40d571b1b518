use Rattle.std.proofs.Common.{ap, ◌∙◌}
use Rattle.lineage_model.specs.declared.tally.Tally.{Tally}
use Rattle.lineage_model.specs.Tally.{rule_broken}
use Rattle.history_log.proofs.rules.broken_rule.Goals as goal

pub returns : goal.returns
returns c =
    c.rule_broken.ensures
    ∙ (ap (λ (tally : Tally). rule_broken tally c.args.entry.now) c.tally_of.ensures ∙ c.numbers_are_enough.ensures.rules c.args.state.now c.args.entry.now)
