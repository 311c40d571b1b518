use Rattle.std.proofs.Common.{rules, subst}
use Rattle.words.specs.Reading.{Gives}
use Rattle.lineage_inherit.specs.Refusal.{is_memory}
use Rattle.lineage_inherit.specs.FirstRowIdLaws.{first_ids_running}
use Rattle.lineage_inherit.proofs.first_row_id.first_ids.Goals as goal

pub returns : goal.returns
returns c = record {
  exact = subst (Gives is_memory (λ firsts. firsts) c.firsts_of.result) (first_ids_running c.args.first c.args.entries.now) (search rules);
}
