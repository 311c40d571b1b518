use Rattle.std.proofs.Common.{option_map, sym, ap, ◌∙◌}
use Rattle.serde_json.specs.View.{view}
use Rattle.serde_json.proofs.Views.{view-lookup}
use Rattle.json_members.proofs.MapLaws.{taken_member, without_removed}
use Rattle.json_members.proofs.members.take.Goals as goal

pub returns-clause-value : goal.returns-clause-value
returns-clause-value c = taken_member c.args.members.now c.args.name.now c.remove.result c.remove.ensures.value

pub returns-clause-left : goal.returns-clause-left
returns-clause-left c =
    let name = c.args.name.now in
    let gone = sym (view-lookup name c.remove.new.self.entries) ∙ ap (option_map view) c.remove.ensures.updates.1 in
    let removed = without_removed name c.args.members.now.entries in
    rw c.remove.ensures.entries (removed (rw (sym c.remove.ensures.entries) gone))
