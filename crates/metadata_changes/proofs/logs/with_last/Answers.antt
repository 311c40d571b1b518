use Rattle.std.proofs.Common.{ap, ◌∙◌}
use Rattle.serde_json.specs.View.{items_view}
use Rattle.serde_json.specs.declared.value.Value.{Object}
use Rattle.serde_json.proofs.Views.{view-Object}
use Rattle.metadata_changes.specs.Logs.{with_last}
use Rattle.metadata_changes.specs.LogLaws.{last_is}
use Rattle.metadata_changes.proofs.logs.with_last.Goals as goal

pub returns : goal.returns
returns c =
    ap items_view c.in_ok-push.ensures.items ∙ last_is c.args.items.items (Object c.args.entry)
    ∙ ap (with_last (items_view c.args.items.items)) (view-Object c.args.entry)
