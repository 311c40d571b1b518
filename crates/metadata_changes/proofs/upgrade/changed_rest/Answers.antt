use Rattle.std.proofs.Common.{List, ℕ, ap, ◌∙◌, w64, rules, FitsSigned, codes}
use Rattle.std.proofs.lemmas.Int.{to_z-of_z}
use Rattle.serde_json.specs.Data.{Data, Members, object, put}
use Rattle.serde_json.specs.View.{items_view, members_view}
use Rattle.serde_json.proofs.Views.{view-Array}
use Rattle.metadata_changes.specs.Upgrade.{upgraded_rest}
use Rattle.metadata_changes.specs.Logs.{with_last}
use Rattle.metadata_changes.specs.LogLaws.{upgraded_is}
use Rattle.metadata_changes.proofs.upgrade.changed_rest.Goals as goal

pub returns : goal.returns
returns c =
    let ms = members_view c.in_ok-members.members.entries in
    let left = members_view c.take.new.members.entries in
    let old_fits : FitsSigned w64 c.args.old = search rules in
    let file = simp to_z-of_z at c.in_ok-metadata_entry.ensures in
    c.from_members.ensures
    ∙ upgraded_is c.as_str.result.now c.args.old ms (members_view c.take_items-log.new.members.entries) left (members_view c.put.new.members.entries) (items_view c.take_items-log.result.items) (items_view c.in_ok-log.log.items)
    c.take_items-log.ensures.value c.take_items-log.ensures.left c.take.ensures.left
    (c.in_ok-log.ensures ∙ ap (λ (entry : Members). with_last (items_view c.take_items-log.result.items) (object entry)) file)
    (c.in_ok-put.ensures.ok ∙ ap (λ (d : Data). put (codes "metadata-log") d left) (view-Array c.in_ok-log.log))
    ∙ ap (λ (path : List ℕ). upgraded_rest ms path c.args.old) c.as_str.ensures
    ∙ ap (λ (rest : Members). upgraded_rest rest c.args.path.now c.args.old) c.in_ok-members.ensures
