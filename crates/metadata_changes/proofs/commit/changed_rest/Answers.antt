use Rattle.std.proofs.Common.{List, ℕ, ap, ◌∙◌, w64, rules, FitsSigned}
use Rattle.std.proofs.lemmas.Int.{to_z-of_z}
use Rattle.serde_json.specs.Data.{Members, object}
use Rattle.serde_json.specs.View.{items_view, members_view}
use Rattle.json_members.specs.Form.{items_in}
use Rattle.metadata_changes.specs.Commit.{changed_rest}
use Rattle.metadata_changes.specs.Logs.{members_in, with_last}
use Rattle.metadata_changes.specs.LogLaws.{touched_left, second_found, third_found, rest_is}
use Rattle.metadata_changes.proofs.commit.changed_rest.Goals as goal

pub returns : goal.returns
returns c =
    let ms = members_view c.in_ok-members.members.entries in
    let a = members_view c.take_items-snapshot_log.new.members.entries in
    let b = members_view c.take_items-metadata_log.new.members.entries in
    let left = members_view c.take_members-refs.new.members.entries in
    let first = c.take_items-snapshot_log.ensures.left in
    let second = c.take_items-metadata_log.ensures.left in
    let id_fits : FitsSigned w64 c.args.id = search rules in
    let time_fits : FitsSigned w64 c.args.time = search rules in
    let old_fits : FitsSigned w64 c.args.old = search rules in
    let entry = simp to_z-of_z at c.in_ok-snapshot_entry.ensures in
    let file = simp to_z-of_z at c.in_ok-metadata_entry.ensures in
    let main = simp to_z-of_z at c.in_ok-refs.ensures in
    c.from_members.ensures
    ∙ rest_is c.as_str.result.now c.args.old c.args.id c.args.time ms left (members_view c.put_all.new.members.entries) (members_view c.take_members-refs.result.entries) (members_view c.in_ok-refs.refs.entries)
    (items_view c.take_items-snapshot_log.result.items) (items_view c.take_items-metadata_log.result.items) (items_view c.in_ok-snapshot_log.snapshot_log.items) (items_view c.in_ok-metadata_log.metadata_log.items)
    c.take_items-snapshot_log.ensures.value (c.take_items-metadata_log.ensures.value ∙ ap items_in (second_found ms a first))
    (c.take_members-refs.ensures.value ∙ ap members_in (third_found ms a b first second)) (touched_left ms a b left first second c.take_members-refs.ensures.left)
    (c.in_ok-snapshot_log.ensures ∙ ap (λ (entry : Members). with_last (items_view c.take_items-snapshot_log.result.items) (object entry)) entry)
    (c.in_ok-metadata_log.ensures ∙ ap (λ (entry : Members). with_last (items_view c.take_items-metadata_log.result.items) (object entry)) file)
    main c.in_ok-put_all.ensures.ok
    ∙ ap (λ (path : List ℕ). changed_rest ms path c.args.old c.args.id c.args.time) c.as_str.ensures
    ∙ ap (λ (rest : Members). changed_rest rest c.args.path.now c.args.old c.args.id c.args.time) c.in_ok-members.ensures
