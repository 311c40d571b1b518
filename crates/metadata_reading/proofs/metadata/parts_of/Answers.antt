use Rattle.std.proofs.Common.{ℤ, List, w64, rules, FitsSigned, sym, ap, ◌∙◌}
use Rattle.std.proofs.lemmas.Int.{to_z-of_z}
use Rattle.std.proofs.lemmas.Result.{err_from_is_err_and}
use Rattle.words.specs.Laws.{refused_so}
use Rattle.words.specs.Reading.{map_refusal}
use Rattle.serde_json.specs.Find.{get_member}
use Rattle.serde_json.specs.View.{items_view, members_view}
use Rattle.snapshot_entries.specs.declared.snapshot.Snapshot.{Snapshot}
use Rattle.snapshot_entries.specs.Reading.{snapshots_in}
use Rattle.metadata_reading.specs.Reading.{columns_by}
use Rattle.metadata_reading.specs.Refusal.{is_memory, of_snapshots}
use Rattle.metadata_reading.proofs.MetadataSteps.{err_given, parts_is, parts_refused}
use Rattle.metadata_reading.proofs.metadata.parts_of.Goals as goal

pub returns-in_err-columns-clause-exact : goal.returns-in_err-columns-clause-exact
returns-in_err-columns-clause-exact c =
    let p = err_from_is_err_and c.from_residual-in_err-columns.result c.from_residual-in_err-columns.ensures.1 in
    let e = c.in_err-columns.field-0.0 in
    let ms = members_view c.args.members.now.entries in
    let items = items_view c.take_items-items.result.items in
    let fits : FitsSigned w64 c.number_or_0-last.result = search rules in
    let snapshots_read = simp to_z-of_z at c.in_ok-snapshots.ensures.exact in
    let read = ap (λ (z : ℤ). map_refusal of_snapshots (snapshots_in c.args.version z items)) (sym c.number_or_0-last.ensures)
    ∙ ap (map_refusal of_snapshots) snapshots_read in
    let after = members_view c.take_items-items.new.members.entries in
    let same = ap (λ (s : List Snapshot). columns_by (λ name. get_member name after) s) (sym c.as_slice.ensures) in
    err_given c.from_residual-in_err-columns.result p.0 e _ p.1 p.2
    (refused_so (is_memory e) (λ refused. parts_refused c.args.version ms after items c.in_ok-snapshots.snapshots e
    c.take_items-items.ensures.left c.take_items-items.ensures.value read (same ∙ refused)) c.in_err-columns.ensures.exact)

pub returns-clause-exact : goal.returns-clause-exact
returns-clause-exact c =
    let ms = members_view c.args.members.now.entries in
    let items = items_view c.take_items-items.result.items in
    let fits : FitsSigned w64 c.number_or_0-last.result = search rules in
    let snapshots_read = simp to_z-of_z at c.in_ok-snapshots.ensures.exact in
    let read = ap (λ (z : ℤ). map_refusal of_snapshots (snapshots_in c.args.version z items)) (sym c.number_or_0-last.ensures)
    ∙ ap (map_refusal of_snapshots) snapshots_read in
    let after = members_view c.take_items-items.new.members.entries in
    let same = ap (λ (s : List Snapshot). columns_by (λ name. get_member name after) s) (sym c.as_slice.ensures) in
    parts_is c.args.version ms after items c.in_ok-snapshots.snapshots c.in_ok-columns.columns
    c.take_items-items.ensures.left c.take_items-items.ensures.value read (same ∙ c.in_ok-columns.ensures.exact)
