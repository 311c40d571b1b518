use Rattle.std.proofs.Common.{◌≡◌, List, [], Ok, Err, ap, subst}
use Rattle.std.proofs.lemmas.Result.{err_from_is_err_and}
use Rattle.words.specs.Laws.{refused_so}
use Rattle.words.specs.Reading.{value_or}
use Rattle.serde_json.specs.Find.{get_member}
use Rattle.serde_json.specs.View.{members_view}
use Rattle.json_members.specs.declared.rows.Version.{Version}
use Rattle.row_types.specs.declared.column.Column.{Column}
use Rattle.snapshot_entries.specs.declared.snapshot.Snapshot.{Snapshot}
use Rattle.metadata_reading.specs.Reading.{parts_by}
use Rattle.metadata_reading.specs.Refusal.{is_memory}
use Rattle.metadata_reading.proofs.MetadataSteps.{err_given, meta_is, meta_refused}
use Rattle.metadata_reading.proofs.metadata.meta_of.Goals as goal

pub returns-in_err-snapshots : goal.returns-in_err-snapshots
returns-in_err-snapshots c =
    let p = err_from_is_err_and c.from_residual-in_err-snapshots.result c.from_residual-in_err-snapshots.ensures.1 in
    let e = c.in_err-snapshots.field-0.0 in
    let ms = members_view c.args.members.entries in
    record {
      exact = err_given c.from_residual-in_err-snapshots.result p.0 e _ p.1 p.2 (refused_so (is_memory e)
          (λ refused. meta_refused ms (c.in_ok-version.version, c.in_ok-version.uuid) e c.in_ok-version.ensures.exact
          (subst (λ (v : Version). parts_by v (λ name. get_member name ms) ≡ Err e) c.format_of.ensures refused))
          c.in_err-snapshots.ensures.exact);
    }

pub returns : goal.returns
returns c =
    let ms = members_view c.args.members.entries in
    let after = members_view c.parts_of.new.members.entries in
    let parts : List Snapshot × List Column = (c.in_ok-snapshots.snapshots, c.in_ok-snapshots.columns) in
    record {
      exact = meta_is ms after (c.in_ok-version.version, c.in_ok-version.uuid) c.in_ok-location.location parts
          c.record_of.result c.in_ok-snapshots.ensures.left c.in_ok-version.ensures.exact
          (ap (value_or []) c.in_ok-location.ensures.exact)
          (subst (λ (v : Version). parts_by v (λ name. get_member name ms) ≡ Ok parts) c.format_of.ensures
          c.in_ok-snapshots.ensures.exact) c.record_of.ensures;
    }
