use Rattle.std.proofs.Common.{w64, FitsSigned, rules}
use Rattle.std.proofs.lemmas.Int.{to_z-of_z}
use Rattle.serde_json.specs.View.{items_view}
use Rattle.snapshot_entries.proofs.ReadingSteps.{found_so, only_so, cause_so, kept_so}
use Rattle.snapshot_entries.proofs.reading.read_snapshots.Goals as goal

pub returns-clause-found : goal.returns-clause-found
returns-clause-found c =
    let fits : FitsSigned w64 c.args.last = search rules in
    let given = simp to_z-of_z at c.snapshots_in.ensures.exact in
    found_so c.args.version c.args.last (items_view c.args.items.items) c.snapshots_in.result given

pub returns-clause-only : goal.returns-clause-only
returns-clause-only c =
    let fits : FitsSigned w64 c.args.last = search rules in
    let given = simp to_z-of_z at c.snapshots_in.ensures.exact in
    only_so c.args.version c.args.last (items_view c.args.items.items) c.snapshots_in.result given

pub returns-clause-cause : goal.returns-clause-cause
returns-clause-cause c =
    let fits : FitsSigned w64 c.args.last = search rules in
    let given = simp to_z-of_z at c.snapshots_in.ensures.exact in
    cause_so c.args.version c.args.last (items_view c.args.items.items) c.snapshots_in.result given

pub returns-clause-kept : goal.returns-clause-kept
returns-clause-kept c =
    let fits : FitsSigned w64 c.args.last = search rules in
    let given = simp to_z-of_z at c.snapshots_in.ensures.exact in
    kept_so c.args.version c.args.last (items_view c.args.items.items) c.snapshots_in.result given
