use Rattle.std.proofs.Common.{rules, SFits}
use Rattle.std.specs.Int.{w64}
use Rattle.std.proofs.lemmas.Int.{to_z-of_z}
use Rattle.report.proofs.RowsLemmas.{put_taken, put_free}
use Rattle.report.proofs.stage.put_at.Goals as goal

pub returns-in_default : goal.returns-in_default
returns-in_default c =
    let fits : SFits w64 c.args.id = search rules in
    let found = simp to_z-of_z at c.in_default.ensures in
    put_taken c.args.state c.args.id _ c.in_default.field-0.now _ found

pub returns : goal.returns
returns c =
    let fits : SFits w64 c.args.id = search rules in
    let last : SFits w64 c.args.last = search rules in
    let found = simp to_z-of_z at c.in-None.ensures in
    let now = simp to_z-of_z at c.in_ok-insert.ensures.ok in
    put_free c.args.state c.args.id _ c.insert.new.self _ found now
