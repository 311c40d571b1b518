use Rattle.std.proofs.Common.{rules, SFits}
use Rattle.std.specs.Int.{w64}
use Rattle.std.proofs.lemmas.Int.{to_z-of_z}
use Rattle.report.proofs.RowsLemmas.{joined_at}
use Rattle.report.proofs.stage.join.Goals as goal

pub returns-in-Some : goal.returns-in-Some
returns-in-Some c =
    let fits : SFits w64 c.in-Some.id = search rules in
    let last : SFits w64 c.args.row.last = search rules in
    let put = simp to_z-of_z at c.put_at.ensures in
    joined_at c.args.state c.args.row c.in-Some.id c.put_at.result c.in-Some.is put
