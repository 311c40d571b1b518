use Rattle.std.proofs.Common.{rules, SFits}
use Rattle.std.specs.Int.{w64}
use Rattle.std.proofs.lemmas.Int.{to_z-of_z}
use Rattle.row_reading.specs.Checked.{Shown}
use Rattle.row_reading.proofs.OwnRowsLemmas.{own_found, own_only}
use Rattle.row_reading.proofs.checked.check_own_rows.Goals as goal

pub returns-clause-found : goal.returns-clause-found
returns-clause-found c =
    let fits : SFits w64 c.args.sequence = search rules in
    own_found c.reading_agrees.ensures.found (λ (rows : Shown). rows.left) c.args.bytes.now c.args.first c.args.sequence c.check_own.result (simp to_z-of_z at c.check_own.ensures.exact)

pub returns-clause-only : goal.returns-clause-only
returns-clause-only c =
    let fits : SFits w64 c.args.sequence = search rules in
    own_only c.reading_agrees.ensures.only (λ (rows : Shown). rows.left) c.args.bytes.now c.args.first c.args.sequence c.check_own.result (simp to_z-of_z at c.check_own.ensures.exact)
