use Rattle.std.proofs.Common.{w64, rules}
use Rattle.std.specs.Int.RustNames.{FitsSigned}
use Rattle.std.proofs.lemmas.Int.{to_z-of_z}
use Rattle.history_log.proofs.RunsLemmas.{none_goes_on, last_goes_on}
use Rattle.history_log.proofs.runs.goes_on.Goals as goal

pub returns-in-None : goal.returns-in-None
returns-in-None c = none_goes_on c.args.runs.now c.args.first c.in-None.ensures.value

pub returns-in-Some : goal.returns-in-Some
returns-in-Some c =
    let fits : FitsSigned w64 c.args.first = search rules in
    let ends = simp to_z-of_z at c.ends_before.ensures in
    last_goes_on c.args.runs.now c.args.first c.in-Some.run'.now c.ends_before.result c.in-Some.ensures.value ends
