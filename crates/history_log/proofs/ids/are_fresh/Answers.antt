use Rattle.std.proofs.Common.{◌++◌, w64, sym, ◌∙◌, rules}
use Rattle.std.specs.Int.RustNames.{FitsSigned}
use Rattle.std.proofs.lemmas.Int.{to_z-of_z}
use Rattle.lineage_model.specs.Ids.{ids_of}
use Rattle.history_log.proofs.RisingLemmas.{fresh_as_risen}
use Rattle.history_log.proofs.ids.are_fresh.Goals as goal

pub returns-in-Some-Some : goal.returns-in-Some-Some
returns-in-Some-Some c =
    let low_fits : FitsSigned w64 c.in-Some-Some.low = search rules in
    let high_fits : FitsSigned w64 c.in-Some-Some.high = search rules in
    let all = simp to_z-of_z at c.rise_within.ensures in
    rw (c.in-Some-Some.is-0, c.in-Some-Some.is-1) (all ∙ sym (fresh_as_risen c.in-Some-Some.low c.in-Some-Some.high (ids_of c.args.named.now ++ ids_of c.args.given.now)))
