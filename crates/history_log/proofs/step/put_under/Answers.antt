use Rattle.std.proofs.Common.{pos, ◌^◌, w64, sym, ◌∙◌, rules}
use Rattle.std.specs.Int.RustNames.{FitsSigned}
use Rattle.std.specs.Vec.Iter.{into_iter_items}
use Rattle.std.proofs.lemmas.Int.{to_z-of_z}
use Rattle.history_log.proofs.StepLemmas.{puts_on, puts_none, below_behind}
use Rattle.history_log.proofs.step.put_under.Goals as goal

pub loop-last-preserved : goal.loop-last-preserved
loop-last-preserved c =
    let id_fits : FitsSigned w64 c.in-Some-next.id = search rules in
    let last_fits : FitsSigned w64 c.in-Some.last = search rules in
    let put = simp to_z-of_z at c.in_ok-insert.ensures.ok in (
      tt,
      tt,
      below_behind c.loop-last.ids c.next-in-loop-last.new.self c.in-Some-next.id (pos (2 ^ 63)) c.in-Some-next.ensures c.loop-last.invariant.2,
      puts_on c.loop-last.rows c.insert.new.self c.loop-last.ids c.next-in-loop-last.new.self (into_iter_items c.loop-last.last-iterator)
          (into_iter_items c.next.new.self) c.in-Some-next.id (c.in-Some.last, c.in-Some.cells) _ c.in-Some-next.ensures c.in-Some.ensures.steps.0 put
          c.loop-last.invariant.3,
    )

pub returns : goal.returns
returns c = puts_none c.loop-last.rows c.loop-last.ids (into_iter_items c.loop-last.last-iterator) _ (sym c.loop-last.last-iterator.rest.ok.0 ∙ c.in-None.ensures.steps.0) c.loop-last.invariant.3
