use Rattle.std.proofs.Common.{◌≡◌, pos, ◌<ℤ◌, ◌^◌}
use Rattle.std.specs.List.{All}
use Rattle.std.specs.Vec.Iter.{into_iter_items}
use Rattle.lineage_model.specs.Ids.{ids_of}
use Rattle.lineage_model.specs.Rows.{under, with_rows}
use Rattle.history_log.proofs.step.put_under.Given as goal

abbrev pub invariant-loop-last : goal.invariant-loop-last
invariant-loop-last l =
    (goal.iterator-loop-last).can_next l.last-iterator × (goal.iterator-loop-last).is_finite l.last-iterator × All (λ id. id <ℤ pos (2 ^ 63)) l.ids
    × (with_rows l.rows (under l.ids (into_iter_items l.last-iterator)) ≡ with_rows l.fn.rows (under (ids_of l.runs) l.fn.new))
