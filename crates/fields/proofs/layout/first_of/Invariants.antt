use Rattle.std.proofs.Common.{◌≡◌, ◌≤◌, ◌+◌, length, drop}
use Rattle.fields.specs.Nulls.{first_of, is_at}
use Rattle.fields.proofs.layout.first_of.Given as goal

abbrev pub invariant-loop-index : goal.invariant-loop-index
invariant-loop-index l = record {
  within : l.index ≤ length l.wanted;
  so_far : l.index + first_of (is_at l.place) (drop l.index l.wanted) (drop l.index l.sources) ≡ first_of (is_at l.place) l.wanted l.sources;
}
