use Rattle.std.proofs.Common.{◌≡◌, ◌-◌, ◌++◌}
use Rattle.fields.specs.Nulls.{needed_from}
use Rattle.fields.proofs.layout.needed_of.Given as goal

abbrev pub invariant-loop-place : goal.invariant-loop-place
invariant-loop-place l = l.needed.items ++ needed_from l.wanted l.sources l.place (l.many - l.place) ≡ needed_from l.wanted l.sources 0 l.many
