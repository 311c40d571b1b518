use Rattle.std.proofs.Common.{◌≡◌, map, take}
use Rattle.fields.specs.Flat.{leaf_of}
use Rattle.fields.specs.Record.{place_in}
use Rattle.fields.proofs.layout.sources_of.Given as goal

abbrev pub invariant-loop-w : goal.invariant-loop-w
invariant-loop-w l = l.sources.items ≡ map (place_in (map leaf_of l.all)) (take l.w-index l.wanted)
