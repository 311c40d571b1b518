use Rattle.std.proofs.Common.{◌≡◌, drop}
use Rattle.lineage_inherit.specs.Sequence.{sequences, sequences_from}
use Rattle.lineage_inherit.proofs.sequence.sequences_of.Given as goal

-- the numbers so far, and those of the other entries, are all
abbrev pub invariant-loop-entry : goal.invariant-loop-entry
invariant-loop-entry l = sequences_from l.numbers l.list (drop l.entry-index l.entries) ≡ sequences l.list l.entries
