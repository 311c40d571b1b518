use Rattle.std.proofs.Common.{◌≡◌, pos, drop}
use Rattle.metadata_changes.specs.Fresh.{greatest}
use Rattle.metadata_changes.proofs.new_table.greatest.Given as goal

-- what is left, from the greatest id so far, gives the answer
abbrev pub invariant-loop-column : goal.invariant-loop-column
invariant-loop-column l = greatest l.most (drop l.column-index l.columns) ≡ greatest (pos 0) l.columns
