use Rattle.std.proofs.Common.{◌≡◌, drop}
use Rattle.lineage_inherit.specs.FirstRowId.{AreCounted}
use Rattle.lineage_inherit.specs.RunningId.{firsts_from, all_firsts}
use Rattle.lineage_inherit.proofs.first_row_id.firsts_of.Given as goal

-- the ids so far, and those of the other entries, are all
abbrev pub invariant-loop-entry : goal.invariant-loop-entry
invariant-loop-entry l = record {
  counted : AreCounted (drop l.entry-index l.entries);
  so_far : all_firsts l.firsts l.next (drop l.entry-index l.entries) ≡ firsts_from l.fn.first l.entries;
}
