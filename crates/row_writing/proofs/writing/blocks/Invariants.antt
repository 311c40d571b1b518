use Rattle.std.proofs.Common.{length}
use Rattle.row_writing.proofs.WritingLemmas.{AreInBlocks}
use Rattle.row_writing.proofs.writing.blocks.Given as goal

abbrev pub invariant-loop-rest : goal.invariant-loop-rest
invariant-loop-rest l = AreInBlocks l.columns l.lineage l.rows l.list l.rest

abbrev pub decreases-loop-rest : goal.decreases-loop-rest
decreases-loop-rest l = length l.rest
