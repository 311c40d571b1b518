use Rattle.std.proofs.Common.{[]}
use Rattle.words.specs.Puts.{ArePut}
use Rattle.row_writing.specs.Written.{row_text, IsEncodedRow}
use Rattle.row_writing.proofs.writing.block.Given as goal

abbrev pub invariant-loop-row : goal.invariant-loop-row
invariant-loop-row l = ArePut (row_text l.columns l.lineage) (IsEncodedRow l.columns l.lineage) l.rows l.row-index [] l.bytes.items
