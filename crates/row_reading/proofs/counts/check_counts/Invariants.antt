use Rattle.std.proofs.Common.{◌≡◌, ◌+◌, ◌≤◌, length}
use Rattle.objects.specs.Blocks.{count_all}
use Rattle.row_reading.specs.File.{check_counts}
use Rattle.limits.specs.Limits.{most_rows}
use Rattle.row_reading.proofs.counts.check_counts.Given as goal

abbrev pub invariant-loop-count : goal.invariant-loop-count
invariant-loop-count l = record {
  few : l.rows ≤ most_rows;
  sum : l.rows + count_all l.walk.left ≡ count_all l.initial.walk.left;
  so_far : check_counts l.rows l.walk.left ≡ check_counts 0 l.initial.walk.left;
  whole : l.walk.whole ≡ l.initial.walk.whole;
}

abbrev pub decreases-loop-count : goal.decreases-loop-count
decreases-loop-count l = length l.walk.left
