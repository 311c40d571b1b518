use Rattle.std.proofs.Common.{sym, ap, ◌∙◌, arith, rules, SFits}
use Rattle.std.specs.Int.{w64}
use Rattle.std.proofs.lemmas.Int.{to_z-of_z}
use Rattle.avro_container.specs.declared.container.Block.{Block}
use Rattle.objects.specs.Blocks.{count_all}
use Rattle.row_reading.proofs.CountLemmas.{counts_on, counts_over, counts_end}
use Rattle.row_reading.proofs.counts.check_counts.Goals as goal

pub returns-then-rows-gt-FILE_ROWS-clause-exact : goal.returns-then-rows-gt-FILE_ROWS-clause-exact
returns-then-rows-gt-FILE_ROWS-clause-exact c =
    let fits : SFits w64 c.in-Some.count = search rules in
    let block : Block = record { count = c.in-Some.count; bytes = c.in-Some.field-0-1.now } in
    let told = simp to_z-of_z at c.told-rows.ensures.value in
    sym c.loop-count.invariant.so_far ∙ counts_over c.loop-count.rows c.told-rows.result c.loop-count.walk.left block c.next.new.self.left
    c.in-Some.ensures.value (sym told) (omega arith)

pub loop-count-preserved : goal.loop-count-preserved
loop-count-preserved c =
    let fits : SFits w64 c.in-Some.count = search rules in
    let block : Block = record { count = c.in-Some.count; bytes = c.in-Some.field-0-1.now } in
    let told = simp to_z-of_z at c.told-rows.ensures.value in
    let sum = ap count_all c.in-Some.ensures.value in
    record {
      few = omega arith;
      sum = omega (arith, sum, told, c.loop-count.invariant.sum);
      so_far = sym (counts_on c.loop-count.rows c.told-rows.result c.loop-count.walk.left block c.next.new.self.left c.in-Some.ensures.value
          (sym told) (omega arith)) ∙ c.loop-count.invariant.so_far;
      whole = c.in-Some.ensures.whole ∙ c.loop-count.invariant.whole;
    }

pub returns-clause-exact : goal.returns-clause-exact
returns-clause-exact c = sym c.loop-count.invariant.so_far ∙ counts_end c.loop-count.rows c.loop-count.walk.left c.in_default.ensures.value
