use Rattle.std.proofs.Common.{◌+◌, ◌≤◌, length, take, ◌∙◌, arith}
use Rattle.cell_text.proofs.PutLemmas.{many_put, length_of_range}
use Rattle.cell_text.proofs.escape.put_escaped.Goals as goal

pub loop-from-preserved-then-are_plain : goal.loop-from-preserved-then-are_plain
loop-from-preserved-then-are_plain c =
    let text = c.args.text.now in
    let from = c.loop-from.from in
    let inside : from + 8 ≤ length text = omega (arith, c.if-text-from-ge8.true, c.loop-from-test.true) in
    let size = length_of_range text from 8 inside in
    let start = take c.args.at c.args.room.now in
    let before = take c.loop-from.to c.loop-from.room in
    record {
      within = inside;
      short = omega (arith, c.put_piece-to.ensures.place, c.loop-from.invariant.short, size);
      room = c.put_piece-to.ensures.len ∙ c.loop-from.invariant.room;
      so_far = many_put text from 8 start before _ inside c.if-are_plain.ensures c.loop-from.invariant.so_far
          c.put_piece-to.ensures.put;
    }
