use Rattle.std.proofs.Common.{◌∙◌, take, arith}
use Rattle.cell_text.proofs.PutLemmas.{digits_put, digits_whole}
use Rattle.cell_text.proofs.digits.put_digits.Goals as goal

pub loop-byte-preserved : goal.loop-byte-preserved
loop-byte-preserved c =
    let start = take c.args.at c.args.room.now in
    let before = take c.loop-byte.to c.loop-byte.room in
    record {
      place = omega (arith, c.put_piece-to.ensures.place, c.loop-byte.invariant.place);
      room = c.put_piece-to.ensures.len ∙ c.loop-byte.invariant.room;
      so_far = digits_put c.args.bytes.now c.loop-byte.byte-index start before _ c.digits_of.result c.loop-byte-test.true
          c.digits_of.ensures c.loop-byte.invariant.so_far c.put_piece-to.ensures.put;
    }

pub returns-clause-put : goal.returns-clause-put
returns-clause-put c =
    digits_whole c.args.bytes.now c.loop-byte.byte-index _ _ c.loop-byte-test.false c.loop-byte.invariant.so_far
