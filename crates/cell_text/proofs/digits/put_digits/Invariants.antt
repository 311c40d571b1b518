use Rattle.std.proofs.Common.{◌≡◌, ◌+◌, ◌*◌, ◌++◌, length, take, drop}
use Rattle.hex.specs.Hex.{encode_lower}
use Rattle.cell_text.proofs.digits.put_digits.Given as goal

abbrev pub invariant-loop-byte : goal.invariant-loop-byte
invariant-loop-byte l = record {
  place : l.to ≡ l.at + 2 * l.byte-index;
  room : length l.room ≡ length l.fn.room;
  so_far : take l.to l.room ++ encode_lower (drop l.byte-index l.bytes) ≡ take l.at l.fn.room ++ encode_lower l.bytes;
}
