use Rattle.std.proofs.Common.{◌≡◌, ◌-◌, ◌≤◌, None, length, drop}
use Rattle.pieces.specs.HexLiteral.{pairs_at}
use Rattle.pieces.proofs.hex_literal.take_pairs.Given as goal

abbrev pub invariant-loop-high : goal.invariant-loop-high
invariant-loop-high l = record {
  before : l.start ≤ l.at;
  within : l.at ≤ length l.text;
  read : pairs_at None l.read.items (drop l.at l.text) l.at ≡ pairs_at None l.initial.read.items (drop l.start l.text) l.start;
}

abbrev pub decreases-loop-high : goal.decreases-loop-high
decreases-loop-high l = length l.text - l.at
