use Rattle.std.proofs.Common.{◌≡◌, ◌+◌, ◌-◌, ◌*◌, ◌≤◌, ◌++◌, length, take}
use Rattle.std.specs.List.{flat_map}
use Rattle.pieces.specs.Literal.{escape}
use Rattle.cell_text.proofs.escape.put_escaped.Given as goal

abbrev pub invariant-loop-from : goal.invariant-loop-from
invariant-loop-from l = record {
  within : l.from ≤ length l.text;
  short : l.to ≤ l.at + 2 * l.from;
  room : length l.room ≡ length l.fn.room;
  so_far : take l.to l.room ≡ take l.at l.fn.room ++ flat_map escape (take l.from l.text);
}

abbrev pub decreases-loop-from : goal.decreases-loop-from
decreases-loop-from l = length l.text - l.from
