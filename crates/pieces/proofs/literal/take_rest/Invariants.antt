use Rattle.std.proofs.Common.{◌≡◌, ◌-◌, ◌≤◌, false, length, drop, string_bytes, IsCharBoundary}
use Rattle.pieces.specs.Literal.{rest_at}
use Rattle.pieces.proofs.literal.take_rest.Given as goal

abbrev pub invariant-runs : goal.invariant-runs
invariant-runs l = record {
  before : l.start ≤ l.at;
  within : l.at ≤ length l.text;
  boundary : IsCharBoundary l.text l.at;
  read : rest_at false (string_bytes l.content) (drop l.at l.text) l.at ≡ rest_at false (string_bytes l.initial.content) (drop l.start l.text) l.start;
}

abbrev pub decreases-runs : goal.decreases-runs
decreases-runs l = length l.text - l.at
