use Rattle.std.proofs.Common.{◌≡◌, ◌+◌, ◌≤◌, drop}
use Rattle.pieces.specs.Number.{digits}
use Rattle.pieces.proofs.number.skip_digits.Given as goal

abbrev pub invariant-loop-at : goal.invariant-loop-at
invariant-loop-at l = (l.place ≤ l.at) × (l.at + digits (drop l.at l.bytes) ≡ l.place + digits (drop l.place l.bytes))
