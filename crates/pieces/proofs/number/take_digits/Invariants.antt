use Rattle.std.proofs.Common.{◌≡◌, ◌≤◌, drop}
use Rattle.pieces.specs.Number.{digits_from}
use Rattle.pieces.proofs.number.take_digits.Given as goal

abbrev pub invariant-loop-at : goal.invariant-loop-at
invariant-loop-at l = (l.place ≤ l.at) × (digits_from l.most l.value (drop l.at l.bytes) l.at ≡ digits_from l.most 0 (drop l.place l.bytes) l.place)
