use Rattle.std.proofs.Common.{◌≡◌, ◌+◌, ◌≤◌, drop}
use Rattle.pieces.specs.Word.{spaces}
use Rattle.pieces.proofs.word.skip_spaces.Given as goal

abbrev pub invariant-loop-at : goal.invariant-loop-at
invariant-loop-at l = (l.place ≤ l.at) × (l.at + spaces (drop l.at l.text) ≡ l.place + spaces (drop l.place l.text))
