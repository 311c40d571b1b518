use Rattle.std.proofs.Common.{◌≡◌, ◌≤◌, length, drop}
use Rattle.pieces.specs.Word.{word_at}
use Rattle.pieces.proofs.word.take_word.Given as goal

abbrev pub invariant-loop-byte : goal.invariant-loop-byte
invariant-loop-byte l = (l.place ≤ l.at) × (l.at ≤ length l.text) × (word_at (drop l.byte-index l.word) l.text l.at ≡ word_at l.word l.text l.place)
