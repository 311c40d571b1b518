use Rattle.std.proofs.Common.{◌≡◌, map, drop}
use Rattle.pieces.specs.Word.{one_of, one_of_from}
use Rattle.pieces.proofs.word.take_one_of.Given as goal

abbrev pub invariant-loop-index : goal.invariant-loop-index
invariant-loop-index l = one_of_from l.index (map (λ w. w.now) (drop l.index l.words)) l.text l.place l.far ≡ one_of (map (λ w. w.now) l.words) l.text l.place
