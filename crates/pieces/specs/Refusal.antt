-- Which refusal is want of memory, and where a text stops.
use Rattle.std.specs.Prelude.{ℕ, Bool, true, false}
use Rattle.pieces.specs.declared.refusal.PieceRefusal.{PieceRefusal}
use Rattle.pieces.specs.declared.refusal.PieceRefusal.TheVariants.{Syntax, Memory}

-- memory ran out, the one free answer
abbrev pub is_memory : PieceRefusal → Bool
is_memory Memory = true
is_memory (Syntax place) = false

-- how far the text went
abbrev pub place_of : PieceRefusal → ℕ
place_of (Syntax place) = place
place_of Memory = 0
