-- Which refusal is want of memory, and how the refusal of a piece is named.
use Rattle.std.specs.Prelude.{Bool, true, false}
use Rattle.pieces.specs.declared.refusal.PieceRefusal.{PieceRefusal}
use Rattle.pieces.specs.declared.refusal.PieceRefusal.TheVariants as pieces
use Rattle.row_pred.specs.declared.refusal.PredRefusal.{PredRefusal}
use Rattle.row_pred.specs.declared.refusal.PredRefusal.TheVariants.{Syntax, Name, Misfit, NotNull, Memory}

-- memory ran out, the one free answer
abbrev pub is_memory : PredRefusal → Bool
is_memory Memory = true
is_memory (Syntax place) = false
is_memory (Name name) = false
is_memory (Misfit place) = false
is_memory (NotNull column) = false

-- the refusal of a piece
abbrev pub of_piece : PieceRefusal → PredRefusal
of_piece (pieces.Syntax place) = Syntax place
of_piece pieces.Memory = Memory
