-- Which refusal is want of memory, and how the refusals of the layers below are named.
use Rattle.std.specs.Prelude.{Bool, true, false}
use Rattle.pieces.specs.declared.refusal.PieceRefusal.{PieceRefusal}
use Rattle.pieces.specs.declared.refusal.PieceRefusal.TheVariants as pieces
use Rattle.row_pred.specs.declared.refusal.PredRefusal.{PredRefusal}
use Rattle.row_pred.specs.declared.refusal.PredRefusal.TheVariants as cells
use Rattle.history_log.specs.declared.refusal.HistoryRefusal.{HistoryRefusal}
use Rattle.history_log.specs.declared.refusal.HistoryRefusal.TheVariants.{Syntax, Name, Misfit, NotNull, Illegal}
use Rattle.history_log.specs.declared.refusal.HistoryRefusal.TheVariants.{Memory}

-- memory ran out, the one free answer
abbrev pub is_memory : HistoryRefusal → Bool
is_memory Memory = true
is_memory (Syntax place) = false
is_memory (Name name) = false
is_memory (Misfit place) = false
is_memory (NotNull column) = false
is_memory (Illegal entry rule) = false

-- the refusal of a piece
abbrev pub of_piece : PieceRefusal → HistoryRefusal
of_piece (pieces.Syntax place) = Syntax place
of_piece pieces.Memory = Memory

-- the refusal of cells
abbrev pub of_cells : PredRefusal → HistoryRefusal
of_cells (cells.Syntax place) = Syntax place
of_cells (cells.Name name) = Name name
of_cells (cells.Misfit place) = Misfit place
of_cells (cells.NotNull column) = NotNull column
of_cells cells.Memory = Memory
