-- One cell: what its reader is, by what is read of it.
use Rattle.std.proofs.Common.{◌≡◌, ℕ, List, Option, Result, Ok, Err, refl}
use Rattle.std.specs.Bool.{OnFalse}
use Rattle.words.specs.Reading.{◌>>=◌, Gives, map_refusal}
use Rattle.words.specs.Laws.{gives_read}
use Rattle.row_types.specs.declared.cell.Cell.{Cell}
use Rattle.row_types.specs.declared.column.Column.{Column}
use Rattle.pieces.specs.declared.refusal.PieceRefusal.{PieceRefusal}
use Rattle.pieces.specs.declared.refusal.PieceRefusal.TheVariants.{Syntax, Memory}
use Rattle.pieces.specs.Refusal.{is_memory as is_memory_of_piece}
use Rattle.row_pred.specs.declared.refusal.PredRefusal.{PredRefusal}
use Rattle.row_pred.specs.Refusal.{is_memory, of_piece}
use Rattle.row_pred.specs.Cell.{any_cell_at, fitted, cell_at}

-- a piece that is refused refuses what follows it
pub piece_refused : {A B : Type 0} (refusal : PieceRefusal) (read : Result A PieceRefusal) (next : A → Result B PredRefusal) → OnFalse (is_memory_of_piece refusal) (read ≡ Err refusal) → OnFalse (is_memory (of_piece refusal)) ((map_refusal of_piece read >>= next) ≡ Err (of_piece refusal))
piece_refused (Syntax place) read next h = rw h refl
piece_refused Memory read next h = tt

-- any cell was read, and it fits or not
pub cell_read : (column : Column) (input : List ℕ) (place : ℕ) (read : Option Cell × ℕ) (result : Result (Cell × ℕ) PredRefusal) → any_cell_at input place ≡ Ok read → result ≡ fitted column place read → Gives is_memory (λ x. x) result (cell_at column input place)
unfolding cell_at
cell_read column input place read result h fits = gives_read is_memory result _ (rw h fits)

-- no cell was read
pub cell_refused : (column : Column) (input : List ℕ) (place : ℕ) (refusal : PieceRefusal) → OnFalse (is_memory_of_piece refusal) (any_cell_at input place ≡ Err refusal) → OnFalse (is_memory (of_piece refusal)) (cell_at column input place ≡ Err (of_piece refusal))
unfolding cell_at
cell_refused column input place refusal h = piece_refused refusal (any_cell_at input place) (λ read. fitted column place read) h
