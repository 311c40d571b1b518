-- Which refusals are want of memory, and how the refusals of the layers below are named.
use Rattle.std.specs.Prelude.{Bool, true, false}
use Rattle.pieces.specs.declared.refusal.PieceRefusal.{PieceRefusal}
use Rattle.pieces.specs.declared.refusal.PieceRefusal.TheVariants as pieces
use Rattle.row_pred.specs.declared.refusal.PredRefusal.{PredRefusal}
use Rattle.row_pred.specs.declared.refusal.PredRefusal.TheVariants as cells
use Rattle.history_log.specs.declared.refusal.HistoryRefusal.{HistoryRefusal}
use Rattle.history_log.specs.declared.refusal.HistoryRefusal.TheVariants as entries
use Rattle.row_types.specs.declared.columns.ColumnsRefusal.{ColumnsRefusal}
use Rattle.row_types.specs.declared.columns.ColumnsRefusal.TheVariants as columns
use Rattle.report.specs.declared.refusal.LineRefusal.{LineRefusal}
use Rattle.report.specs.declared.refusal.LineRefusal.TheVariants.{Wrong, Memory}
use Rattle.report.specs.declared.refusal.ReportRefusal.{ReportRefusal}
use Rattle.report.specs.declared.refusal.ReportRefusal.TheVariants as reports

-- memory ran out, the one free answer of a line
abbrev pub is_memory : LineRefusal → Bool
is_memory Memory = true
is_memory Wrong = false

-- memory ran out, the one free answer of a report
abbrev pub is_memory_of_report : ReportRefusal → Bool
is_memory_of_report reports.Memory = true
is_memory_of_report (reports.Line line) = false

-- the refusal of a piece
abbrev pub of_piece : PieceRefusal → LineRefusal
of_piece (pieces.Syntax place) = Wrong
of_piece pieces.Memory = Memory

-- the refusal of cells
abbrev pub of_cells : PredRefusal → LineRefusal
of_cells (cells.Syntax place) = Wrong
of_cells (cells.Name name) = Wrong
of_cells (cells.Misfit place) = Wrong
of_cells (cells.NotNull column) = Wrong
of_cells cells.Memory = Memory

-- the refusal of an entry
abbrev pub of_history : HistoryRefusal → LineRefusal
of_history (entries.Syntax place) = Wrong
of_history (entries.Name name) = Wrong
of_history (entries.Misfit place) = Wrong
of_history (entries.NotNull column) = Wrong
of_history (entries.Illegal entry rule) = Wrong
of_history entries.Memory = Memory

-- the refusal of a list of columns
abbrev pub of_columns : ColumnsRefusal → LineRefusal
of_columns (columns.Count found) = Wrong
of_columns (columns.Id id) = Wrong
of_columns (columns.Name name) = Wrong
of_columns columns.Memory = Memory
