-- A report read line by line while something takes its entries: as Lines and Report say, with what took the entries
-- in their place. The taker is given by what it is before the first entry, and what it is behind one more.
use Rattle.std.specs.Prelude.{ℕ, ◌+◌, ◌==◌, List, [], ◌∷◌, ◌++◌, slice_get, nat_eq, Result, Ok, Err, codes}
use Rattle.std.specs.Prelude.{if◌then◌else◌}
use Rattle.std.specs.List.{starts_with, fold}
use Rattle.std.specs.Str.{bytes_eq}
use Rattle.words.specs.Reading.{◌>>=◌, map_refusal}
use Rattle.row_types.specs.declared.column.Column.{Column}
use Rattle.history_types.specs.declared.entry.Entry.{Entry}
use Rattle.history_types.specs.declared.state.State.{State}
use Rattle.pieces.specs.Word.{is_this}
use Rattle.history_log.specs.Entry.{entry_of}
use Rattle.report.specs.declared.whole.Report.{Report}
use Rattle.report.specs.declared.stage.Part.{Part}
use Rattle.report.specs.declared.stage.Part.TheVariants.{Nothing, Schema, Rows, Entries, Ended}
use Rattle.report.specs.declared.refusal.LineRefusal.{LineRefusal}
use Rattle.report.specs.declared.refusal.LineRefusal.TheVariants.{Wrong}
use Rattle.report.specs.declared.refusal.ReportRefusal.{ReportRefusal}
use Rattle.report.specs.declared.refusal.ReportRefusal.TheVariants.{Line}
use Rattle.report.specs.Refusal.{of_history}
use Rattle.report.specs.Schema.{schema_of}
use Rattle.report.specs.Start.{start_of}
use Rattle.report.specs.Rows.{row_of, joined}
use Rattle.report.specs.Lines.{text_line}
use Rattle.report.specs.Report.{at_line}

-- the columns of a report, and what took its entries
abbrev pub taken_by : {T : Type 0} → (State → T) → (T → Entry → T) → Report → List Column × T
taken_by begun more report = (report.columns, fold more (begun report.start) report.entries)

-- ---- one line more

-- the line of the columns
abbrev pub columns_line : {T : Type 0} → List ℕ → Result (Part T) LineRefusal
columns_line line = text_line line >>= λ text. schema_of text >>= λ columns. Ok (Schema columns)

-- the line behind that of the columns
abbrev pub start_line : {T : Type 0} → List Column → List ℕ → Result (Part T) LineRefusal
start_line columns line = text_line line >>= λ text. start_of text >>= λ start. Ok (Rows columns start)

-- the line of a row
abbrev pub row_line : {T : Type 0} → List Column → State → List ℕ → Result (Part T) LineRefusal
row_line columns start line =
    row_of columns line >>= λ row. joined start row row.id >>= λ after. Ok (Rows columns after)

-- the line of an entry
abbrev pub entry_line : {T : Type 0} → (T → Entry → T) → List Column → T → List ℕ → Result (Part T) LineRefusal
entry_line more columns taker line =
    map_refusal of_history (entry_of columns line) >>= λ entry. Ok (Entries columns (more taker entry))

-- a line between the state at the start and the first entry, or that entry
abbrev pub rows_line : {T : Type 0} → (State → T) → (T → Entry → T) → List Column → State → List ℕ
    → Result (Part T) LineRefusal
rows_line begun more columns start line =
    text_line line >>= λ text. if bytes_eq text (codes "end") then Ok (Ended columns (begun start))
    else (if is_this 114 (slice_get text 0) then row_line columns start text
    else entry_line more columns (begun start) text)

-- a line between the first entry and the end
abbrev pub entries_line : {T : Type 0} → (T → Entry → T) → List Column → T → List ℕ → Result (Part T) LineRefusal
entries_line more columns taker line =
    text_line line >>= λ text. if bytes_eq text (codes "end") then Ok (Ended columns taker)
    else (if is_this 114 (slice_get text 0) then Err Wrong
    else entry_line more columns taker text)

-- a line behind the end
abbrev pub reply_line : {T : Type 0} → List Column → T → List ℕ → Result (Part T) LineRefusal
reply_line columns taker line =
    if starts_with nat_eq line (codes "reply ") then Ok (Ended columns taker) else Err Wrong

-- one line more
unfoldable pub part_read : {T : Type 0} → (State → T) → (T → Entry → T) → Part T → List ℕ
    → Result (Part T) LineRefusal
part_read begun more Nothing line = columns_line line
part_read begun more (Schema columns) line = start_line columns line
part_read begun more (Rows columns start) line = rows_line begun more columns start line
part_read begun more (Entries columns taker) line = entries_line more columns taker line
part_read begun more (Ended columns taker) line = reply_line columns taker line

-- ---- all lines

-- at the end of the bytes the end of the report was read, and no line is begun
abbrev pub ended : {T : Type 0} → ℕ → Part T → List ℕ → Result (List Column × T) ReportRefusal
ended number (Ended columns taker) [] = Ok (columns, taker)
ended number (Ended columns taker) (byte ∷ line) = Err (Line number)
ended number Nothing line = Err (Line number)
ended number (Schema columns) line = Err (Line number)
ended number (Rows columns start) line = Err (Line number)
ended number (Entries columns taker) line = Err (Line number)

-- what is read of the bytes behind those that were read: the number of the line, what stands before it, and its
-- bytes so far
unfoldable pub part_behind : {T : Type 0} → (State → T) → (T → Entry → T) → ℕ → Part T → List ℕ → List ℕ
    → Result (List Column × T) ReportRefusal
part_behind begun more number part line [] = ended number part line
part_behind begun more number part line (byte ∷ bytes) =
    if byte == 10
    then (map_refusal (at_line number) (part_read begun more part line) >>= λ next.
    part_behind begun more (number + 1) next [] bytes)
    else part_behind begun more number part (line ++ byte ∷ []) bytes
