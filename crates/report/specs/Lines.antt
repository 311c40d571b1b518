-- One line behind those that were read.
use Rattle.std.specs.Prelude.{ℕ, List, [], ◌∷◌, ◌++◌, slice_get, nat_eq, Result, Ok, Err, codes, if◌then◌else◌}
use Rattle.std.specs.List.{starts_with}
use Rattle.std.specs.Str.{is_utf8, bytes_eq}
use Rattle.words.specs.Reading.{◌>>=◌, map_refusal}
use Rattle.row_types.specs.declared.column.Column.{Column}
use Rattle.history_types.specs.declared.entry.Entry.{Entry}
use Rattle.history_types.specs.declared.state.State.{State}
use Rattle.pieces.specs.Word.{is_this}
use Rattle.history_log.specs.Entry.{entry_of}
use Rattle.report.specs.declared.whole.Report.{Report}
use Rattle.report.specs.Stage.{Stage}
use Rattle.report.specs.Stage.{Nothing, Schema, Body, Ended}
use Rattle.report.specs.declared.refusal.LineRefusal.{LineRefusal}
use Rattle.report.specs.declared.refusal.LineRefusal.TheVariants.{Wrong}
use Rattle.report.specs.Refusal.{of_history}
use Rattle.report.specs.Schema.{schema_of}
use Rattle.report.specs.Start.{start_of}
use Rattle.report.specs.Rows.{row_of, joined}

-- a report without rows and entries
abbrev pub begun : List Column → State → Report
begun columns start = record { columns = columns; start = start; entries = [] }

-- a report with another state at the start
abbrev pub with_start : Report → State → Report
with_start report start = record { columns = report.columns; start = start; entries = report.entries }

-- a report with one more entry
abbrev pub with_entry : Report → Entry → Report
with_entry report entry =
    record { columns = report.columns; start = report.start; entries = report.entries ++ entry ∷ [] }

-- the line of a row; none stands behind an entry
abbrev pub row_line : Report → List Entry → List ℕ → Result Stage LineRefusal
row_line report [] line =
    row_of report.columns line >>= λ row. joined report.start row row.id >>= λ start.
    Ok (Body (with_start report start))
row_line report (entry ∷ entries) line = Err Wrong

-- the line of an entry
abbrev pub entry_line : Report → List ℕ → Result Stage LineRefusal
entry_line report line =
    map_refusal of_history (entry_of report.columns line) >>= λ entry. Ok (Body (with_entry report entry))

-- a line between the state at the start and the end
abbrev pub body_line : Report → List ℕ → Result Stage LineRefusal
body_line report line =
    if bytes_eq line (codes "end") then Ok (Ended report)
    else (if is_this 114 (slice_get line 0) then row_line report report.entries line
    else entry_line report line)

-- the line behind that of the columns
abbrev pub first_state : List Column → List ℕ → Result Stage LineRefusal
first_state columns line = start_of line >>= λ start. Ok (Body (begun columns start))

-- the line is text
abbrev pub text_line : List ℕ → Result (List ℕ) LineRefusal
text_line line = if is_utf8 line then Ok line else Err Wrong

-- a line behind the end: the word reply, a space, and bytes of any kind
abbrev pub reply_line : Report → List ℕ → Result Stage LineRefusal
reply_line report line = if starts_with nat_eq line (codes "reply ") then Ok (Ended report) else Err Wrong

-- one line more
unfoldable pub line_read : Stage → List ℕ → Result Stage LineRefusal
line_read Nothing line = text_line line >>= λ text. schema_of text >>= λ columns. Ok (Schema columns)
line_read (Schema columns) line = text_line line >>= λ text. first_state columns text
line_read (Body report) line = text_line line >>= λ text. body_line report text
line_read (Ended report) line = reply_line report line
