-- A report, line by line. Each line ends with LF.
use Rattle.std.specs.Prelude.{ℕ, ◌+◌, ◌==◌, List, [], ◌∷◌, ◌++◌, Result, Ok, Err, if◌then◌else◌}
use Rattle.words.specs.Reading.{◌>>=◌, map_refusal}
use Rattle.report.specs.declared.whole.Report.{Report}
use Rattle.report.specs.Stage.{Stage}
use Rattle.report.specs.Stage.{Nothing, Schema, Body, Ended}
use Rattle.report.specs.declared.refusal.LineRefusal.{LineRefusal}
use Rattle.report.specs.declared.refusal.LineRefusal.TheVariants as lines
use Rattle.report.specs.declared.refusal.ReportRefusal.{ReportRefusal}
use Rattle.report.specs.declared.refusal.ReportRefusal.TheVariants.{Line, Memory}
use Rattle.report.specs.Lines.{line_read}

-- the refusal of a line by its number
abbrev pub at_line : ℕ → LineRefusal → ReportRefusal
at_line number lines.Wrong = Line number
at_line number lines.Memory = Memory

-- at the end of the bytes the end of the report was read, and no line is begun
abbrev pub finished : ℕ → Stage → List ℕ → Result Report ReportRefusal
finished number (Ended report) [] = Ok report
finished number (Ended report) (byte ∷ line) = Err (Line number)
finished number Nothing line = Err (Line number)
finished number (Schema columns) line = Err (Line number)
finished number (Body report) line = Err (Line number)

-- the report of the bytes behind those that were read: the number of the line, what stands before it,
-- and its bytes so far
unfoldable pub report_behind : ℕ → Stage → List ℕ → List ℕ → Result Report ReportRefusal
report_behind number stage line [] = finished number stage line
report_behind number stage line (byte ∷ bytes) =
    if byte == 10
    then (map_refusal (at_line number) (line_read stage line) >>= λ next. report_behind (number + 1) next [] bytes)
    else report_behind number stage (line ++ byte ∷ []) bytes

-- the report that the bytes are, or the first line that is wrong
unfoldable pub report_of : List ℕ → Result Report ReportRefusal
report_of bytes = report_behind 1 Nothing [] bytes
