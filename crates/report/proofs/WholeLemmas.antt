-- A report whose entries were taken one by one into a list.
use Rattle.std.proofs.Common.{◌≡◌, List, [], ◌∷◌, ◌++◌, Result, Ok, Err, refl, sym, ap, ◌∙◌, append-nil, append_assoc}
use Rattle.std.specs.List.{fold}
use Rattle.std.specs.Bool.{OnFalse}
use Rattle.words.specs.Reading.{Gives, map_value, value_or}
use Rattle.row_types.specs.declared.column.Column.{Column}
use Rattle.history_types.specs.declared.entry.Entry.{Entry}
use Rattle.history_types.specs.declared.state.State.{State}
use Rattle.report.specs.declared.whole.Report.{Report}
use Rattle.report.specs.declared.whole.History.{History}
use Rattle.report.specs.declared.refusal.ReportRefusal.{ReportRefusal}
use Rattle.report.specs.History.{history_begun, history_more}
use Rattle.report.specs.Taken.{taken_by}

-- all entries are taken behind those before them
all_taken : (start : State) (before entries : List Entry) → fold history_more (record { start = start; entries = before }) entries ≡ record { start = start; entries = before ++ entries }
all_taken start before [] = ap (λ (list : List Entry). record { start = start; entries = list }) (sym (append-nil before))
all_taken start before (entry ∷ entries) =
    all_taken start (before ++ entry ∷ []) entries ∙ ap (λ (list : List Entry). record { start = start; entries = list }) (append_assoc before (entry ∷ []) entries)

-- the report of its columns and of what was taken
abbrev pub report_with : List Column × History → Report
report_with read = record { columns = read.0; start = read.1.start; entries = read.1.entries }

-- what was taken of a report is the report
pub whole_read : (report : Result Report ReportRefusal) (read : List Column × History) → map_value (taken_by history_begun history_more) report ≡ Ok read → report ≡ Ok (report_with read)
whole_read (Ok report) read is =
    let taken : taken_by history_begun history_more report ≡ read = ap (value_or read) is in
    let all = all_taken report.start [] report.entries in
    ap (λ (history : History). Ok (report_with (report.columns, history))) (sym all) ∙ ap (λ (r : List Column × History). Ok (report_with r)) taken
whole_read (Err refusal) read is = absurd cc

-- and what is refused is refused
pub whole_refused : (report : Result Report ReportRefusal) (refusal : ReportRefusal) → map_value (taken_by history_begun history_more) report ≡ Err refusal → report ≡ Err refusal
whole_refused (Ok report) refusal is = absurd cc
whole_refused (Err other) refusal is = cc
