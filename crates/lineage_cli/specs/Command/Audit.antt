-- What `audit` does: it prints that the history of a report is legal, with its size and what it leads to.
use Rattle.std.specs.Prelude.{◌≡◌, ℕ, ◌+◌, ℤ, List, [], ◌∷◌, ◌++◌, length, Option, Result, Ok, Err, codes, decimal}
use Rattle.words.specs.Reading.{◌>>=◌, map_refusal}
use Rattle.history_types.specs.declared.state.State.{State}
use Rattle.lineage_model.specs.declared.tally.Tally.{Tally}
use Rattle.lineage_model.specs.History.{Fault, IsHistory, IsFirstFault, audited}
use Rattle.history_log.specs.declared.auditor.Audit.{Audit}
use Rattle.history_log.specs.declared.auditor.Audit.TheVariants as audits
use Rattle.pieces.specs.Number.{optional_text}
use Rattle.report.specs.declared.whole.Report.{Report}
use Rattle.report.specs.declared.refusal.ReportRefusal.{ReportRefusal}
use Rattle.report.specs.declared.refusal.ReportRefusal.TheVariants as reports
use Rattle.report.specs.Report.{report_of}
use Rattle.lineage_cli.specs.declared.ending.Ending.{Ending}
use Rattle.lineage_cli.specs.declared.ending.Ending.TheVariants.{Input, Illegal, Memory}
use Rattle.lineage_cli.specs.Answers.{Answer, Answers}
use Rattle.lineage_cli.specs.Outside.{Outside}
use Rattle.lineage_cli.specs.Text.{spaced}

-- the words: the command's name alone
abbrev pub AsksAudit : List (List ℕ) → Type 0
AsksAudit words = words ≡ codes "audit" ∷ []

-- how many rows there are, with and without ids
abbrev pub row_count : State → ℕ
row_count state = length state.rows + length state.unnamed

-- the line of a legal history: how many entries there are, how many rows then, and the next id
abbrev pub legal_text : ℕ → ℕ → Option ℤ → List ℕ
legal_text entries rows next =
    spaced (codes "legal")
    ++ (spaced (decimal entries) ++ (spaced (decimal rows) ++ (optional_text next ++ codes "\n")))

-- the line of so many entries that lead to this state
abbrev pub legal_line : ℕ → State → List ℕ
legal_line entries state = legal_text entries (row_count state) state.next

-- the bytes are a report whose history is legal from its start, and this is the line of its last state
pub record IsLegal (bytes line : List ℕ) : Type 0 where
  pub report : Report
  pub read : report_of bytes ≡ Ok report
  pub end : State
  pub history : IsHistory report.start report.entries end
  pub is : line ≡ legal_line (length report.entries) end

-- the bytes are a report, and this is the first fault of its history
pub record IsIllegal (bytes : List ℕ) (fault : Fault) : Type 0 where
  pub report : Report
  pub read : report_of bytes ≡ Ok report
  pub first : IsFirstFault report.start report.entries fault

-- the answer for the bytes of a report: the line of a legal history, the first wrong line, or the first fault
abbrev pub AuditAnswer : List ℕ → Answer
AuditAnswer bytes (Ok line) = IsLegal bytes line
AuditAnswer bytes (Err (Input line)) = report_of bytes ≡ Err (reports.Line line)
AuditAnswer bytes (Err (Illegal entry rule)) = IsIllegal bytes (record { entry = entry; rule = rule })
AuditAnswer bytes (Err _) = ⊥

-- the command: an input of at most 16 MiB
abbrev pub ServesAudit : Outside → Outside → Result (Unit {0}) Ending → Type 0
ServesAudit = Answers 16777216 AuditAnswer

-- ---- the answer from left to right

-- how the run ends for bytes that are no report
abbrev pub of_report : ReportRefusal → Ending
of_report (reports.Line line) = Input line
of_report reports.Memory = Memory

-- how it ends for a history that is not legal
abbrev pub illegal : Fault → Ending
illegal fault = Illegal fault.entry fault.rule

-- the line, or the first line of the input that is wrong, or the first entry that is not legal
unfoldable pub audit_answer : List ℕ → Result (List ℕ) Ending
audit_answer bytes = do
  report ← map_refusal of_report (report_of bytes)
  state ← map_refusal illegal (audited report.start report.entries)
  Ok (legal_line (length report.entries) state)

-- ---- the same by what an audit finds that takes the entries one by one

-- the line of so many entries that lead to a state with these numbers
abbrev pub tally_line : ℕ → Tally → List ℕ
tally_line entries tally = legal_text entries (tally.rows + tally.unnamed) tally.next

-- the line, or the first entry that is not legal
abbrev pub judged : Audit → Result (List ℕ) Ending
judged (audits.Legal entries tally) = Ok (tally_line entries tally)
judged (audits.Illegal entry rule) = Err (Illegal entry rule)
