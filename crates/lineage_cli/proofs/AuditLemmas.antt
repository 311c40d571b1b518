-- What `audit` answers.
use Rattle.std.proofs.Common.{◌≡◌, ℕ, Bool, true, false, List, length, Option, Some, Result, Ok, Err, refl, sym, ap, subst, inl, ◌∙◌}
use Rattle.std.specs.Bool.{OnFalse}
use Rattle.std.specs.List.{fold}
use Rattle.words.specs.Reading.{◌>>=◌, map_refusal, map_value}
use Rattle.history_types.specs.declared.entry.Entry.{Entry}
use Rattle.history_types.specs.declared.state.State.{State}
use Rattle.lt_port.specs.Streams.{Outgoing}
use Rattle.lineage_model.specs.History.{Fault, IsHistory, IsFirstFault, audited}
use Rattle.report.specs.declared.whole.Report.{Report}
use Rattle.history_log.specs.Auditing.{audit_of, audit_begun, audit_more}
use Rattle.report.specs.declared.refusal.ReportRefusal.{ReportRefusal}
use Rattle.report.specs.declared.refusal.ReportRefusal.TheVariants as reports
use Rattle.report.specs.Report.{report_of}
use Rattle.report.specs.Taken.{taken_by}
use Rattle.lineage_cli.specs.declared.ending.Ending.{Ending}
use Rattle.lineage_cli.specs.declared.ending.Ending.TheVariants.{Usage, InputFault, InputLimit, Input, Table, Illegal, OutFault, Memory}
use Rattle.lineage_cli.specs.Answers.{Prints}
use Rattle.lineage_cli.specs.Command.Audit.{of_report, illegal, legal_line, audit_answer, judged, IsLegal, AuditAnswer}
use Rattle.lineage_cli.specs.Ending.{class_of}
use Rattle.lineage_cli.specs.Leaves.{LeavesOutput}
use Rattle.lineage_cli.specs.Run.{is_memory}
use Rattle.lineage_cli.proofs.AnswersLemmas.{keeps_still}

-- what is made of a report
abbrev report_judged : Report → Result (List ℕ) Ending
report_judged report = map_refusal illegal (audited report.start report.entries) >>= λ state. Ok (legal_line (length report.entries) state)

-- ---- what the answer from left to right says

-- an audit finds histories and first faults
abbrev pub Finds : Type 0
Finds = ((start : State) (entries : List Entry) (end : State) → audited start entries ≡ Ok end → IsHistory start entries end)
    × ((start : State) (entries : List Entry) (fault : Fault) → audited start entries ≡ Err fault → IsFirstFault start entries fault)

-- the line of a history that was audited
line_is : (finds : Finds) (bytes line : List ℕ) (report : Report) (verdict : Result State Fault) → report_of bytes ≡ Ok report → audited report.start report.entries ≡ verdict
    → (map_refusal illegal verdict >>= λ state. Ok (legal_line (length report.entries) state)) ≡ Ok line → IsLegal bytes line
line_is finds bytes line report (Ok state) read audit is = record {
  report = report;
  read = read;
  end = state;
  history = finds.0 report.start report.entries state audit;
  is = cc;
}
line_is finds bytes line report (Err fault) read audit is = absurd cc

by_line : (finds : Finds) (bytes line : List ℕ) (read : Result Report ReportRefusal) → report_of bytes ≡ read → (map_refusal of_report read >>= report_judged) ≡ Ok line → IsLegal bytes line
by_line finds bytes line (Ok report) read is = line_is finds bytes line report (audited report.start report.entries) read refl is
by_line finds bytes line (Err refusal) read is = absurd cc

-- a line is that of a legal history
pub legal_answer : (finds : Finds) (bytes line : List ℕ) → audit_answer bytes ≡ Ok line → IsLegal bytes line
unfolding audit_answer
legal_answer finds bytes line is = by_line finds bytes line (report_of bytes) refl is

-- an ending that is not memory is the answer
abbrev IsEnding : List ℕ → Ending → Type 0
IsEnding bytes ending = OnFalse (is_memory ending) (AuditAnswer bytes (Err ending))

ending_is : (finds : Finds) (bytes : List ℕ) (ending : Ending) (report : Report) (verdict : Result State Fault) → report_of bytes ≡ Ok report → audited report.start report.entries ≡ verdict
    → (map_refusal illegal verdict >>= λ state. Ok (legal_line (length report.entries) state)) ≡ Err ending → IsEnding bytes ending
ending_is finds bytes ending report (Ok state) read audit is = absurd cc
ending_is finds bytes ending report (Err fault) read audit is =
    let e : Illegal fault.entry fault.rule ≡ ending = cc in
    subst (IsEnding bytes) e (record { report = report; read = read; first = finds.1 report.start report.entries fault audit })

by_ending : (finds : Finds) (bytes : List ℕ) (ending : Ending) (read : Result Report ReportRefusal) → report_of bytes ≡ read → (map_refusal of_report read >>= report_judged) ≡ Err ending → IsEnding bytes ending
by_ending finds bytes ending (Ok report) read is = ending_is finds bytes ending report (audited report.start report.entries) read refl is
by_ending finds bytes ending (Err (reports.Line line)) read is = let e : Input line ≡ ending = cc in subst (IsEnding bytes) e read
by_ending finds bytes ending (Err reports.Memory) read is = let e : Memory ≡ ending = cc in subst (IsEnding bytes) e tt

free_ending : (finds : Finds) (bytes : List ℕ) (ending : Ending) (free : Bool) → is_memory ending ≡ free → OnFalse free (audit_answer bytes ≡ Err ending) → OnFalse free (AuditAnswer bytes (Err ending))
unfolding audit_answer
free_ending finds bytes ending true is refused = tt
free_ending finds bytes ending false is refused = rw is at (by_ending finds bytes ending (report_of bytes) refl refused)

-- an ending is the first wrong line, or the first fault of the history
pub ending_answer : (finds : Finds) (bytes : List ℕ) (ending : Ending) → OnFalse (is_memory ending) (audit_answer bytes ≡ Err ending) → OnFalse (is_memory ending) (AuditAnswer bytes (Err ending))
ending_answer finds bytes ending refused = free_ending finds bytes ending (is_memory ending) refl refused

-- nothing is printed for such an ending
pub ending_prints : (bytes : List ℕ) (ending : Ending) (before : Option (List ℕ)) → OnFalse (is_memory ending) (AuditAnswer bytes (Err ending)) → Prints (AuditAnswer bytes) before before (Err ending)
ending_prints bytes Memory before refused = inl (keeps_still before)
ending_prints bytes (Input line) before refused = refused
ending_prints bytes (Illegal entry rule) before refused = refused
ending_prints bytes Usage before refused = absurd refused
ending_prints bytes InputFault before refused = absurd refused
ending_prints bytes (InputLimit found) before refused = absurd refused
ending_prints bytes (Table refusal) before refused = absurd refused
ending_prints bytes OutFault before refused = absurd refused

-- and the output is left as it is
pub ending_leaves : (bytes : List ℕ) (ending : Ending) (out : Outgoing) → OnFalse (is_memory ending) (AuditAnswer bytes (Err ending)) → LeavesOutput (Some (class_of ending)) out out
ending_leaves bytes Memory out refused = inl refl
ending_leaves bytes (Input line) out refused = refl
ending_leaves bytes (Illegal entry rule) out refused = refl
ending_leaves bytes Usage out refused = absurd refused
ending_leaves bytes InputFault out refused = absurd refused
ending_leaves bytes (InputLimit found) out refused = absurd refused
ending_leaves bytes (Table refusal) out refused = absurd refused
ending_leaves bytes OutFault out refused = absurd refused

-- ---- entry by entry

-- an audit that takes the entries one by one agrees with that of all of them
abbrev pub Agrees : Type 0
Agrees = (start : State) (entries : List Entry) → fold audit_more (audit_begun start) entries ≡ audit_of (length entries) (audited start entries)

-- what is made of what it finds
found_judged : (entries : ℕ) (read : Result State Fault) → judged (audit_of entries read) ≡ (map_refusal illegal read >>= λ state. Ok (legal_line entries state))
found_judged entries (Ok state) = refl
found_judged entries (Err fault) = refl

-- what an audit makes of a report is what is made of it
taken_judged : (agrees : Agrees) (report : Report) → judged (taken_by audit_begun audit_more report).1 ≡ report_judged report
taken_judged agrees report = ap judged (agrees report.start report.entries) ∙ found_judged (length report.entries) (audited report.start report.entries)

-- of any bytes
by_report : (agrees : Agrees) (read : Result Report ReportRefusal) → (map_refusal of_report (map_value (taken_by audit_begun audit_more) read) >>= λ both. judged both.1) ≡ (map_refusal of_report read >>= report_judged)
by_report agrees (Ok report) = taken_judged agrees report
by_report agrees (Err refusal) = refl

pub answer_taken : (agrees : Agrees) (bytes : List ℕ) → audit_answer bytes ≡ (map_refusal of_report (map_value (taken_by audit_begun audit_more) (report_of bytes)) >>= λ both. judged both.1)
unfolding audit_answer
answer_taken agrees bytes = sym (by_report agrees (report_of bytes))
