-- What is read while something takes the entries is what is read of the report, as the taker sees it.
use Rattle.std.proofs.Common.{◌≡◌, ℕ, ◌+◌, ◌==◌, Bool, true, false, List, [], ◌∷◌, ◌++◌, Result, Ok, Err, refl, sym, ap}
use Rattle.std.proofs.Common.{◌∙◌, codes}
use Rattle.std.specs.Prelude.{slice_get, nat_eq, if◌then◌else◌}
use Rattle.std.specs.List.{fold, starts_with}
use Rattle.std.specs.Str.{bytes_eq}
use Rattle.std.proofs.lemmas.Grind.{fold-append}
use Rattle.words.specs.Reading.{◌>>=◌, map_refusal, map_value}
use Rattle.row_types.specs.declared.column.Column.{Column}
use Rattle.history_types.specs.declared.entry.Entry.{Entry}
use Rattle.history_types.specs.declared.state.State.{State}
use Rattle.pieces.specs.Word.{is_this}
use Rattle.history_log.specs.Entry.{entry_of}
use Rattle.report.specs.declared.stage.Part.{Part}
use Rattle.report.specs.declared.stage.Part.TheVariants as parts
use Rattle.report.specs.declared.whole.Report.{Report}
use Rattle.report.specs.declared.refusal.LineRefusal.{LineRefusal}
use Rattle.report.specs.declared.refusal.LineRefusal.TheVariants.{Wrong}
use Rattle.report.specs.declared.refusal.ReportRefusal.{ReportRefusal}
use Rattle.report.specs.Refusal.{of_history}
use Rattle.report.specs.Schema.{schema_of}
use Rattle.report.specs.Start.{start_of}
use Rattle.report.specs.Rows.{row_of, joined}
use Rattle.report.specs.Stage.{Stage, Nothing, Schema, Body, Ended}
use Rattle.report.specs.Lines.{text_line, body_line, row_line, entry_line, line_read}
use Rattle.report.specs.Report.{at_line, finished, report_behind, report_of}
use Rattle.report.specs.Taken.{taken_by, part_read, ended, part_behind}
use Rattle.report.proofs.ReportLemmas.{Takes}

-- what a taker makes of the report so far
abbrev body_seen : {T : Type 0} → Takes T → List Column → State → List Entry → Part T
body_seen t columns start [] = parts.Rows columns start
body_seen t columns start (entry ∷ entries) = parts.Entries columns (fold t.more (t.more (t.begun start) entry) entries)

-- what it makes of what was read so far
abbrev pub seen : {T : Type 0} → Takes T → Stage → Part T
seen t Nothing = parts.Nothing
seen t (Schema columns) = parts.Schema columns
seen t (Body report) = body_seen t report.columns report.start report.entries
seen t (Ended report) = parts.Ended report.columns (fold t.more (t.begun report.start) report.entries)

-- ---- readers that go on alike

then_seen : {A B C E : Type 0} (view : B → C) (read : Result A E) (one : A → Result B E) (other : A → Result C E)
    → ((x : A) → other x ≡ map_value view (one x)) → (read >>= other) ≡ map_value view (read >>= one)
then_seen view (Ok x) one other same = same x
then_seen view (Err e) one other same = refl

if_seen : {B C E : Type 0} (view : B → C) (test : Bool) (one two : Result B E) (other another : Result C E)
    → other ≡ map_value view one → another ≡ map_value view two
    → (if test then other else another) ≡ map_value view (if test then one else two)
if_seen view true one two other another first second = first
if_seen view false one two other another first second = second

line_seen : {A B C D E F : Type 0} (name : E → F) (inner : A → B) (view : C → D) (read : Result A E) (one : A → Result C F) (other : B → Result D F)
    → ((x : A) → other (inner x) ≡ map_value view (one x)) → (map_refusal name (map_value inner read) >>= other) ≡ map_value view (map_refusal name read >>= one)
line_seen name inner view (Ok x) one other same = same x
line_seen name inner view (Err e) one other same = refl

-- ---- one line

-- a line of the body
body_read : {T : Type 0} (t : Takes T) (columns : List Column) (start : State) (entries : List Entry) (line : List ℕ)
    → part_read t.begun t.more (body_seen t columns start entries) line ≡ map_value (seen t) (line_read (Body (record { columns = columns; start = start; entries = entries })) line)
unfolding part_read line_read
body_read t columns start [] line =
    let report : Report = record { columns = columns; start = start; entries = [] } in
    then_seen (seen t) (text_line line) _ _ (λ text.
    if_seen (seen t) (bytes_eq text (codes "end")) _ _ _ _ refl
    (if_seen (seen t) (is_this 114 (slice_get text 0)) _ _ _ _
    (then_seen (seen t) (row_of columns text) _ _ (λ row. then_seen (seen t) (joined start row row.id) _ _ (λ after. refl)))
    (then_seen (seen t) (map_refusal of_history (entry_of columns text)) _ _ (λ entry. refl))))
body_read t columns start (first ∷ entries) line =
    then_seen (seen t) (text_line line) _ _ (λ text.
    if_seen (seen t) (bytes_eq text (codes "end")) _ _ _ _ refl
    (if_seen (seen t) (is_this 114 (slice_get text 0)) _ _ _ _ refl
    (then_seen (seen t) (map_refusal of_history (entry_of columns text)) _ _ (λ entry.
    ap (λ taker. Ok (parts.Entries columns taker)) (sym (fold-append t.more (t.more (t.begun start) first) entries (entry ∷ [])))))))

-- any line
part_seen : {T : Type 0} (t : Takes T) (stage : Stage) (line : List ℕ) → part_read t.begun t.more (seen t stage) line ≡ map_value (seen t) (line_read stage line)
unfolding part_read line_read
part_seen t Nothing line = then_seen (seen t) (text_line line) _ _ (λ text. then_seen (seen t) (schema_of text) _ _ (λ columns. refl))
part_seen t (Schema columns) line = then_seen (seen t) (text_line line) _ _ (λ text. then_seen (seen t) (start_of text) _ _ (λ start. refl))
part_seen t (Body report) line = body_read t report.columns report.start report.entries line
part_seen t (Ended report) line = if_seen (seen t) (starts_with nat_eq line (codes "reply ")) _ _ _ _ refl refl

-- ---- all lines

-- where the end stands
body_ended : {T : Type 0} (t : Takes T) (number : ℕ) (columns : List Column) (start : State) (entries : List Entry) (line : List ℕ)
    → ended number (body_seen t columns start entries) line ≡ map_value (taken_by t.begun t.more) (finished number (Body (record { columns = columns; start = start; entries = entries })) line)
body_ended t number columns start [] line = refl
body_ended t number columns start (entry ∷ entries) line = refl

ended_seen : {T : Type 0} (t : Takes T) (number : ℕ) (stage : Stage) (line : List ℕ) → ended number (seen t stage) line ≡ map_value (taken_by t.begun t.more) (finished number stage line)
ended_seen t number Nothing line = refl
ended_seen t number (Schema columns) line = refl
ended_seen t number (Body report) line = body_ended t number report.columns report.start report.entries line
ended_seen t number (Ended report) [] = refl
ended_seen t number (Ended report) (byte ∷ line) = refl

-- behind any line
behind_seen : {T : Type 0} (t : Takes T) (number : ℕ) (stage : Stage) (line bytes : List ℕ) → part_behind t.begun t.more number (seen t stage) line bytes ≡ map_value (taken_by t.begun t.more) (report_behind number stage line bytes)
unfolding part_behind report_behind
behind_seen t number stage line [] = ended_seen t number stage line
behind_seen t number stage line (byte ∷ bytes) =
    if_seen (taken_by t.begun t.more) (byte == 10) _ _ _ _
    (ap (λ read. map_refusal (at_line number) read >>= λ next. part_behind t.begun t.more (number + 1) next [] bytes) (part_seen t stage line)
    ∙ line_seen (at_line number) (seen t) (taken_by t.begun t.more) (line_read stage line) _ _ (λ next. behind_seen t (number + 1) next [] bytes))
    (behind_seen t number stage (line ++ byte ∷ []) bytes)

-- from the first line on
pub report_seen : {T : Type 0} (t : Takes T) (bytes : List ℕ) → part_behind t.begun t.more 1 parts.Nothing [] bytes ≡ map_value (taken_by t.begun t.more) (report_of bytes)
unfolding report_of
report_seen t bytes = behind_seen t 1 Nothing [] bytes
