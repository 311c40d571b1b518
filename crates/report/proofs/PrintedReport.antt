-- A report that is printed is read as what was told.
use Rattle.std.proofs.Common.{◌≡◌, ℕ, ◌+◌, ◌==◌, Bool, true, false, cond, codes, List, [], ◌∷◌, ◌++◌, All, Result, Ok}
use Rattle.std.proofs.Common.{Err, refl, sym, ap, ◌∙◌, append_assoc, append-nil}
use Rattle.std.specs.List.{flat_map, list_all}
use Rattle.std.specs.Str.{is_utf8}
use Rattle.std.proofs.lemmas.Bool.{and_parts, not-true}
use Rattle.std.proofs.lemmas.List.Elements.{All-head, All-tail}
use Rattle.std.proofs.lemmas.Str.{is_utf8-from_IsUtf8}
use Rattle.words.specs.Reading.{◌>>=◌, map_refusal}
use Rattle.row_types.specs.declared.column.Column.{Column}
use Rattle.history_types.specs.declared.entry.Entry.{Entry}
use Rattle.row_types.specs.declared.row.Row.{Row}
use Rattle.history_types.specs.declared.state.State.{State}
use Rattle.row_types.specs.Columns.{IsColumns}
use Rattle.history_types.specs.Fits.{FitsEntry}
use Rattle.history_log.specs.Entry.{entry_text}
use Rattle.report.specs.declared.whole.Report.{Report}
use Rattle.report.specs.Stage.{Stage}
use Rattle.report.specs.Stage.{Nothing, Schema, Body, Ended}
use Rattle.report.specs.declared.refusal.LineRefusal.{LineRefusal}
use Rattle.report.specs.declared.refusal.ReportRefusal.{ReportRefusal}
use Rattle.report.specs.Start.{without_rows, start_of}
use Rattle.report.specs.Rows.{joined}
use Rattle.report.specs.Lines.{begun, line_read}
use Rattle.report.specs.Report.{at_line, report_behind, report_of}
use Rattle.report.specs.Printed.{schema_text, start_text, row_text, Told, lined, report_text, HasTexts, FitsRow}
use Rattle.report.specs.Printed.{IsTold, IsReadBack, all_joined, start_told}
use Rattle.report.proofs.PrintedBytes.{is_inner, IsLine, plain_line}
use Rattle.report.proofs.PrintedInner.{schema_is_line, start_is_line, row_is_line, entry_is_line}
use Rattle.report.proofs.PrintedColumns.{schema_again}
use Rattle.report.proofs.PrintedLines.{long_or_none, start_again, row_again, entry_again}

-- ---- one line

-- the bytes of a line are taken up to LF
line_taken : (line : List ℕ) (number : ℕ) (stage : Stage) (before rest : List ℕ) → list_all is_inner line ≡ true → report_behind number stage before (line ++ 10 ∷ rest) ≡ (map_refusal (at_line number) (line_read stage (before ++ line)) >>= λ next. report_behind (number + 1) next [] rest)
unfolding report_behind
line_taken [] number stage before rest inner =
    ap (λ (l : List ℕ). map_refusal (at_line number) (line_read stage l) >>= λ next. report_behind (number + 1) next [] rest) (sym (append-nil before))
line_taken (byte ∷ line) number stage before rest inner =
    let parts = and_parts (is_inner byte) (list_all is_inner line) inner in
    let other : byte == 10 ≡ false = not-true _ parts.0 in
    ap (λ (b : Bool). cond b (map_refusal (at_line number) (line_read stage before) >>= λ next. report_behind (number + 1) next [] (line ++ 10 ∷ rest)) (report_behind number stage (before ++ byte ∷ []) (line ++ 10 ∷ rest))) other
    ∙ (line_taken line number stage (before ++ byte ∷ []) rest parts.1
    ∙ ap (λ (l : List ℕ). map_refusal (at_line number) (line_read stage l) >>= λ next. report_behind (number + 1) next [] rest) (append_assoc before (byte ∷ []) line))

-- a line is read, and the others behind it
line_again : (number : ℕ) (stage next : Stage) (line rest : List ℕ) → IsLine line → line_read stage line ≡ Ok next → report_behind number stage [] (lined line ++ rest) ≡ report_behind (number + 1) next [] rest
line_again number stage next line rest is read =
    ap (report_behind number stage []) (append_assoc line (codes "\n") rest)
    ∙ (line_taken line number stage [] rest is.inner
    ∙ ap (λ (r : Result Stage LineRefusal). map_refusal (at_line number) r >>= λ after. report_behind (number + 1) after [] rest) read)

-- ---- what each line is read as

-- a line is text
text_of : (line : List ℕ) → IsLine line → is_utf8 line ≡ true
text_of line is = is_utf8-from_IsUtf8 line is.utf8

-- the line of the columns
schema_read : (columns : List Column) → IsColumns columns → IsLine (schema_text columns) → line_read Nothing (schema_text columns) ≡ Ok (Schema columns)
unfolding line_read
schema_read columns right is = rw (text_of (schema_text columns) is, schema_again columns right) refl

-- the line of the state at the start
start_read : (columns : List Column) (line : List ℕ) (start : State) → IsLine line → start_of line ≡ Ok start → line_read (Schema columns) line ≡ Ok (Body (begun columns start))
unfolding line_read
start_read columns line start is read = rw (text_of line is, read) refl

-- the line of a row, before any entry
row_read : (columns : List Column) (start after : State) (row : Row) → FitsRow columns row → joined start row row.id ≡ Ok after → line_read (Body (begun columns start)) (row_text row) ≡ Ok (Body (begun columns after))
unfolding line_read
row_read columns start after row fit put = rw (text_of (row_text row) (row_is_line columns row fit), row_again columns row fit, put) refl

-- the line of an entry
entry_read : (columns : List Column) (start : State) (before : List Entry) (entry : Entry) → FitsEntry columns entry → HasTexts entry.request → IsReadBack entry
    → line_read (Body (record { columns = columns; start = start; entries = before })) (entry_text entry) ≡ Ok (Body (record { columns = columns; start = start; entries = before ++ entry ∷ [] }))
unfolding line_read
entry_read columns start before entry fit texts back =
    rw (text_of (entry_text entry) (entry_is_line columns entry fit texts), entry_again columns entry (back columns fit)) refl

-- the last line
end_read : (report : Report) → line_read (Body report) (codes "end") ≡ Ok (Ended report)
unfolding line_read
end_read report = rw (text_of (codes "end") (plain_line (codes "end") refl)) refl

-- ---- the lines one behind the other

-- rows, where what follows them is known from any number on
rows_again : (rows : List Row) (number : ℕ) (columns : List Column) (start final : State) (rest : List ℕ) (total : Result Report ReportRefusal) → All (FitsRow columns) rows → all_joined start rows ≡ Ok final
    → ((n : ℕ) → report_behind n (Body (begun columns final)) [] rest ≡ total) → report_behind number (Body (begun columns start)) [] (flat_map (λ (row : Row). lined (row_text row)) rows ++ rest) ≡ total
unfolding all_joined
rows_again [] number columns start final rest total fit put follow =
    let same : start ≡ final = cc in
    ap (λ (state : State). report_behind number (Body (begun columns state)) [] rest) same ∙ follow number
rows_again (row ∷ rows) number columns start final rest total fit put follow = go (joined start row row.id) refl put (λ after more. rows_again rows (number + 1) columns after final rest total (All-tail (FitsRow columns) row rows fit) more follow) where
  go : (r : Result State LineRefusal) → joined start row row.id ≡ r → (r >>= λ after. all_joined after rows) ≡ Ok final
      → ((after : State) → all_joined after rows ≡ Ok final → report_behind (number + 1) (Body (begun columns after)) [] (flat_map (λ (row : Row). lined (row_text row)) rows ++ rest) ≡ total)
      → report_behind number (Body (begun columns start)) [] (flat_map (λ (row : Row). lined (row_text row)) (row ∷ rows) ++ rest) ≡ total
  go (Ok after) is more others_again =
      let fits = All-head (FitsRow columns) row rows fit in
      let others = flat_map (λ (row : Row). lined (row_text row)) rows in
      ap (report_behind number (Body (begun columns start)) []) (append_assoc (lined (row_text row)) others rest)
      ∙ (line_again number (Body (begun columns start)) (Body (begun columns after)) (row_text row) (others ++ rest) (row_is_line columns row fits) (row_read columns start after row fits is)
      ∙ others_again after more)
  go (Err refusal) is more others_again = absurd cc

-- an entry that may be told
abbrev MayTell : List Column → Entry → Type 0
MayTell columns entry = FitsEntry columns entry × HasTexts entry.request

-- entries, where what follows them is known from any number on
entries_again : (entries : List Entry) (number : ℕ) (columns : List Column) (start : State) (before : List Entry) (rest : List ℕ) (total : Result Report ReportRefusal) → All (MayTell columns) entries → All IsReadBack entries
    → ((n : ℕ) → report_behind n (Body (record { columns = columns; start = start; entries = before ++ entries })) [] rest ≡ total)
    → report_behind number (Body (record { columns = columns; start = start; entries = before })) [] (flat_map (λ (entry : Entry). lined (entry_text entry)) entries ++ rest) ≡ total
entries_again [] number columns start before rest total fit back follow =
    ap (λ (list : List Entry). report_behind number (Body (record { columns = columns; start = start; entries = list })) [] rest) (sym (append-nil before)) ∙ follow number
entries_again (entry ∷ entries) number columns start before rest total fit back follow =
    let one = All-head (MayTell columns) entry entries fit in
    let read = All-head IsReadBack entry entries back in
    let others = flat_map (λ (entry : Entry). lined (entry_text entry)) entries in
    let now : Stage = Body (record { columns = columns; start = start; entries = before }) in
    let then_stage : Stage = Body (record { columns = columns; start = start; entries = before ++ entry ∷ [] }) in
    ap (report_behind number now []) (append_assoc (lined (entry_text entry)) others rest)
    ∙ (line_again number now then_stage (entry_text entry) (others ++ rest) (entry_is_line columns entry one.0 one.1) (entry_read columns start before entry one.0 one.1 read)
    ∙ entries_again entries (number + 1) columns start (before ++ entry ∷ []) rest total (All-tail (MayTell columns) entry entries fit) (All-tail IsReadBack entry entries back) (λ n.
    ap (λ (list : List Entry). report_behind n (Body (record { columns = columns; start = start; entries = list })) [] rest) (append_assoc before (entry ∷ []) entries) ∙ follow n))

-- the end
end_again : (number : ℕ) (report : Report) → report_behind number (Body report) [] (lined (codes "end")) ≡ Ok report
unfolding report_behind
end_again number report = line_again number (Body report) (Ended report) (codes "end") [] (plain_line (codes "end") refl) (end_read report)

-- ---- the whole

-- what is told is printed and read again
pub report_again : (told : Told) (start : State) → IsTold told → All IsReadBack told.entries → start_told told ≡ Ok start → report_of (report_text told) ≡ Ok (record { columns = told.columns; start = start; entries = told.entries })
unfolding report_of
report_again told start is back put =
    let columns = told.columns in
    let begin = without_rows (told.version, told.seq, told.next) in
    let rows = flat_map (λ (row : Row). lined (row_text row)) told.rows in
    let entries = flat_map (λ (entry : Entry). lined (entry_text entry)) told.entries in
    let end = lined (codes "end") in
    let first = start_text told.version told.seq told.next in
    let next_fits = long_or_none told.next is.next in
    let schema_line = schema_is_line columns is.columns is.names in
    let start_line = start_is_line told.version told.seq told.next is.version is.seq next_fits in
    line_again 1 Nothing (Schema columns) (schema_text columns) (lined first ++ (rows ++ (entries ++ end))) schema_line (schema_read columns is.columns schema_line)
    ∙ (line_again 2 (Schema columns) (Body (begun columns begin)) first (rows ++ (entries ++ end)) start_line (start_read columns first begin start_line (start_again told.version told.seq told.next is.version is.seq next_fits))
    ∙ rows_again told.rows 3 columns begin start (entries ++ end) (Ok (record { columns = columns; start = start; entries = told.entries })) is.rows put (λ n.
    entries_again told.entries n columns start [] end (Ok (record { columns = columns; start = start; entries = told.entries })) is.entries back (λ m. end_again m (record { columns = columns; start = start; entries = told.entries }))))

-- five pieces one behind the other
regroup : (a b c d e : List ℕ) → (((a ++ b) ++ c) ++ d) ++ e ≡ a ++ (b ++ (c ++ (d ++ e)))
regroup a b c d e = simp append_assoc

-- what is put part by part is the report's text
pub report_printed : (told : Told) (none front rows entries all : List ℕ) → none ≡ [] → front ≡ none ++ (lined (schema_text told.columns) ++ lined (start_text told.version told.seq told.next))
    → rows ≡ front ++ flat_map (λ (row : Row). lined (row_text row)) told.rows → entries ≡ rows ++ flat_map (λ (entry : Entry). lined (entry_text entry)) told.entries → all ≡ entries ++ codes "end\n" → all ≡ report_text told
report_printed told none front rows entries all none_is front_is rows_are entries_are all_is =
    rw (all_is, entries_are, rows_are, front_is, none_is)
    (regroup (lined (schema_text told.columns)) (lined (start_text told.version told.seq told.next)) (flat_map (λ (row : Row). lined (row_text row)) told.rows) (flat_map (λ (entry : Entry). lined (entry_text entry)) told.entries) (lined (codes "end")))
