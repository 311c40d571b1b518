-- A report, byte by byte, while something takes its entries.
use Rattle.std.proofs.Common.{◌≡◌, ◌≢◌, ℕ, ◌+◌, ◌≤◌, ◌<◌, Bool, cond, eqb, List, [], ◌∷◌, ◌++◌, length, get_or, drop}
use Rattle.std.proofs.Common.{slice_range, Result, Ok, Err, sym, ap, ◌∙◌, arith}
use Rattle.std.proofs.lemmas.Bool.{eq-eqb, ne_eqb}
use Rattle.std.proofs.lemmas.List.{at_drop_more, at_drop_all}
use Rattle.words.specs.Reading.{◌>>=◌, Gives, map_refusal}
use Rattle.words.specs.Laws.{gives_read}
use Rattle.pieces.specs.WordLaws.{range_none, range_more}
use Rattle.row_types.specs.declared.column.Column.{Column}
use Rattle.history_types.specs.declared.entry.Entry.{Entry}
use Rattle.history_types.specs.declared.state.State.{State}
use Rattle.report.specs.declared.stage.Part.{Part}
use Rattle.report.specs.declared.refusal.ReportRefusal.{ReportRefusal}
use Rattle.report.specs.Refusal.{is_memory_of_report}
use Rattle.report.specs.Report.{at_line}
use Rattle.report.specs.Taken.{part_read, ended, part_behind}

-- what a taker is before the first entry, and behind one more
pub record Takes (T : Type 0) : Type 0 where
  pub begun : State → T
  pub more : T → Entry → T

-- what is read of one line more, by its number
abbrev pub numbered_line : {T : Type 0} → Takes T → ℕ → Part T → List ℕ → Result (Part T) ReportRefusal
numbered_line t number part line = map_refusal (at_line number) (part_read t.begun t.more part line)

-- what is read behind the whole lines before start, where the bytes up to at belong to the next one
abbrev pub part_at : {T : Type 0} → Takes T → ℕ → Part T → List ℕ → ℕ → ℕ → Result (List Column × T) ReportRefusal
part_at t number part bytes start at = part_behind t.begun t.more number part (slice_range bytes start at) (drop at bytes)

-- behind one line more
abbrev line_then : {T : Type 0} → Takes T → ℕ → List ℕ → ℕ → Part T → Result (List Column × T) ReportRefusal
line_then t number bytes at next = part_behind t.begun t.more (number + 1) next [] (drop (at + 1) bytes)

-- the next byte
byte_step : {T : Type 0} (t : Takes T) (number : ℕ) (part : Part T) (line bytes : List ℕ) (at : ℕ) → at < length bytes
    → part_behind t.begun t.more number part line (drop at bytes) ≡ cond (eqb (get_or bytes at 0) 10)
    (numbered_line t number part line >>= line_then t number bytes at)
    (part_behind t.begun t.more number part (line ++ get_or bytes at 0 ∷ []) (drop (at + 1) bytes))
unfolding part_behind
byte_step t number part line bytes at inside = at_drop_more (λ (rest : List ℕ). part_behind t.begun t.more number part line rest) bytes at 0 inside

-- a byte that ends no line
pub part_byte : {T : Type 0} (t : Takes T) (number : ℕ) (part : Part T) (bytes : List ℕ) (start at : ℕ) (total : Result (List Column × T) ReportRefusal) → start ≤ at → at < length bytes → get_or bytes at 0 ≢ 10
    → part_at t number part bytes start at ≡ total → part_at t number part bytes start (at + 1) ≡ total
part_byte t number part bytes start at total before inside other so_far =
    let line : List ℕ = slice_range bytes start at in
    let step : part_at t number part bytes start at ≡ part_behind t.begun t.more number part (line ++ get_or bytes at 0 ∷ []) (drop (at + 1) bytes) =
    byte_step t number part line bytes at inside
    ∙ ap (λ (b : Bool). cond b (numbered_line t number part line >>= line_then t number bytes at)
    (part_behind t.begun t.more number part (line ++ get_or bytes at 0 ∷ []) (drop (at + 1) bytes))) (ne_eqb _ _ other) in
    ap (λ (l : List ℕ). part_behind t.begun t.more number part l (drop (at + 1) bytes)) (range_more bytes start at before inside) ∙ (sym step ∙ so_far)

-- the line that ends here
line_step : {T : Type 0} (t : Takes T) (number : ℕ) (part : Part T) (bytes : List ℕ) (start at : ℕ) (total : Result (List Column × T) ReportRefusal)
    → at < length bytes → get_or bytes at 0 ≡ 10 → part_at t number part bytes start at ≡ total
    → total ≡ (numbered_line t number part (slice_range bytes start at) >>= line_then t number bytes at)
line_step t number part bytes start at total inside is so_far =
    let line : List ℕ = slice_range bytes start at in
    sym so_far
    ∙ (byte_step t number part line bytes at inside
    ∙ ap (λ (b : Bool). cond b (numbered_line t number part line >>= line_then t number bytes at)
    (part_behind t.begun t.more number part (line ++ get_or bytes at 0 ∷ []) (drop (at + 1) bytes))) (eq-eqb _ _ is))

-- a line was read
pub part_line : {T : Type 0} (t : Takes T) (number : ℕ) (part next : Part T) (bytes : List ℕ) (start at : ℕ)
    (total : Result (List Column × T) ReportRefusal) → at < length bytes → get_or bytes at 0 ≡ 10
    → numbered_line t number part (slice_range bytes start at) ≡ Ok next → part_at t number part bytes start at ≡ total
    → part_at t (number + 1) next bytes (at + 1) (at + 1) ≡ total
part_line {T} t number part next bytes start at total inside is read so_far =
    ap (λ (l : List ℕ). part_behind t.begun t.more (number + 1) next l (drop (at + 1) bytes)) (range_none bytes (at + 1))
    ∙ (sym (ap (λ (r : Result (Part T) ReportRefusal). r >>= line_then t number bytes at) read) ∙ sym (line_step t number part bytes start at total inside is so_far))

-- a line is wrong
pub part_wrong : {T : Type 0} (t : Takes T) (number : ℕ) (part : Part T) (bytes : List ℕ) (start at : ℕ) (total : Result (List Column × T) ReportRefusal)
    (refusal : ReportRefusal) → at < length bytes → get_or bytes at 0 ≡ 10 → numbered_line t number part (slice_range bytes start at) ≡ Err refusal
    → part_at t number part bytes start at ≡ total → total ≡ Err refusal
part_wrong {T} t number part bytes start at total refusal inside is read so_far =
    line_step t number part bytes start at total inside is so_far ∙ ap (λ (r : Result (Part T) ReportRefusal). r >>= line_then t number bytes at) read

-- no byte is left
part_done : {T : Type 0} (t : Takes T) (number : ℕ) (part : Part T) (bytes : List ℕ) (start at : ℕ) (total : Result (List Column × T) ReportRefusal) → length bytes ≤ at → part_at t number part bytes start at ≡ total
    → total ≡ ended number part (slice_range bytes start at)
unfolding part_behind
part_done t number part bytes start at total past so_far =
    sym so_far ∙ at_drop_all (λ (rest : List ℕ). part_behind t.begun t.more number part (slice_range bytes start at) rest) bytes at past

-- no byte was read
pub part_begun : {T : Type 0} (t : Takes T) (number : ℕ) (part : Part T) (bytes : List ℕ) → part_at t number part bytes 0 0 ≡ part_behind t.begun t.more number part [] bytes
part_begun t number part bytes = ap (λ (l : List ℕ). part_behind t.begun t.more number part l bytes) (range_none bytes 0)

-- what is answered behind the last byte
pub part_ended : {T : Type 0} (t : Takes T) (number : ℕ) (part : Part T) (bytes : List ℕ) (start at : ℕ)
    (total result : Result (List Column × T) ReportRefusal) → length bytes ≤ at → at ≤ length bytes
    → part_at t number part bytes start at ≡ total
    → result ≡ ended number part (slice_range bytes start (length bytes))
    → Gives is_memory_of_report (λ x. x) result total
part_ended t number part bytes start at total result past within so_far answered =
    let same : length bytes ≡ at = omega arith in
    gives_read is_memory_of_report result total (answered ∙ (ap (λ (end : ℕ). ended number part (slice_range bytes start end)) same ∙ sym (part_done t number part bytes start at total past so_far)))
