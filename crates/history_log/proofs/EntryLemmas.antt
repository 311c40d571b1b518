-- An entry's text by its parts: what is read of each, one behind the other.
use Rattle.std.proofs.Common.{◌≡◌, ℕ, ℤ, List, Option, Result, Ok, Err, refl, sym, ap, ◌∙◌}
use Rattle.std.specs.Bool.{OnFalse}
use Rattle.words.specs.Reading.{◌>>=◌, map_refusal}
use Rattle.words.specs.Laws.{refused_so}
use Rattle.row_types.specs.declared.column.Column.{Column}
use Rattle.history_types.specs.declared.entry.Entry.{Entry}
use Rattle.history_types.specs.declared.entry.Run.{Run}
use Rattle.history_types.specs.declared.request.Request.{Request}
use Rattle.pieces.specs.Number.{unsigned_at, optional_long_at}
use Rattle.history_log.specs.declared.refusal.HistoryRefusal.{HistoryRefusal}
use Rattle.history_log.specs.Refusal.{is_memory, of_piece}
use Rattle.history_log.specs.Runs.{runs_at}
use Rattle.history_log.specs.Request.{request_at}
use Rattle.history_log.specs.Entry.{before_gap, entry_of}
use Rattle.history_log.specs.EntryParts.{start_at, numbers_at, ids_at}

-- readers one behind the other, however they are grouped
grouped : {A B C E : Type 0} (read : Result A E) (next : A → Result B E) (last : B → Result C E) → ((read >>= next) >>= last) ≡ (read >>= λ x. next x >>= last)
grouped (Ok x) next last = refl
grouped (Err e) next last = refl

-- readers that go on alike
alike : {A B E : Type 0} (read : Result A E) (one other : A → Result B E) → ((x : A) → one x ≡ other x) → (read >>= one) ≡ (read >>= other)
alike (Ok x) one other same = same x
alike (Err e) one other same = refl

-- both ways of going on
grouped_alike : {A B C E : Type 0} (read : Result A E) (next : A → Result B E) (last : B → Result C E) (other : A → Result C E) → ((x : A) → (next x >>= last) ≡ other x) → ((read >>= next) >>= last) ≡ (read >>= other)
grouped_alike read next last other same = grouped read next last ∙ alike read (λ x. next x >>= last) other same

-- whose commit it is, its sequence number and the next id, and the place of the runs
abbrev pub Numbers : Type 0
Numbers = ℕ × Option ℤ × Option ℤ × ℕ

-- the named and the given ids, and the place of the request
abbrev pub Ids : Type 0
Ids = List Run × List Run × ℕ

-- the entry of its parts
abbrev pub whole : Numbers → Ids → Request → Entry
whole numbers ids request = record { who = numbers.0; request = request; seq = numbers.1; named = ids.0; given = ids.1; next = numbers.2 }

-- the request behind the runs
abbrev request_behind_ids : List Column → List ℕ → Numbers → Ids → Result Entry HistoryRefusal
request_behind_ids columns text numbers ids = request_at columns text ids.2 >>= λ request. Ok (whole numbers ids request)

-- the runs behind the numbers, and the request
abbrev ids_behind_numbers : List Column → List ℕ → Numbers → Result Entry HistoryRefusal
ids_behind_numbers columns text numbers = ids_at text numbers.3 >>= request_behind_ids columns text numbers

-- an entry is its parts
by_parts : (columns : List Column) (text : List ℕ) → (numbers_at text >>= ids_behind_numbers columns text) ≡ entry_of columns text
unfolding entry_of numbers_at ids_at
by_parts columns text =
    grouped_alike (map_refusal of_piece (start_at text)) _ _ _ (λ start.
    grouped_alike (before_gap text (unsigned_at text start)) _ _ _ (λ who.
    grouped_alike (before_gap text (optional_long_at text who.1)) _ _ _ (λ seq.
    grouped_alike (before_gap text (optional_long_at text seq.1)) _ _ _ (λ next.
    grouped_alike (before_gap text (runs_at text next.1)) _ _ _ (λ named.
    grouped_alike (before_gap text (runs_at text named.1)) _ _ _ (λ given. refl))))))

-- the numbers are refused
pub numbers_refused : (columns : List Column) (text : List ℕ) (refusal : HistoryRefusal) → Err refusal ≡ numbers_at text → entry_of columns text ≡ Err refusal
numbers_refused columns text refusal first =
    sym (by_parts columns text) ∙ ap (λ (r : Result Numbers HistoryRefusal). r >>= ids_behind_numbers columns text) (sym first)

-- behind the numbers
behind_numbers : (columns : List Column) (text : List ℕ) (numbers : Numbers) → Ok numbers ≡ numbers_at text → entry_of columns text ≡ ids_behind_numbers columns text numbers
behind_numbers columns text numbers first =
    sym (by_parts columns text) ∙ ap (λ (r : Result Numbers HistoryRefusal). r >>= ids_behind_numbers columns text) (sym first)

-- the runs are refused
pub ids_refused : (columns : List Column) (text : List ℕ) (numbers : Numbers) (refusal : HistoryRefusal) → Ok numbers ≡ numbers_at text → OnFalse (is_memory refusal) (ids_at text numbers.3 ≡ Err refusal) → OnFalse (is_memory refusal) (entry_of columns text ≡ Err refusal)
ids_refused columns text numbers refusal first second =
    refused_so (is_memory refusal) (λ refused. behind_numbers columns text numbers first ∙ ap (λ (r : Result Ids HistoryRefusal). r >>= request_behind_ids columns text numbers) refused) second

-- behind the runs
behind_ids : (columns : List Column) (text : List ℕ) (numbers : Numbers) (ids : Ids) → Ok numbers ≡ numbers_at text → ids_at text numbers.3 ≡ Ok ids → entry_of columns text ≡ request_behind_ids columns text numbers ids
behind_ids columns text numbers ids first second =
    behind_numbers columns text numbers first ∙ ap (λ (r : Result Ids HistoryRefusal). r >>= request_behind_ids columns text numbers) second

-- the request is refused
pub request_refused : (columns : List Column) (text : List ℕ) (numbers : Numbers) (ids : Ids)
    (refusal : HistoryRefusal) → Ok numbers ≡ numbers_at text → ids_at text numbers.3 ≡ Ok ids
    → OnFalse (is_memory refusal) (request_at columns text ids.2 ≡ Err refusal) → OnFalse (is_memory refusal)
    (entry_of columns text ≡ Err refusal)
request_refused columns text numbers ids refusal first second third =
    refused_so (is_memory refusal) (λ refused. behind_ids columns text numbers ids first second ∙ ap (λ (r : Result Request HistoryRefusal). r >>= λ request. Ok (whole numbers ids request)) refused) third

-- all parts are read
pub entry_read : (columns : List Column) (text : List ℕ) (numbers : Numbers) (ids : Ids) (request : Request) → Ok numbers ≡ numbers_at text → ids_at text numbers.3 ≡ Ok ids → request_at columns text ids.2 ≡ Ok request → entry_of columns text ≡ Ok (whole numbers ids request)
entry_read columns text numbers ids request first second third =
    behind_ids columns text numbers ids first second ∙ ap (λ (r : Result Request HistoryRefusal). r >>= λ request. Ok (whole numbers ids request)) third
