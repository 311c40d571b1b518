-- A run whose input is accepted answers.
use Rattle.std.proofs.Common.{◌≡◌, ℕ, ◌-◌, ◌^◌, ◌<◌, ◌≤◌, ◌∷◌, ◌++◌, ◌⊎◌, List, [], length, Option, Some, None, Result, Ok, Err}
use Rattle.std.proofs.Common.{refl, sym, ap, subst, ◌∙◌, arith, inl, inr, length-append}
use Rattle.std.specs.Prelude.{codes, decimal, IfSome}
use Rattle.std.proofs.lemmas.Bool.{false≢true}
use Rattle.std.proofs.lemmas.Fmt.{decimal_injective}
use Rattle.pieces.specs.Decimal.{all_digits}
use Rattle.pieces.specs.NumberLaws.{decimal_digits}
use Rattle.std.proofs.lemmas.List.{append-nil}
use Rattle.std.specs.Io.KnownBytes.{Consumes, IsAtEnd}
use Rattle.lt_port.specs.Streams.{Incoming, Outgoing, one_more}
use Rattle.report.specs.declared.whole.Report.{Report}
use Rattle.report.specs.Report.{report_of}
use Rattle.lineage_cli.specs.declared.command.Command.{Command}
use Rattle.lineage_cli.specs.declared.command.Command.TheVariants.{Rows, Audit}
use Rattle.lineage_cli.specs.declared.ending.Ending.{Ending}
use Rattle.lineage_cli.specs.declared.ending.Ending.TheVariants.{Usage, InputFault, InputLimit, Input, Table, Illegal, OutFault, Memory}
use Rattle.lineage_cli.specs.Answers.{Answer, IsAnswered, IsUnanswered, Answers}
use Rattle.lineage_cli.specs.Command.{Asks, Serves}
use Rattle.lineage_cli.specs.Command.Rows.{first_word, StoresOwnRows, RowsAnswer}
use Rattle.lineage_cli.specs.Command.Audit.{AuditAnswer}
use Rattle.lineage_cli.specs.Complete.{HasInput, NoneFailed}
use Rattle.lineage_cli.specs.Ending.{class_of, status_of}
use Rattle.lineage_cli.specs.Input.{IsUnread}
use Rattle.lineage_cli.specs.Leaves.{Leaves, ended_class}
use Rattle.lineage_cli.specs.Outside.{Outside}
use Rattle.lineage_cli.specs.Run.{IsAsked, IsUnasked, IsServed, IsEnded, IsRun}

-- ---- the bytes that are taken

-- all of them
all_taken : (now : Option (List ℕ)) (bytes taken : List ℕ) → Consumes (Some bytes) now taken → IsAtEnd now → taken ≡ bytes
all_taken None bytes taken took end = absurd took
all_taken (Some rest) bytes taken took end = sym (took ∙ (ap (λ (l : List ℕ). taken ++ l) end ∙ append-nil taken))

-- no more than there are
few_taken : (now : Option (List ℕ)) (bytes taken : List ℕ) → Consumes (Some bytes) now taken → length taken ≤ length bytes
few_taken None bytes taken took = absurd took
few_taken (Some rest) bytes taken took = omega (arith, ap length took, length-append taken rest)

-- ---- the words ask for one command

-- a number has no word that is a minus sign
no_minus : (id : ℕ) → id < 2 ^ 63 → decimal id ≡ codes "-" → ⊥
no_minus id low same = false≢true (sym (ap all_digits same) ∙ decimal_digits id (omega (arith, low)))

-- a first row id is known by its word
first_one : (a b : Option ℕ) → IfSome a (λ id. id < 2 ^ 63) → IfSome b (λ id. id < 2 ^ 63) → first_word a ≡ first_word b → a ≡ b
first_one None None low high same = refl
first_one None (Some id) low high same = absurd (no_minus id high (sym same))
first_one (Some id) None low high same = absurd (no_minus id low same)
first_one (Some a) (Some b) low high same = ap (λ (n : ℕ). Some n) (decimal_injective a b (omega (arith, low)) (omega (arith, high)) same)

-- the words of rows know its numbers
rows_one : (first other : Option ℕ) (sequence another : ℕ) → IfSome first (λ id. id < 2 ^ 63) → IfSome other (λ id. id < 2 ^ 63) → sequence < 2 ^ 63 → another < 2 ^ 63
    → codes "rows" ∷ first_word first ∷ decimal sequence ∷ [] ≡ codes "rows" ∷ first_word other ∷ decimal another ∷ [] → Rows first sequence ≡ Rows other another
rows_one first other sequence another a b c d same =
    let words : first_word first ≡ first_word other = cc in
    let numbers : decimal sequence ≡ decimal another = cc in
    let ids = first_one first other a b words in
    let sequences = decimal_injective sequence another (omega (arith, c)) (omega (arith, d)) numbers in
    ap (λ (f : Option ℕ). Rows f sequence) ids ∙ ap (λ (n : ℕ). Rows other n) sequences

-- so do all words
pub asks_one : (words : List (List ℕ)) (a b : Command) → Asks words a → Asks words b → a ≡ b
asks_one words (Rows first sequence) (Rows other another) p q = rows_one first other sequence another p.0 q.0 p.1 q.1 (sym p.2 ∙ q.2)
asks_one words (Rows first sequence) Audit p q = let e = sym p.2 ∙ q in absurd cc
asks_one words Audit (Rows first sequence) p q = let e = sym p ∙ q.2 in absurd cc
asks_one words Audit Audit p q = refl

-- ---- how a command ended

-- the status, by how it ended
abbrev pub end_status : Result (Unit {0}) Ending → ℕ
end_status (Ok done) = 0
end_status (Err ending) = status_of ending

-- the input was not read whole where the run ended so
unread_so : (most : ℕ) (before after : Outside) (ending : Ending) → IsUnanswered most before after (Err ending) → IsUnread most before.input.left after.input.left ending
unread_so most before after ending un =
    let same : un.ending ≡ ending = cc un.so in subst (λ (e : Ending). IsUnread most before.input.left after.input.left e) same un.unread

-- a count that didn't rise
no_rise : (count : ℕ) → count < 2 ^ 64 - 1 → count ≡ one_more count → ⊥
no_rise count low same = omega (arith, low, same)

-- no more bytes than may be
no_limit : (most : ℕ) (before after : Outside) (bytes : List ℕ) (found : ℕ) → HasInput most before bytes → IsUnread most before.input.left after.input.left (InputLimit found) → ⊥
no_limit most before after bytes found input un =
    let took = subst (λ (l : Option (List ℕ)). Consumes l after.input.left un.bytes) input.left un.taken in
    omega (arith, few_taken after.input.left bytes un.bytes took, input.few, un.stops.0)

-- the bytes of the answer are those of the input
answered_bytes : (most : ℕ) (Has : List ℕ → Answer) (before after : Outside) (ended : Result (Unit {0}) Ending) (bytes : List ℕ) → HasInput most before bytes → (a : IsAnswered most Has before after ended) → a.bytes ≡ bytes
answered_bytes most Has before after ended bytes input a =
    all_taken after.input.left bytes a.bytes (subst (λ (l : Option (List ℕ)). Consumes l after.input.left a.bytes) input.left a.all.taken) a.all.end

-- a command of which each answer that ends the run, other than those named, has another cause
abbrev Excludes : Answer → (Ending → Type 0) → Type 0
Excludes Is Named = (ending : Ending) → Is (Err ending) → Named ending

-- no call failed, and no more bytes came than may be; so the run answered, wanted memory, or ended by an answer of the bytes
ends : (most : ℕ) (Has : List ℕ → Answer) (Named : Ending → Type 0) (before after : Outside) (bytes : List ℕ) (ending : Ending) → HasInput most before bytes → Excludes (Has bytes) Named
    → Answers most Has before after (Err ending) → Leaves (Some (class_of ending)) before after → NoneFailed before after → (ending ≡ Memory) ⊎ Named ending
ends most Has Named before after bytes Memory input only answers leaves none = inl refl
ends most Has Named before after bytes InputFault input only answers leaves none = absurd (no_rise before.input.faults none.input_may_rise (sym none.input ∙ leaves.input))
ends most Has Named before after bytes OutFault input only answers leaves none = absurd (no_rise before.output.counts.faults none.output_may_rise (sym none.output ∙ ap (λ c. c.faults) leaves.output))
ends most Has Named before after bytes Usage input only (inl a) leaves none = absurd a.prints
ends most Has Named before after bytes Usage input only (inr un) leaves none = absurd (unread_so most before after Usage un).stops
ends most Has Named before after bytes (InputLimit found) input only (inl a) leaves none = inr (only (InputLimit found) (subst (λ (l : List ℕ). Has l (Err (InputLimit found))) (answered_bytes most Has before after (Err (InputLimit found)) bytes input a) a.prints))
ends most Has Named before after bytes (InputLimit found) input only (inr un) leaves none = absurd (no_limit most before after bytes found input (unread_so most before after (InputLimit found) un))
ends most Has Named before after bytes (Input line) input only (inl a) leaves none = inr (only (Input line) (subst (λ (l : List ℕ). Has l (Err (Input line))) (answered_bytes most Has before after (Err (Input line)) bytes input a) a.prints))
ends most Has Named before after bytes (Input line) input only (inr un) leaves none = absurd (unread_so most before after (Input line) un).stops
ends most Has Named before after bytes (Table refusal) input only (inl a) leaves none = inr (only (Table refusal) (subst (λ (l : List ℕ). Has l (Err (Table refusal))) (answered_bytes most Has before after (Err (Table refusal)) bytes input a) a.prints))
ends most Has Named before after bytes (Table refusal) input only (inr un) leaves none = absurd (unread_so most before after (Table refusal) un).stops
ends most Has Named before after bytes (Illegal entry rule) input only (inl a) leaves none = inr (only (Illegal entry rule) (subst (λ (l : List ℕ). Has l (Err (Illegal entry rule))) (answered_bytes most Has before after (Err (Illegal entry rule)) bytes input a) a.prints))
ends most Has Named before after bytes (Illegal entry rule) input only (inr un) leaves none = absurd (unread_so most before after (Illegal entry rule) un).stops

-- ---- the run

-- what was served, seen from the end of the run
none_served : (ended : Result (Unit {0}) Ending) (before served after : Outside) (status : ℕ) → IsEnded ended served after status → NoneFailed before after → NoneFailed before served
none_served (Ok done) before served after status told none = subst (NoneFailed before) told.1 none
none_served (Err ending) before served after status told none = record {
  input = ap (λ (i : Incoming). i.faults) (sym told.1) ∙ none.input;
  output = ap (λ (o : Outgoing). o.counts.faults) (sym told.2) ∙ none.output;
  input_may_rise = none.input_may_rise;
  output_may_rise = none.output_may_rise;
}

-- the command that the words ask for was served
served_so : (words : List (List ℕ)) (before served : Outside) (ended : Result (Unit {0}) Ending) (command : Command) → Asks words command → IsServed words before served ended → Serves command before served ended
served_so words before served ended command asks is = by_words is.asked
  where
    by_words : IsAsked words before served ended ⊎ IsUnasked words ended → Serves command before served ended
    by_words (inl asked) = subst (λ (c : Command). Serves c before served ended) (asks_one words asked.command command asked.asks asks) asked.serves
    by_words (inr unasked) = absurd (unasked.none command asks)

-- a file that stores rows is not refused
rows_excluded : (first : Option ℕ) (sequence : ℕ) (bytes : List ℕ) → StoresOwnRows first bytes → Excludes (RowsAnswer first sequence bytes) (λ ending. ⊥)
rows_excluded first sequence bytes stored Usage refused = refused
rows_excluded first sequence bytes stored InputFault refused = refused
rows_excluded first sequence bytes stored (InputLimit found) refused = refused
rows_excluded first sequence bytes stored (Input line) refused = refused
rows_excluded first sequence bytes stored (Table refusal) refused = refused.none stored
rows_excluded first sequence bytes stored (Illegal entry rule) refused = refused
rows_excluded first sequence bytes stored OutFault refused = refused
rows_excluded first sequence bytes stored Memory refused = refused

-- a report is not refused, but its history may be
audit_excluded : (bytes : List ℕ) (report : Report) → report_of bytes ≡ Ok report → Excludes (AuditAnswer bytes) (λ ending. status_of ending ≡ 4)
audit_excluded bytes report read Usage refused = absurd refused
audit_excluded bytes report read InputFault refused = absurd refused
audit_excluded bytes report read (InputLimit found) refused = absurd refused
audit_excluded bytes report read (Input line) refused = absurd (cc (sym read ∙ refused))
audit_excluded bytes report read (Table refusal) refused = absurd refused
audit_excluded bytes report read (Illegal entry rule) refused = refl
audit_excluded bytes report read OutFault refused = absurd refused
audit_excluded bytes report read Memory refused = absurd refused

-- the status of rows
rows_status : (first : Option ℕ) (sequence : ℕ) (before served after : Outside) (bytes : List ℕ) (ended : Result (Unit {0}) Ending) (status : ℕ) → HasInput 67108864 before bytes → StoresOwnRows first bytes
    → Serves (Rows first sequence) before served ended → Leaves (ended_class ended) before served → NoneFailed before served → IsEnded ended served after status → (status ≡ 0) ⊎ (status ≡ 6)
rows_status first sequence before served after bytes (Ok done) status input stored serves leaves none told = inl told.0
rows_status first sequence before served after bytes (Err ending) status input stored serves leaves none told =
    by_ending (ends 67108864 (RowsAnswer first sequence) (λ e. ⊥) before served bytes ending input (rows_excluded first sequence bytes stored) serves leaves none)
  where
    by_ending : (ending ≡ Memory) ⊎ ⊥ → (status ≡ 0) ⊎ (status ≡ 6)
    by_ending (inl is) = inr (told.0 ∙ ap status_of is)
    by_ending (inr no_way) = absurd no_way

-- the status of audit
audit_status : (report : Report) (before served after : Outside) (bytes : List ℕ) (ended : Result (Unit {0}) Ending) (status : ℕ) → HasInput 16777216 before bytes → report_of bytes ≡ Ok report
    → Serves Audit before served ended → Leaves (ended_class ended) before served → NoneFailed before served → IsEnded ended served after status → (status ≡ 0) ⊎ ((status ≡ 4) ⊎ (status ≡ 6))
audit_status report before served after bytes (Ok done) status input read serves leaves none told = inl told.0
audit_status report before served after bytes (Err ending) status input read serves leaves none told =
    by_ending (ends 16777216 AuditAnswer (λ e. status_of e ≡ 4) before served bytes ending input (audit_excluded bytes report read) serves leaves none)
  where
    by_ending : (ending ≡ Memory) ⊎ (status_of ending ≡ 4) → (status ≡ 0) ⊎ ((status ≡ 4) ⊎ (status ≡ 6))
    by_ending (inl is) = inr (inr (told.0 ∙ ap status_of is))
    by_ending (inr four) = inr (inl (told.0 ∙ four))

-- a run of rows whose input is accepted answers, or wants memory
pub rows_answer : (words : List (List ℕ)) (before after : Outside) (status : ℕ) (first : Option ℕ) (sequence : ℕ) (bytes : List ℕ)
    → IsRun words before after status → Asks words (Rows first sequence) → HasInput 67108864 before bytes → StoresOwnRows first bytes → NoneFailed before after → (status ≡ 0) ⊎ (status ≡ 6)
rows_answer words before after status first sequence bytes run asks input stored none =
    rows_status first sequence before run.served after bytes run.ended status input stored (served_so words before run.served run.ended (Rows first sequence) asks run.serves) run.serves.leaves
    (none_served run.ended before run.served after status run.tells none) run.tells

-- one of audit answers, finds the first fault, or wants memory
pub audit_ends : (words : List (List ℕ)) (before after : Outside) (status : ℕ) (bytes : List ℕ) (report : Report)
    → IsRun words before after status → Asks words Audit → HasInput 16777216 before bytes → report_of bytes ≡ Ok report → NoneFailed before after → (status ≡ 0) ⊎ ((status ≡ 4) ⊎ (status ≡ 6))
audit_ends words before after status bytes report run asks input read none =
    audit_status report before run.served after bytes run.ended status input read (served_so words before run.served run.ended Audit asks run.serves) run.serves.leaves
    (none_served run.ended before run.served after status run.tells none) run.tells
