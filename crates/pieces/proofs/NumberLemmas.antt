-- How the readers of numbers go on, digit by digit, and that they stay within the text.
use Rattle.std.proofs.Common.{inl, inr, ℤ, pos, subst, ◌≡◌, ℕ, zero, suc, ◌+◌, ◌-◌, ◌*◌, ◌≤◌, ◌<◌, ◌^◌, Bool, true}
use Rattle.std.proofs.Common.{false, cond, List, [], ◌∷◌, length, drop, get_or, Option, Some, None, Result, Ok, Err}
use Rattle.std.proofs.Common.{IfOk, refl, sym, ap, ◌∙◌, arith}
use Rattle.std.specs.Prelude.{slice_get, nat_lt}
use Rattle.std.proofs.lemmas.Bool.{false≢true, cases_Bool, ltb-false}
use Rattle.std.proofs.lemmas.List.{at_drop_more, at_drop_all, length-drop}
use Rattle.words.specs.Reading.{◌>>=◌, map_value}
use Rattle.pieces.specs.declared.refusal.PieceRefusal.{PieceRefusal}
use Rattle.pieces.specs.declared.number.Digits.{Digits}
use Rattle.pieces.specs.declared.number.Digits.TheVariants.{Within, Over}
use Rattle.pieces.specs.Word.{is_this}
use Rattle.pieces.specs.Number.{is_digit, digits, digits_from, begins, positive_at, natural_at, negative, value_of}
use Rattle.pieces.specs.Number.{Signed, after_of, signed_as, signed_at, no_more, unsigned_at, count_at, of_64_bits}
use Rattle.pieces.specs.Number.{long_at, or_none, any_number_at}
use Rattle.pieces.specs.WordLaws.{is_this_within}

-- ---- how many digits there are

-- one more digit
pub digits_on : (input : List ℕ) (at whole : ℕ) → at < length input → is_digit (get_or input at 0) ≡ true → at + digits (drop at input) ≡ whole → at + 1 + digits (drop (at + 1) input) ≡ whole
unfolding digits
digits_on input at whole inside is so_far =
    let step : digits (drop at input) ≡ cond (is_digit (get_or input at 0)) (suc (digits (drop (at + 1) input))) 0 = at_drop_more digits input at 0 inside in
    let test : digits (drop at input) ≡ suc (digits (drop (at + 1) input)) = step ∙ ap (λ (b : Bool). cond b (suc (digits (drop (at + 1) input))) 0) is in
    omega arith

-- a byte that is no digit
pub digits_stop : (input : List ℕ) (at : ℕ) → at < length input → is_digit (get_or input at 0) ≡ false → digits (drop at input) ≡ 0
unfolding digits
digits_stop input at inside is_not =
    let step : digits (drop at input) ≡ cond (is_digit (get_or input at 0)) (suc (digits (drop (at + 1) input))) 0 = at_drop_more digits input at 0 inside in
    step ∙ ap (λ (b : Bool). cond b (suc (digits (drop (at + 1) input))) 0) is_not

-- the end
pub digits_end : (input : List ℕ) (at : ℕ) → length input ≤ at → digits (drop at input) ≡ 0
unfolding digits
digits_end input at past = at_drop_all digits input at past

-- these steps
pub ruleset digits_steps = (digits_on, digits_stop, digits_end)

-- ---- what they make

-- the value with one more digit, where it is no more than the most
abbrev pub with_digit : ℕ → ℕ → ℕ → Option ℕ
with_digit most value byte = cond (nat_lt most (value * 10 + (byte - 48))) None (Some (value * 10 + (byte - 48)))

-- how a digit goes on behind a value, by the value with it
abbrev goes_on : ℕ → ℕ → Option ℕ → List ℕ → ℕ → Digits
goes_on most value None rest at = Over value at (at + 1 + digits rest)
goes_on most value (Some next) rest at = digits_from most next rest (at + 1)

-- of a digit
step_of : (most value byte : ℕ) (rest : List ℕ) (at : ℕ) → is_digit byte ≡ true → digits_from most value (byte ∷ rest) at ≡ goes_on most value (with_digit most value byte) rest at
unfolding digits_from
step_of most value byte rest at is =
    ap (λ (b : Bool). cond b (cond (nat_lt most (value * 10 + (byte - 48))) (Over value at (at + 1 + digits rest)) (digits_from most (value * 10 + (byte - 48)) rest (at + 1))) (Within value at)) is
    ∙ elim (cases_Bool (nat_lt most (value * 10 + (byte - 48)))) [
      | inl over ↦ rw over refl
      | inr within ↦ rw within refl
    ]

-- a digit that the most leaves room for
pub digits_from_on : (input : List ℕ) (most value next at : ℕ) (total : Digits) → at < length input
    → is_digit (get_or input at 0) ≡ true → with_digit most value (get_or input at 0) ≡ Some next
    → digits_from most value (drop at input) at ≡ total → digits_from most next (drop (at + 1) input) (at + 1) ≡ total
digits_from_on input most value next at total inside is fits so_far =
    sym (at_drop_more (λ (rest : List ℕ). digits_from most value rest at) input at 0 inside
    ∙ step_of most value (get_or input at 0) (drop (at + 1) input) at is
    ∙ ap (λ (o : Option ℕ). goes_on most value o (drop (at + 1) input) at) fits) ∙ so_far

-- the digit that passes the most
pub digits_from_over : (input : List ℕ) (most value at : ℕ) (total : Digits) → at < length input
    → is_digit (get_or input at 0) ≡ true → with_digit most value (get_or input at 0) ≡ None
    → digits_from most value (drop at input) at ≡ total
    → total ≡ Over value at (at + 1 + digits (drop (at + 1) input))
digits_from_over input most value at total inside is over so_far =
    sym so_far ∙ (at_drop_more (λ (rest : List ℕ). digits_from most value rest at) input at 0 inside
    ∙ step_of most value (get_or input at 0) (drop (at + 1) input) at is
    ∙ ap (λ (o : Option ℕ). goes_on most value o (drop (at + 1) input) at) over)

-- a byte that is no digit
pub digits_from_stop : (input : List ℕ) (most value at : ℕ) (total : Digits) → at < length input → is_digit (get_or input at 0) ≡ false → digits_from most value (drop at input) at ≡ total → total ≡ Within value at
unfolding digits_from
digits_from_stop input most value at total inside is_not so_far =
    let step : digits_from most value (drop at input) at ≡ digits_from most value (get_or input at 0 ∷ drop (at + 1) input) at = at_drop_more (λ (rest : List ℕ). digits_from most value rest at) input at 0 inside in
    sym so_far ∙ (step ∙ ap (λ (b : Bool). cond b (cond (nat_lt most (value * 10 + (get_or input at 0 - 48))) (Over value at (at + 1 + digits (drop (at + 1) input))) (digits_from most (value * 10 + (get_or input at 0 - 48)) (drop (at + 1) input) (at + 1))) (Within value at)) is_not)

-- the end
pub digits_from_end : (input : List ℕ) (most value at : ℕ) (total : Digits) → length input ≤ at → digits_from most value (drop at input) at ≡ total → total ≡ Within value at
unfolding digits_from
digits_from_end input most value at total past so_far =
    let end : digits_from most value (drop at input) at ≡ Within value at = at_drop_all (λ (rest : List ℕ). digits_from most value rest at) input at past in
    sym so_far ∙ end

-- these steps
pub ruleset digits_from_steps = (digits_from_on, digits_from_over, digits_from_stop, digits_from_end)

-- ---- where they end

-- digits that are read stay below the most and between two places
abbrev pub Ends : ℕ → ℕ → ℕ → Digits → Type 0
Ends most from to (Within value after) = (value ≤ most) × (from ≤ after) × (after ≤ to)
Ends most from to (Over value place after) = (value ≤ most) × (from ≤ after) × (after ≤ to)

-- wider places hold, too
ends_wider : (most from to low high : ℕ) (read : Digits) → low ≤ from → to ≤ high → Ends most from to read → Ends most low high read
ends_wider most from to low high (Within value after) lower higher ends = (ends.0, omega arith, omega arith)
ends_wider most from to low high (Over value place after) lower higher ends = (ends.0, omega arith, omega arith)

-- no more digits than bytes
pub digits_le : (bytes : List ℕ) → digits bytes ≤ length bytes
unfolding digits
digits_le [] = omega arith
digits_le (byte ∷ rest) =
    let others = digits_le rest in
    elim (cases_Bool (is_digit byte)) [
      | inl is ↦ rw is (omega arith)
      | inr is_not ↦ rw is_not (omega arith)
    ]

-- what is read ends inside the bytes
pub digits_end_inside : (most value : ℕ) (bytes : List ℕ) (at : ℕ) → value ≤ most → Ends most at (at + length bytes) (digits_from most value bytes at)
unfolding digits_from
digits_end_inside most value [] at low = (low, omega arith, omega arith)
digits_end_inside most value (byte ∷ rest) at low =
    elim (cases_Bool (is_digit byte)) [
      | inl is ↦ elim (cases_Bool (nat_lt most (value * 10 + (byte - 48)))) [
        | inl over ↦ let few = digits_le rest in rw (is, over) (low, omega arith, omega arith)
        | inr within ↦
            let more = digits_end_inside most (value * 10 + (byte - 48)) rest (at + 1) (ltb-false _ _ within) in
            rw (is, within) (ends_wider most (at + 1) (at + 1 + length rest) at (at + suc (length rest)) _ (omega arith) (omega arith) more)
      ]
      | inr is_not ↦ rw is_not (low, omega arith, omega arith)
    ]

-- where a digit begins there is a byte
begins_within : (input : List ℕ) (place : ℕ) → begins (slice_get input place) ≡ true → place < length input
begins_within [] place is = absurd (false≢true is)
begins_within (x ∷ xs) zero is = omega arith
begins_within (x ∷ xs) (suc place) is = let h : place < length xs = begins_within xs place is in omega arith

-- so a number from 1 does
pub positive_ends : (most : ℕ) (input : List ℕ) (place : ℕ) (read : Digits) → positive_at most input place ≡ Ok read → Ends most place (length input) read
positive_ends most input place read e =
    elim (cases_Bool (begins (slice_get input place))) [
      | inl is ↦
          let inside = begins_within input place is in
          let answer : digits_from most 0 (drop place input) place ≡ read = let h = rw is at e in cc in
          let ends = digits_end_inside most 0 (drop place input) place (omega arith) in
          subst (Ends most place (length input)) answer (ends_wider most place (place + length (drop place input)) place (length input) _ (omega arith) (omega (arith, length-drop place input)) ends)
      | inr is_not ↦ let h = rw is_not at e in absurd cc
    ]

-- so a number from 0 does
pub natural_ends : (most : ℕ) (input : List ℕ) (place : ℕ) (read : Digits) → natural_at most input place ≡ Ok read → Ends most place (length input) read
natural_ends most input place read e =
    elim (cases_Bool (is_this 48 (slice_get input place))) [
      | inl is ↦
          let inside = is_this_within 48 input place is in
          let answer : Within 0 (place + 1) ≡ read = let h = rw is at e in cc in
          subst (Ends most place (length input)) answer (omega arith, omega arith, omega arith)
      | inr is_not ↦ positive_ends most input place read (rw is_not at e)
    ]

-- ---- so every reader stays within the text

-- what follows of a reader and the next one
bind_within : {A B E : Type 0} (r : Result A E) (f : A → Result B E) (P : B → Type 0) → ((x : A) → r ≡ Ok x → IfOk (f x) P) → IfOk (r >>= f) P
bind_within (Ok x) f P h = h x refl
bind_within (Err e) f P h = tt

-- what follows of what is read, seen by view
map_within : {A B E : Type 0} (r : Result A E) (view : A → B) (P : B → Type 0) → ((x : A) → r ≡ Ok x → P (view x)) → IfOk (map_value view r) P
map_within (Ok x) view P h = h x refl
map_within (Err e) view P h = tt

-- so does a number that is no more than the most
at_no_more : (most from to : ℕ) (read : Digits) → Ends most from to read → IfOk (no_more read) (λ read. (from ≤ read.1) × (read.1 ≤ to))
at_no_more most from to (Within value after) ends = (ends.1, ends.2)
at_no_more most from to (Over value place after) ends = tt

-- which is no more than it
at_most : (most from to : ℕ) (read : Digits) → Ends most from to read → IfOk (no_more read) (λ read. read.0 ≤ most)
at_most most from to (Within value after) ends = ends.0
at_most most from to (Over value place after) ends = tt

-- and so is what stands before the digit that passes it
pub value_within : (most from to : ℕ) (read : Digits) → Ends most from to read → value_of read ≤ most
value_within most from to (Within value after) ends = ends.0
value_within most from to (Over value place after) ends = ends.0

-- the same of a number with its sign
abbrev SignedEnds : ℕ → ℕ → Signed → Type 0
SignedEnds from to read = (from ≤ after_of read) × (after_of read ≤ to)

-- with a sign they end there, too
at_sign : (most from to low : ℕ) (sign : ℕ → ℤ) (read : Digits) → low ≤ from → Ends most from to read → SignedEnds low to (signed_as sign read)
at_sign most from to low sign (Within value after) le ends = (omega arith, ends.2)
at_sign most from to low sign (Over value place after) le ends = (omega arith, ends.2)

-- a number with its sign ends inside the text
signed_ends : (input : List ℕ) (place : ℕ) → IfOk (signed_at input place) (SignedEnds place (length input))
signed_ends input place =
    elim (cases_Bool (is_this 45 (slice_get input place))) [
      | inl is ↦ rw is (map_within (positive_at (2 ^ 63) input (place + 1)) (signed_as negative) (SignedEnds place (length input)) (λ read e. at_sign (2 ^ 63) (place + 1) (length input) place negative read (omega arith) (positive_ends (2 ^ 63) input (place + 1) read e)))
      | inr is_not ↦ rw is_not (map_within (natural_at (2 ^ 63 - 1) input place) (signed_as pos) (SignedEnds place (length input)) (λ read e. at_sign (2 ^ 63 - 1) place (length input) place pos read (omega arith) (natural_ends (2 ^ 63 - 1) input place read e)))
    ]

-- the same of whatever is answered
at_answer : {X E : Type 0} (P : X → Type 0) (r total : Result X E) → r ≡ total → IfOk total P → IfOk r P
at_answer P r total e h = subst (λ (r : Result _ _). IfOk r P) (sym e) h

-- a number without sign ends inside the text
pub unsigned_within : (input : List ℕ) (place : ℕ) (r : Result (ℕ × ℕ) PieceRefusal) → r ≡ unsigned_at input place → IfOk r (λ read. (place ≤ read.1) × (read.1 ≤ length input))
unsigned_within input place r e =
    at_answer (λ read. (place ≤ read.1) × (read.1 ≤ length input)) r (unsigned_at input place) e
    (bind_within (natural_at (2 ^ 64 - 1) input place) no_more _ (λ read e. at_no_more (2 ^ 64 - 1) place (length input) read (natural_ends (2 ^ 64 - 1) input place read e)))

-- a number from 1 ends inside the text
pub count_within : (input : List ℕ) (place : ℕ) (r : Result (ℤ × ℕ) PieceRefusal) → r ≡ count_at input place → IfOk r (λ read. (place ≤ read.1) × (read.1 ≤ length input))
count_within input place r e =
    at_answer (λ read. (place ≤ read.1) × (read.1 ≤ length input)) r (count_at input place) e
    (map_within (positive_at (2 ^ 63 - 1) input place >>= no_more) _ _ (λ read is.
    let h = bind_within (positive_at (2 ^ 63 - 1) input place) no_more (λ read. (place ≤ read.1) × (read.1 ≤ length input)) (λ read e. at_no_more (2 ^ 63 - 1) place (length input) read (positive_ends (2 ^ 63 - 1) input place read e)) in
    rw is at h))

-- a number of any size ends inside the text, with its sign
pub signed_within : (input : List ℕ) (place : ℕ) (r : Result Signed PieceRefusal) → r ≡ signed_at input place → IfOk r (λ read. (place ≤ after_of read) × (after_of read ≤ length input))
signed_within input place r e = at_answer (SignedEnds place (length input)) r (signed_at input place) e (signed_ends input place)

-- a number of 64 bits ends inside the text
pub long_within : (input : List ℕ) (place : ℕ) (r : Result (ℤ × ℕ) PieceRefusal) → r ≡ long_at input place → IfOk r (λ read. (place ≤ read.1) × (read.1 ≤ length input))
long_within input place r e = at_answer (λ read. (place ≤ read.1) × (read.1 ≤ length input)) r (long_at input place) e (go (signed_at input place) (signed_ends input place)) where
  go : (r : Result Signed PieceRefusal) → IfOk r (SignedEnds place (length input)) → IfOk (r >>= of_64_bits) (λ read. (place ≤ read.1) × (read.1 ≤ length input))
  go (Ok (Ok read)) ends = ends
  go (Ok (Err passed)) ends = tt
  go (Err refusal) ends = tt

-- a number of any size ends inside the text
pub any_number_within : (input : List ℕ) (place : ℕ) (r : Result (Option ℤ × ℕ) PieceRefusal) → r ≡ any_number_at input place → IfOk r (λ read. (place ≤ read.1) × (read.1 ≤ length input))
any_number_within input place r e = at_answer (λ read. (place ≤ read.1) × (read.1 ≤ length input)) r (any_number_at input place) e (go (signed_at input place) (signed_ends input place)) where
  go : (r : Result Signed PieceRefusal) → IfOk r (SignedEnds place (length input)) → IfOk (map_value or_none r) (λ read. (place ≤ read.1) × (read.1 ≤ length input))
  go (Ok (Ok read)) ends = ends
  go (Ok (Err passed)) ends = ends
  go (Err refusal) ends = tt

-- the number that is read is no more than the most
pub value_fits : (most : ℕ) (input : List ℕ) (place value after : ℕ) → Ok (value, after) ≡ (positive_at most input place >>= no_more) → value ≤ most
value_fits most input place value after e =
    at_answer (λ read. read.0 ≤ most) (Ok (value, after)) (positive_at most input place >>= no_more) e
    (bind_within (positive_at most input place) no_more _ (λ read e. at_most most place (length input) read (positive_ends most input place read e)))
