-- What follows of readers put one after another, for the loops and the exits of the code.
use Rattle.std.specs.Prelude.{◌≡◌, ℕ, suc, ◌+◌, ◌-◌, ◌<◌, ◌≤◌, Bool, true, false, Result, Ok, Err}
use Rattle.std.specs.Bool.{OnFalse}
use Rattle.std.proofs.Common.{sym, ap, ◌∙◌, arith}
use Rattle.words.specs.Reading.{◌>>=◌, Gives, repeated}

-- a refusal of a part is one of the whole, and want of memory says nothing of either
pub refused_so : {P Q : Type 0} (is_memory : Bool) → (P → Q) → OnFalse is_memory P → OnFalse is_memory Q
refused_so true f h = h
refused_so false f h = f h

-- one more step, of those that are left after i
pub repeated_on : {S E : Type 0} (step : S → Result S E) (count i : ℕ) (s t : S) (total : Result S E) → i < count
    → step s ≡ Ok t → repeated step (count - i) s ≡ total → repeated step (count - (i + 1)) t ≡ total
repeated_on step count i s t total lt taken so_far =
    let left : count - i ≡ suc (count - (i + 1)) = omega arith in
    let first = ap (λ (n : ℕ). repeated step n s) left in
    sym (first ∙ ap (λ (r : Result _ _). r >>= repeated step (count - (i + 1))) taken) ∙ so_far

-- a step that is refused
pub repeated_fail : {S E : Type 0} (step : S → Result S E) (count i : ℕ) (s : S) (e : E) (total : Result S E)
    → i < count → step s ≡ Err e → repeated step (count - i) s ≡ total → total ≡ Err e
repeated_fail step count i s e total lt refused so_far =
    let left : count - i ≡ suc (count - (i + 1)) = omega arith in
    let first = ap (λ (n : ℕ). repeated step n s) left in
    sym so_far ∙ (first ∙ ap (λ (r : Result _ _). r >>= repeated step (count - (i + 1))) refused)

-- no step is left
pub repeated_end : {S E : Type 0} (step : S → Result S E) (count i : ℕ) (s : S) (total : Result S E) → count ≤ i
    → repeated step (count - i) s ≡ total → total ≡ Ok s
repeated_end step count i s total le so_far =
    let left : count - i ≡ 0 = omega arith in
    sym so_far ∙ ap (λ (n : ℕ). repeated step n s) left

-- what is refused for certain is refused, whatever is free
pub refused_for_certain : {P : Type 0} (is_memory : Bool) → P → OnFalse is_memory P
refused_for_certain true h = tt
refused_for_certain false h = h

-- before the first step all are left
pub repeated_init : {S E : Type 0} (step : S → Result S E) (count : ℕ) (s : S) (total : Result S E)
    → repeated step count s ≡ total → repeated step (count - 0) s ≡ total
repeated_init step count s total whole =
    let left : count - 0 ≡ count = omega arith in
    ap (λ (n : ℕ). repeated step n s) left ∙ whole

-- what is read is given
pub gives_read : {X E : Type 0} (is_memory : E → Bool) (result read : Result X E) → result ≡ read
    → Gives is_memory (λ x. x) result read
gives_read is_memory (Ok x) read h = sym h
gives_read is_memory (Err e) read h = refused_for_certain (is_memory e) (sym h)
