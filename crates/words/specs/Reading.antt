-- Readers as functions on lists of bytes: one after the other, and what a call of the code answers of them.
use Rattle.std.specs.Prelude.{◌≡◌, ℕ, zero, suc, Bool, false, Result, Ok, Err}
use Rattle.std.specs.Bool.{OnFalse}

-- a reader, and the next one from what it answered: the first refusal stands
infixl 10 ◌>>=◌
abbrev pub ◌>>=◌ : {A B E : Type 0} → Result A E → (A → Result B E) → Result B E
(Ok x) >>= f = f x
(Err e) >>= f = Err e

-- a refusal as the layer above names it
abbrev pub map_refusal : {A E F : Type 0} → (E → F) → Result A E → Result A F
map_refusal f (Ok x) = Ok x
map_refusal f (Err e) = Err (f e)

-- what is read, seen by view
abbrev pub map_value : {A B E : Type 0} → (A → B) → Result A E → Result B E
map_value view (Ok x) = Ok (view x)
map_value view (Err e) = Err e

-- what a call answered, seen by view, is what is read, unless memory ran out
abbrev pub Gives : {X Y E : Type 0} → (E → Bool) → (X → Y) → Result X E → Result Y E → Type 0
Gives is_memory view (Ok x) read = read ≡ Ok (view x)
Gives is_memory view (Err e) read = OnFalse (is_memory e) (read ≡ Err e)

-- a step taken so many times: the first refusal stands
abbrev pub repeated : {S E : Type 0} → (S → Result S E) → ℕ → S → Result S E
repeated step zero s = Ok s
repeated step (suc n) s = step s >>= repeated step n

-- no refusal is free: for calls that take no memory
abbrev pub never : {E : Type 0} → E → Bool
never _ = false

-- whether it is read, without what is read
abbrev pub outcome : {A E : Type 0} → Result A E → Result (Unit {0}) E
outcome (Ok x) = Ok tt
outcome (Err e) = Err e

-- what is read, or nothing
abbrev pub value_or : {A E : Type 0} → A → Result A E → A
value_or x (Ok y) = y
value_or x (Err e) = x
