-- What the steps of a reader returned, of a reader that read or that refused.
use Rattle.std.proofs.Common.{◌≡◌, Bool, true, false, cond, if◌then◌else◌, ◌⊎◌, inl, inr, Result, Ok, Err, refl, ap}
use Rattle.std.proofs.Common.{◌∙◌}
use Rattle.words.specs.Reading.{◌>>=◌, map_refusal, map_value}

-- it is read
abbrev pub read_as : {A E : Type 0} → A → Result A E
read_as x = Ok x

-- the value of what is read
pub ok_is : {A E : Type 0} (x y : A) → read_as {E = E} x ≡ read_as y → x ≡ y
ok_is x y e = cc

-- it is refused
abbrev pub refused_as : {A E : Type 0} → E → Result A E
refused_as e = Err e

-- the refusal of what is refused
pub err_is : {A E : Type 0} (d e : E) → refused_as {A = A} d ≡ refused_as e → d ≡ e
err_is d e is = cc

-- ---- one reader after another

-- what both steps read
pub bind_ok : {A B E : Type 0} (r : Result A E) (f : A → Result B E) (y : B)
    → (r >>= f) ≡ Ok y → (x : A) × (r ≡ Ok x) × (f x ≡ Ok y)
bind_ok (Ok x) f y is = (x, refl, is)
bind_ok (Err e) f y is = absurd cc

-- what follows from both steps follows from the whole
pub bind_then : {A B E P : Type 0} (r : Result A E) (f : A → Result B E) (y : B)
    → (r >>= f) ≡ Ok y → ((x : A) → r ≡ Ok x → f x ≡ Ok y → P) → P
bind_then (Ok x) f y e go = go x refl e
bind_then (Err d) f y e go = absurd cc

-- what follows if either step refused follows if the whole did
pub bind_refused : {A B E P : Type 0} (r : Result A E) (f : A → Result B E) (e : E) → (r >>= f) ≡ Err e
    → (r ≡ Err e → P) → ((x : A) → r ≡ Ok x → f x ≡ Err e → P) → P
bind_refused (Ok x) f e is first next = next x refl is
bind_refused (Err d) f e is first next = first cc

-- a step that read, and what the next one returns
pub bind_only : {A B E : Type 0} (r : Result A E) (f : A → Result B E) (x : A) (y : Result B E)
    → r ≡ Ok x → f x ≡ y → (r >>= f) ≡ y
bind_only r f x y is rest = ap (λ s. s >>= f) is ∙ rest

-- ---- views and names

-- a refusal under another name is a refusal
pub map_ok : {A E F : Type 0} (f : E → F) (r : Result A E) (x : A) → map_refusal f r ≡ Ok x → r ≡ Ok x
map_ok f (Ok y) x e = cc
map_ok f (Err d) x e = absurd cc

-- what a refusal was before it got another name
pub map_refused : {A E F : Type 0} (f : E → F) (r : Result A E) (e : F)
    → map_refusal f r ≡ Err e → (d : E) × (r ≡ Err d) × (f d ≡ e)
map_refused f (Ok y) e is = absurd cc
map_refused f (Err d) e is = (d, refl, cc)

-- what is seen is the view of what is read
pub value_ok : {A B E : Type 0} (view : A → B) (r : Result A E) (y : B)
    → map_value view r ≡ Ok y → (x : A) × (r ≡ Ok x) × (view x ≡ y)
value_ok view (Ok x) y is = (x, refl, ok_is (view x) y is)
value_ok view (Err e) y is = absurd cc

-- what follows from what is read follows from what is seen of it
pub map_then : {A B E P : Type 0} (view : A → B) (r : Result A E) (y : B)
    → map_value view r ≡ Ok y → ((x : A) → r ≡ Ok x → view x ≡ y → P) → P
map_then view (Ok x) y e go = go x refl (ok_is (view x) y e)
map_then view (Err d) y e go = absurd cc

-- ---- tests

-- a test that had to pass, and passed
pub test_passed : {A E : Type 0} (b : Bool) (r : Result A E) (e : E) (y : A)
    → cond b r (Err e) ≡ Ok y → (b ≡ true) × (r ≡ Ok y)
test_passed true r e y h = (refl, h)
test_passed false r e y h = absurd cc

-- a test that had to fail, and failed
pub test_failed : {A E : Type 0} (b : Bool) (r : Result A E) (e : E) (y : A)
    → cond b (Err e) r ≡ Ok y → (b ≡ false) × (r ≡ Ok y)
test_failed true r e y h = absurd cc
test_failed false r e y h = (refl, h)

-- what follows from a test that failed
pub test_then : {A E P : Type 0} (b : Bool) (refusal : E) (r : Result A E) (y : A)
    → (if b then Err refusal else r) ≡ Ok y → (b ≡ false → r ≡ Ok y → P) → P
test_then true refusal r y e go = absurd cc
test_then false refusal r y e go = go refl e

-- a test, and what it chose
pub cond_is : {A : Type 0} (b : Bool) (x y z : A)
    → cond b x y ≡ z → ((b ≡ true) × (x ≡ z)) ⊎ ((b ≡ false) × (y ≡ z))
cond_is true x y z e = inl (refl, e)
cond_is false x y z e = inr (refl, e)

-- what follows from what a test chose
pub either_then : {A P : Type 0} (b : Bool) (x y z : A)
    → (if b then x else y) ≡ z → (b ≡ true → x ≡ z → P) → (y ≡ z → P) → P
either_then true x y z e one other = one refl e
either_then false x y z e one other = other e
