-- How many items are in some values, and with those values themselves.
use Rattle.std.proofs.Common.{◌≡◌, ℕ, ◌+◌, List, [], ◌∷◌, ◌++◌, length, map, refl, arith}
use Rattle.std.specs.List.{sum, sum_by}
use Rattle.std.proofs.lemmas.List.{length-append}
use Rattle.std.proofs.lemmas.List.Sums.{sum_by-cons, sum_by-append, sum-map}

-- the items in each of some values
unfoldable pub each : {A : Type 0} → (A → ℕ) → List A → ℕ
each weigh xs = sum_by weigh xs

pub each_nil : {A : Type 0} (weigh : A → ℕ) → each weigh [] ≡ 0
unfolding each
each_nil weigh = refl

pub each_cons : {A : Type 0} (weigh : A → ℕ) (x : A) (xs : List A) → each weigh (x ∷ xs) ≡ weigh x + each weigh xs
unfolding each
each_cons weigh x xs = sum_by-cons weigh x xs

pub each_append : {A : Type 0} (weigh : A → ℕ) (xs ys : List A) → each weigh (xs ++ ys) ≡ each weigh xs + each weigh ys
unfolding each
each_append weigh xs ys = sum_by-append weigh xs ys

pub each_sum : {A : Type 0} (weigh : A → ℕ) (xs : List A) → sum (map weigh xs) ≡ each weigh xs
unfolding each
each_sum weigh xs = sum-map weigh xs

-- as many as there are, and the items in each
abbrev pub with_each : {A : Type 0} → (A → ℕ) → List A → ℕ
with_each weigh xs = length xs + each weigh xs

pub with_each_append : {A : Type 0} (weigh : A → ℕ) (xs ys : List A)
    → with_each weigh (xs ++ ys) ≡ with_each weigh xs + with_each weigh ys
with_each_append weigh xs ys = omega (arith, length-append xs ys, each_append weigh xs ys)
