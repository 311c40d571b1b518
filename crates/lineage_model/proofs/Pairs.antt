-- Parts of ids that differ, each from each later one.
use Rattle.std.proofs.Common.{◌≡◌, ◌≢◌, ℕ, suc, ◌+◌, ◌<◌, ℤ, List, ◌∷◌, ◌++◌, length, All, AllPairs, Some, arith}
use Rattle.std.proofs.Common.{length-append}
use Rattle.std.specs.List.{slice_get}
use Rattle.std.proofs.lemmas.List.{get_or_append_left, get_or-append-add}
use Rattle.std.proofs.lemmas.Option.{slice_get_within, get_or_from_slice_get}

-- of ids that differ, the first differs from each other one
pub first_differs : (id : ℤ) (ids : List ℤ) → AllPairs (λ a b. a ≢ b) (id ∷ ids) → All (λ other. id ≢ other) ids
first_differs id ids differ k d within = differ 0 (suc k) d (omega arith) (omega arith)

-- the others differ too
pub rest_differ : (id : ℤ) (ids : List ℤ) → AllPairs (λ a b. a ≢ b) (id ∷ ids) → AllPairs (λ a b. a ≢ b) ids
rest_differ id ids differ i j d before within = differ (suc i) (suc j) d (omega arith) (omega arith)

-- of two lists of ids that differ, the first is such a list
pub first_pairs : (xs ys : List ℤ) → AllPairs (λ a b. a ≢ b) (xs ++ ys) → AllPairs (λ a b. a ≢ b) xs
first_pairs xs ys differ i j d before within =
    let there : j < length (xs ++ ys) = omega (arith, length-append xs ys) in
    rw (get_or_append_left xs ys d i (omega arith), get_or_append_left xs ys d j within) at (differ i j d before there)

-- so is the second
pub second_pairs : (xs ys : List ℤ) → AllPairs (λ a b. a ≢ b) (xs ++ ys) → AllPairs (λ a b. a ≢ b) ys
second_pairs xs ys differ i j d before within =
    let there : length xs + j < length (xs ++ ys) = omega (arith, length-append xs ys) in
    rw (get_or-append-add xs ys i d, get_or-append-add xs ys j d) at (differ (length xs + i) (length xs + j) d (omega arith) there)

-- and an id of the first differs from each of the second
pub pairs_across : (xs ys : List ℤ) (i : ℕ) (id : ℤ) → AllPairs (λ a b. a ≢ b) (xs ++ ys) → slice_get xs i ≡ Some id → All (λ other. id ≢ other) ys
pairs_across xs ys i id differ has k d within =
    let here : i < length xs = slice_get_within xs i id has in
    let there : length xs + k < length (xs ++ ys) = omega (arith, length-append xs ys) in
    rw (get_or_append_left xs ys d i here, get_or_from_slice_get xs i id d has, get_or-append-add xs ys k d) at (differ i (length xs + k) d (omega arith) there)
