-- The pairs of a header: the search for a key.
use Rattle.std.proofs.Common.{◌≡◌, ℕ, ◌+◌, ◌<◌, true, false, List, length, get_or, drop, Some, refl, ◌∙◌}
use Rattle.std.specs.Str.{bytes_eq}
use Rattle.std.proofs.lemmas.List.{at_drop_more}
use Rattle.avro_container.specs.Header.{Pair, bound_to}
use Rattle.avro_container.specs.Pairs.{pair_there, pairs_there}

-- the pair at the place has the key
pub bound_to-found : (pairs : List Pair) (at : ℕ) (p : Pair) (key : List ℕ) → at < length pairs
    → p ≡ get_or pairs at p → bytes_eq p.0 key ≡ true → bound_to (drop at pairs) key ≡ Some p.1
bound_to-found pairs at p key inside here same =
    at_drop_more (λ (ps : List Pair). bound_to ps key) pairs at p inside ∙ rw (← here) (rw same refl)

-- the pair at the place has another key
pub bound_to-next : (pairs : List Pair) (at : ℕ) (p : Pair) (key : List ℕ) → at < length pairs → p ≡ get_or pairs at p
    → bytes_eq p.0 key ≡ false → bound_to (drop at pairs) key ≡ bound_to (drop (at + 1) pairs) key
bound_to-next pairs at p key inside here other =
    at_drop_more (λ (ps : List Pair). bound_to ps key) pairs at p inside ∙ rw (← here) (rw other refl)

-- the pair that begins at the place has the key
pub there_found : (input places : List ℕ) (at : ℕ) (key : List ℕ) (pair : Pair) → at < length places → pair ≡ pair_there input (get_or places at 0)
    → bytes_eq pair.0 key ≡ true → bound_to (pairs_there input (drop at places)) key ≡ Some pair.1
there_found input places at key pair inside is same =
    at_drop_more (λ (ps : List ℕ). bound_to (pairs_there input ps) key) places at 0 inside ∙ rw (← is) (rw same refl)

-- it has another key
pub there_next : (input places : List ℕ) (at : ℕ) (key : List ℕ) (pair : Pair) → at < length places → pair ≡ pair_there input (get_or places at 0)
    → bytes_eq pair.0 key ≡ false → bound_to (pairs_there input (drop at places)) key ≡ bound_to (pairs_there input (drop (at + 1) places)) key
there_next input places at key pair inside is other =
    at_drop_more (λ (ps : List ℕ). bound_to (pairs_there input ps) key) places at 0 inside ∙ rw (← is) (rw other refl)
