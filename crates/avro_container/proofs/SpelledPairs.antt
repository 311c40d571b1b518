-- So many pairs of a header by the relation: what is read is spelled so, and what is spelled so is read.
use Rattle.std.proofs.Common.{◌≡◌, ℕ, zero, suc, ◌+◌, List, [], ◌∷◌, ◌++◌, length, drop, Ok, refl, sym, ap, subst}
use Rattle.std.proofs.Common.{◌∙◌, append_assoc, arith}
use Rattle.std.proofs.lemmas.List.{length-append, append-nil}
use Rattle.words.specs.Reading.{◌>>=◌, repeated}
use Rattle.avro_wire.specs.Blocks.{SpellsItems}
use Rattle.avro_container.specs.Header.{Pair, pair_at, next_pair, pairs_at}
use Rattle.avro_container.specs.Format.{SpellsPair}
use Rattle.words.specs.Parts.{Took, behind_is, took_then, took_nothing}
use Rattle.words.specs.Steps.{bind_then, ok_is}
use Rattle.avro_container.proofs.Keys.{IsSoFar, so_far_next}
use Rattle.avro_container.proofs.SpelledPair.{pair_took, pair_again}

-- pairs that are read stand behind those before them
pub record PairsTook (count : ℕ) (pairs : List Pair) (input : List ℕ) (place : ℕ) (taken : List Pair × ℕ) : Type 0 where
  pub more : List Pair
  pub many : length more ≡ count
  pub grown : taken.0 ≡ pairs ++ more
  pub took : Took input place taken.1 (SpellsItems SpellsPair more)
  pub kept : IsSoFar taken.0

-- what is read is spelled so
pub pairs_took : (count : ℕ) (pairs : List Pair) (input : List ℕ) (place : ℕ) (taken : List Pair × ℕ)
    → pairs_at count pairs input place ≡ Ok taken → IsSoFar pairs → PairsTook count pairs input place taken
unfolding pairs_at
pairs_took zero pairs input place taken read kept =
    let none : PairsTook 0 pairs input place (pairs, place) = record { more = []; many = refl; grown = sym (append-nil pairs); took = took_nothing input place; kept = kept } in
    subst (PairsTook 0 pairs input place) (ok_is (pairs, place) taken read) none
pairs_took (suc count) pairs input place taken read kept =
    bind_then (pair_at pairs input place) (repeated (next_pair input) count) taken read (λ step first_read others_read.
    let first = pair_took pairs input place step first_read kept in
    let others = pairs_took count step.0 input step.1 taken others_read first.kept in
    record {
      more = first.pair ∷ others.more;
      many = ap suc others.many;
      grown = others.grown ∙ ap (λ (x : List Pair). x ++ others.more) first.grown ∙ append_assoc pairs (first.pair ∷ []) others.more;
      took = took_then input place step.1 taken.1 first.took others.took;
      kept = others.kept;
    })

-- what is spelled so is read, whatever follows
pub pairs_again : (more pairs : List Pair) (input : List ℕ) (place : ℕ) (bytes rest : List ℕ)
    → drop place input ≡ bytes ++ rest → SpellsItems SpellsPair more bytes → IsSoFar (pairs ++ more)
    → pairs_at (length more) pairs input place ≡ Ok (pairs ++ more, place + length bytes)
unfolding pairs_at
pairs_again [] pairs input place bytes rest parts spelled kept =
    let size : place + length bytes ≡ place = omega (arith, ap length spelled) in
    rw (append-nil pairs, size) refl
pairs_again (p ∷ more) pairs input place bytes rest parts spelled kept =
    let whole : drop place input ≡ spelled.front ++ (spelled.rest ++ rest) = parts ∙ ap (λ (x : List ℕ). x ++ rest) spelled.parts ∙ append_assoc spelled.front spelled.rest rest in
    let next = so_far_next pairs p more kept in
    let first = pair_again pairs input place spelled.front (spelled.rest ++ rest) p whole spelled.first next.0 next.1 in
    let behind = behind_is input place spelled.front (spelled.rest ++ rest) whole in
    let together : (pairs ++ p ∷ []) ++ more ≡ pairs ++ p ∷ more = append_assoc pairs (p ∷ []) more in
    let others = pairs_again more (pairs ++ p ∷ []) input (place + length spelled.front) spelled.rest rest behind spelled.second (rw together kept) in
    let size : place + length bytes ≡ place + length spelled.front + length spelled.rest = omega (arith, ap length spelled.parts, length-append spelled.front spelled.rest) in
    ap (λ r. r >>= repeated (next_pair input) (length more)) first ∙ others ∙ rw (together, size) refl
