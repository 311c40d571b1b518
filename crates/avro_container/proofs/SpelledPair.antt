-- A pair of a header by the relation: what is read is spelled so, and what is spelled so is read.
use Rattle.std.proofs.Common.{◌≡◌, ℕ, ◌+◌, true, false, not, ◌&&◌, List, [], ◌∷◌, ◌++◌, length, drop, slice_range, Ok}
use Rattle.std.proofs.Common.{refl, ap, subst, ◌∙◌, append_assoc, arith}
use Rattle.std.specs.Str.{is_utf8, IsUtf8}
use Rattle.std.proofs.lemmas.Bool.{and_parts, and_from, not-true}
use Rattle.std.proofs.lemmas.List.{length-append}
use Rattle.std.proofs.lemmas.Str.{IsUtf8-from_is_utf8, is_utf8-from_IsUtf8}
use Rattle.avro_container.specs.declared.refusal.ContainerRefusal.TheVariants.{Header}
use Rattle.avro_container.specs.Header.{Pair, has_key, item_at, key_at, pair_at}
use Rattle.avro_container.specs.Format.{SpellsPair}
use Rattle.words.specs.Parts.{Took, behind_is, took_then}
use Rattle.words.specs.Steps.{bind_then, test_passed, ok_is}
use Rattle.avro_container.proofs.SpelledItem.{item_took, item_again}
use Rattle.avro_container.proofs.Keys.{IsSoFar, so_far_push}

-- ---- a key

-- a key that is read is text, and new
record KeyTook (pairs : List Pair) (input : List ℕ) (place : ℕ) (key : ℕ × ℕ) : Type 0 where
  read : item_at input place ≡ Ok key
  text : IsUtf8 (slice_range input key.0 key.1)
  new : has_key pairs (slice_range input key.0 key.1) ≡ false

-- what is read is one
key_took : (pairs : List Pair) (input : List ℕ) (place : ℕ) (key : ℕ × ℕ) → key_at pairs input place ≡ Ok key → KeyTook pairs input place key
unfolding key_at
key_took pairs input place key read =
    bind_then (item_at input place) _ key read (λ item first second.
    let test = test_passed (is_utf8 (slice_range input item.0 item.1) && not (has_key pairs (slice_range input item.0 item.1))) (Ok item) (Header place) key second in
    let both = and_parts (is_utf8 (slice_range input item.0 item.1)) (not (has_key pairs (slice_range input item.0 item.1))) test.0 in
    let is : KeyTook pairs input place item = record { read = first; text = IsUtf8-from_is_utf8 (slice_range input item.0 item.1) both.0; new = not-true (has_key pairs (slice_range input item.0 item.1)) both.1 } in
    subst (KeyTook pairs input place) (ok_is item key test.1) is)

-- ---- a pair

-- a pair that is read stands behind those before it
pub record PairTook (pairs : List Pair) (input : List ℕ) (place : ℕ) (taken : List Pair × ℕ) : Type 0 where
  pub pair : Pair
  pub grown : taken.0 ≡ pairs ++ pair ∷ []
  pub took : Took input place taken.1 (SpellsPair pair)
  pub kept : IsSoFar taken.0

-- of the ranges of a key and a value
pair_is : (pairs : List Pair) (input : List ℕ) (place : ℕ) (key value : ℕ × ℕ) → IsSoFar pairs → KeyTook pairs input place key → item_at input key.1 ≡ Ok value
    → PairTook pairs input place (pairs ++ (slice_range input key.0 key.1, slice_range input value.0 value.1) ∷ [], value.1)
pair_is pairs input place key value kept is read = record {
  pair = (slice_range input key.0 key.1, slice_range input value.0 value.1);
  grown = refl;
  took = took_then input place key.1 value.1 (item_took input place key is.read) (item_took input key.1 value read);
  kept = so_far_push pairs (slice_range input key.0 key.1, slice_range input value.0 value.1) kept is.text is.new;
}

-- what is read is spelled so
pub pair_took : (pairs : List Pair) (input : List ℕ) (place : ℕ) (taken : List Pair × ℕ)
    → pair_at pairs input place ≡ Ok taken → IsSoFar pairs → PairTook pairs input place taken
unfolding pair_at
pair_took pairs input place taken read kept =
    bind_then (key_at pairs input place) _ taken read (λ key first second.
    bind_then (item_at input key.1) _ taken second (λ value third fourth.
    subst (PairTook pairs input place) (ok_is _ taken fourth) (pair_is pairs input place key value kept (key_took pairs input place key first) third)))

-- what is spelled so is read, whatever follows
pub pair_again : (pairs : List Pair) (input : List ℕ) (place : ℕ) (bytes rest : List ℕ) (p : Pair)
    → drop place input ≡ bytes ++ rest → SpellsPair p bytes → IsUtf8 p.0 → has_key pairs p.0 ≡ false
    → pair_at pairs input place ≡ Ok (pairs ++ p ∷ [], place + length bytes)
unfolding pair_at key_at
pair_again pairs input place bytes rest p parts spelled text new =
    let whole : drop place input ≡ spelled.front ++ (spelled.rest ++ rest) = parts ∙ ap (λ (x : List ℕ). x ++ rest) spelled.parts ∙ append_assoc spelled.front spelled.rest rest in
    let key = item_again input place spelled.front (spelled.rest ++ rest) p.0 whole spelled.first in
    let behind = behind_is input place spelled.front (spelled.rest ++ rest) whole in
    let value = item_again input (place + length spelled.front) spelled.rest rest p.1 behind spelled.second in
    let test : (is_utf8 p.0 && not (has_key pairs p.0)) ≡ true = and_from (is_utf8 p.0) (not (has_key pairs p.0)) (is_utf8-from_IsUtf8 p.0 text) (ap not new) in
    let size : place + length bytes ≡ place + length spelled.front + length spelled.rest = omega (arith, ap length spelled.parts, length-append spelled.front spelled.rest) in
    rw (key.read, key.value_is, test, key.value_is, value.read, value.value_is, size) refl
