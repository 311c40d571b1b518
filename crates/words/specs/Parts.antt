-- Bytes at a place of an input, one part after the other.
use Rattle.std.proofs.Common.{◌≡◌, ℕ, ◌+◌, ◌-◌, ◌<◌, ◌≤◌, List, [], ◌++◌, length, drop, slice_range, refl, sym, ap}
use Rattle.std.proofs.Common.{◌∙◌, append_assoc, arith}
use Rattle.std.proofs.lemmas.List.{length-drop, length-append, length-take-le, take-append-drop, drop-drop, drop_at}
use Rattle.std.proofs.lemmas.List.{take_at}
use Rattle.words.specs.Grammar.{Joined}

-- the input has the bytes from the place on, and the other place is after them
pub record Stand (input : List ℕ) (place after : ℕ) (bytes : List ℕ) : Type 0 where
  pub rest : List ℕ
  pub parts : drop place input ≡ bytes ++ rest
  pub ends : after ≡ place + length bytes

-- between the places stand bytes with the property
pub record Took (input : List ℕ) (place after : ℕ) (P : List ℕ → Type 0) : Type 0 where
  pub bytes : List ℕ
  pub stand : Stand input place after bytes
  pub such : P bytes

-- ---- bytes that stand at a place

-- what follows bytes at a place
pub behind_is : (input : List ℕ) (place : ℕ) (bytes rest : List ℕ)
    → drop place input ≡ bytes ++ rest → drop (place + length bytes) input ≡ rest
behind_is input place bytes rest parts =
    sym (drop-drop (length bytes) place input) ∙ ap (drop (length bytes)) parts ∙ drop_at bytes rest (length bytes) refl

-- the bytes between two places
pub range_is : (input : List ℕ) (place after : ℕ) (bytes : List ℕ)
    → Stand input place after bytes → slice_range input place after ≡ bytes
range_is input place after bytes stand =
    let size : after - place ≡ length bytes = omega (arith, stand.ends) in
    rw (size, stand.parts) (take_at bytes stand.rest (length bytes) refl)

-- the next bytes, of which there are enough
pub enough_are : (input : List ℕ) (place size : ℕ)
    → size ≤ length input - place → length (slice_range input place (place + size)) ≡ size
enough_are input place size enough =
    let same : place + size - place ≡ size = omega arith in
    rw same (length-take-le size (drop place input) (omega (arith, length-drop place input)))

-- they are there
pub enough_stand : (input : List ℕ) (place size : ℕ)
    → size ≤ length input - place → Stand input place (place + size) (slice_range input place (place + size))
enough_stand input place size enough = record {
  rest = drop (place + size - place) (drop place input);
  parts = sym (take-append-drop (place + size - place) (drop place input));
  ends = omega (arith, enough_are input place size enough);
}

-- the place after them is within the input
pub stand_within : (input : List ℕ) (place after : ℕ) (bytes : List ℕ)
    → place ≤ length input → Stand input place after bytes → after ≤ length input
stand_within input place after bytes le stand =
    omega (arith, stand.ends, length-drop place input, ap length stand.parts, length-append bytes stand.rest)

-- one part after another
pub stand_then : (input : List ℕ) (place middle after : ℕ) (front back : List ℕ)
    → Stand input place middle front → Stand input middle after back → Stand input place after (front ++ back)
stand_then input place middle after front back first second =
    let from_there : drop middle input ≡ first.rest =
    ap (λ (n : ℕ). drop n input) first.ends ∙ behind_is input place front first.rest first.parts in
    let behind : first.rest ≡ back ++ second.rest = sym from_there ∙ second.parts in
    record {
      rest = second.rest;
      parts = first.parts ∙ ap (λ (x : List ℕ). front ++ x) behind ∙ sym (append_assoc front back second.rest);
      ends = omega (arith, first.ends, second.ends, length-append front back);
    }

-- the first part of what is there
pub stand_first : (input : List ℕ) (place after : ℕ) (front back : List ℕ)
    → Stand input place after (front ++ back) → Stand input place (place + length front) front
stand_first input place after front back stand =
    record { rest = back ++ stand.rest; parts = stand.parts ∙ append_assoc front back stand.rest; ends = refl }

-- what follows the first part
pub stand_second : (input : List ℕ) (place after : ℕ) (front back : List ℕ)
    → Stand input place after (front ++ back) → Stand input (place + length front) after back
stand_second input place after front back stand =
    let whole = stand.parts ∙ append_assoc front back stand.rest in
    record {
      rest = stand.rest;
      parts = behind_is input place front (back ++ stand.rest) whole;
      ends = omega (arith, stand.ends, length-append front back);
    }

-- no bytes stand anywhere
pub stand_nothing : (input : List ℕ) (place : ℕ) → Stand input place place []
stand_nothing input place = record { rest = drop place input; parts = refl; ends = omega arith }

-- ---- bytes with a property

-- one after another
pub took_then : {P Q : List ℕ → Type 0} (input : List ℕ) (place middle after : ℕ)
    → Took input place middle P → Took input middle after Q → Took input place after (Joined P Q)
took_then input place middle after first second = record {
  bytes = first.bytes ++ second.bytes;
  stand = stand_then input place middle after first.bytes second.bytes first.stand second.stand;
  such = record { front = first.bytes; rest = second.bytes; parts = refl; first = first.such; second = second.such };
}

-- the same bytes, seen otherwise
pub took_as : {P Q : List ℕ → Type 0} (input : List ℕ) (place after : ℕ)
    → ((bytes : List ℕ) → P bytes → Q bytes) → Took input place after P → Took input place after Q
took_as input place after f took = record { bytes = took.bytes; stand = took.stand; such = f took.bytes took.such }

-- the same bytes, with their number
pub took_sized : {P : List ℕ → Type 0} (input : List ℕ) (place after : ℕ)
    → Took input place after P → Took input place after (λ bytes. (after ≡ place + length bytes) × P bytes)
took_sized input place after took =
    record { bytes = took.bytes; stand = took.stand; such = (took.stand.ends, took.such) }

-- a reader of some bytes moves on, within the input
pub took_moves : {P : List ℕ → Type 0} (input : List ℕ) (place after : ℕ)
    → ((bytes : List ℕ) → P bytes → 0 < length bytes) → Took input place after P
    → (place < after) × (after ≤ length input)
took_moves input place after some took =
    let here = some took.bytes took.such in
    let whole = ap length took.stand.parts in (
      omega (arith, took.stand.ends),
      omega (arith, took.stand.ends, length-drop place input, whole, length-append took.bytes took.stand.rest),
    )

-- no bytes
pub took_nothing : (input : List ℕ) (place : ℕ) → Took input place place (λ bytes. bytes ≡ [])
took_nothing input place = record { bytes = []; stand = stand_nothing input place; such = refl }
