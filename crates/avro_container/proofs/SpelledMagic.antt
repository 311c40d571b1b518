-- The first bytes of a file by the relation: what is read is spelled so, and what is spelled so is read.
use Rattle.std.proofs.Common.{◌≡◌, ℕ, ◌+◌, ◌≤◌, true, cond, List, ◌++◌, length, take, drop, Ok, Err, nat_lt, refl}
use Rattle.std.proofs.Common.{sym, ap, ◌∙◌, arith}
use Rattle.std.specs.Str.{bytes_eq}
use Rattle.std.proofs.lemmas.Bool.{ltb-false, le-ltb}
use Rattle.std.proofs.lemmas.List.{length-append, length-take-le, take_all, take_at, take-append-drop}
use Rattle.std.proofs.lemmas.Slice.Eq.{bytes_eq-Decides}
use Rattle.avro_container.specs.declared.refusal.ContainerRefusal.TheVariants.{Magic, Short}
use Rattle.avro_container.specs.Header.{magic, magic_at}
use Rattle.words.specs.Parts.{Took, behind_is}
use Rattle.words.specs.Steps.{test_passed, test_failed}

-- the first bytes are those of a file
pub magic_took : (input : List ℕ) (after : ℕ) → magic_at input ≡ Ok after → Took input 0 after (λ bytes. bytes ≡ magic)
unfolding magic_at
magic_took input after read =
    let front = test_passed (bytes_eq (take 4 input) (take (length input) magic)) (cond (nat_lt (length input) 4) (Err (Short 0)) (Ok 4)) Magic after read in
    let enough = test_failed (nat_lt (length input) 4) (Ok 4) (Short 0) after front.1 in
    let long : 4 ≤ length input = ltb-false _ _ enough.0 in
    let same : take 4 input ≡ take (length input) magic = (bytes_eq-Decides (take 4 input) (take (length input) magic)).0 front.0 in
    let ends : 4 ≡ after = cc in
    record {
      bytes = take 4 input;
      stand = record {
        rest = drop 4 input;
        parts = sym (take-append-drop 4 input);
        ends = omega (arith, length-take-le 4 input long);
      };
      such = same ∙ take_all (length input) magic long;
    }

-- they are four
pub magic_is : (input : List ℕ) (after : ℕ) → magic_at input ≡ Ok after → after ≡ 4
magic_is input after read = let first = magic_took input after read in first.stand.ends ∙ omega (arith, ap length first.such)

-- which lie within the input
pub four_within : (input : List ℕ) → Took input 0 4 (λ bytes. bytes ≡ magic) → 4 ≤ length input
four_within input first = omega (arith, ap length first.stand.parts, length-append first.bytes first.stand.rest, first.stand.ends)

-- the bytes of a file are read, whatever follows
pub magic_again : (input rest : List ℕ) → input ≡ magic ++ rest → magic_at input ≡ Ok 4
unfolding magic_at
magic_again input rest parts =
    let long : 4 ≤ length input = omega (arith, ap length parts) in
    let front : take 4 input ≡ magic = ap (take 4) parts ∙ take_at magic rest 4 refl in
    let same : bytes_eq (take 4 input) (take (length input) magic) ≡ true = (bytes_eq-Decides _ _).1 (front ∙ sym (take_all (length input) magic long)) in
    rw (same, le-ltb _ _ long) refl

-- what stands behind the map
pub behind_map : (input map rest : List ℕ) → input ≡ magic ++ (map ++ rest) → drop (4 + length map) input ≡ rest
behind_map input map rest whole = behind_is input 4 map rest (behind_is input 0 magic (map ++ rest) whole)
