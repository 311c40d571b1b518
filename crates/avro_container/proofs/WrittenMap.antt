-- The header's map as it is written is spelled so.
use Rattle.std.proofs.Common.{ℕ, ◌<◌, ◌≤◌, ◌^◌, pos, List, [], ◌∷◌, ◌++◌, length, All, refl, arith}
use Rattle.std.specs.List.{flat_map}
use Rattle.std.proofs.lemmas.List.{length-append}
use Rattle.std.proofs.lemmas.List.Elements.{All-nil, All-cons}
use Rattle.avro_wire.specs.Writing.{number_text, size_text, bytes_text, list_text}
use Rattle.avro_wire.specs.WritingLaws.{bytes_spelled, list_spelled}
use Rattle.avro_container.specs.Header.{Pair, most_pairs}
use Rattle.avro_container.specs.Format.{SpellsPair, SpellsMap}
use Rattle.avro_container.specs.Writing.{pair_text}

-- bytes take no more room than with their length before them
pub length_within : (value : List ℕ) → length value ≤ length (bytes_text value)
unfolding bytes_text
length_within value = omega (arith, length-append (size_text value) value)

-- a pair
pair_spelled : (pair : Pair) → length (pair_text pair) < 2 ^ 63 → SpellsPair pair (pair_text pair)
pair_spelled pair below =
    let both = length-append (bytes_text pair.0) (bytes_text pair.1) in
    record {
      front = bytes_text pair.0;
      rest = bytes_text pair.1;
      parts = refl;
      first = bytes_spelled pair.0 (omega (arith, both, length_within pair.0));
      second = bytes_spelled pair.1 (omega (arith, both, length_within pair.1));
    }

-- each of the pairs
pairs_spelled : (pairs : List Pair) → length (flat_map pair_text pairs) < 2 ^ 63 → All (λ pair. SpellsPair pair (pair_text pair)) pairs
pairs_spelled [] below = All-nil (λ (pair : Pair). SpellsPair pair (pair_text pair))
pairs_spelled (pair ∷ pairs) below =
    let both = length-append (pair_text pair) (flat_map pair_text pairs) in
    All-cons (λ (p : Pair). SpellsPair p (pair_text p)) pair pairs (pair_spelled pair (omega (arith, both))) (pairs_spelled pairs (omega (arith, both)))

-- pairs take no more room than with their count before them, and the end behind
pairs_within : (pairs : List Pair) → length (flat_map pair_text pairs) ≤ length (list_text pair_text pairs)
pairs_within [] = omega arith
pairs_within (pair ∷ pairs) =
    let all = flat_map pair_text (pair ∷ pairs) in
    omega (arith, length-append (number_text (pos (length (pair ∷ pairs)))) (all ++ number_text (pos 0)), length-append all (number_text (pos 0)))

-- the map
pub map_spelled : (pairs : List Pair) → length pairs ≤ most_pairs → length (list_text pair_text pairs) < 2 ^ 63 → SpellsMap pairs (list_text pair_text pairs)
map_spelled pairs few below = list_spelled SpellsPair pair_text pairs (pairs_spelled pairs (omega (arith, pairs_within pairs))) (omega arith)
