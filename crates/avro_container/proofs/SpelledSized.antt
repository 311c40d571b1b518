-- A block of the header's map that tells its size, by the relation: what is read is spelled so, and what is spelled so is read.
use Rattle.std.proofs.Common.{◌≡◌, ℕ, suc, ◌+◌, ◌-◌, ◌≤◌, pos, negsuc, true, false, List, ◌++◌, length, drop, Ok}
use Rattle.std.proofs.Common.{nat_lt, inr, refl, sym, ap, subst, ◌∙◌, append_assoc, arith}
use Rattle.std.proofs.lemmas.Bool.{eq-eqb, ltb-false, le-ltb}
use Rattle.std.proofs.lemmas.List.{length-append}
use Rattle.avro_wire.specs.Blocks.{IsSized}
use Rattle.avro_wire.specs.TookLaws.{sized_is}
use Rattle.avro_container.specs.declared.refusal.ContainerRefusal.TheVariants.{Header}
use Rattle.avro_container.specs.Header.{Pair, most_pairs, is_natural, map_number_at, pairs_at, sized_at, map_block_at}
use Rattle.avro_container.specs.Format.{SpellsPair}
use Rattle.words.specs.Parts.{behind_is, took_then, took_as, took_sized}
use Rattle.words.specs.Steps.{bind_then, test_passed, test_failed, ok_is}
use Rattle.avro_container.proofs.SpelledNumber.{map_number_took, map_number_again}
use Rattle.avro_container.proofs.SpelledPairs.{pairs_took, pairs_again}
use Rattle.avro_container.proofs.Keys.{IsSoFar}
use Rattle.avro_container.proofs.MapBlock.{is_natural_is, BlockTook, BlockAgain}

-- what is read is spelled so
pub sized_took : (place n : ℕ) (pairs : List Pair) (input : List ℕ) (start : ℕ) (taken : List Pair × ℕ)
    → map_number_at input place ≡ Ok (negsuc n, start) → sized_at place (suc n) pairs input start ≡ Ok taken
    → IsSoFar pairs
    → BlockTook pairs input place taken
unfolding sized_at
sized_took place n pairs input start taken number read kept =
    let passed = test_failed (nat_lt most_pairs (length pairs + suc n)) _ (Header place) taken read in
    bind_then (map_number_at input start) _ taken passed.1 (λ size size_read behind.
    bind_then (pairs_at (suc n) pairs input size.1) _ taken behind (λ items items_read tested.
    let test = test_passed (is_natural size.0 (items.1 - size.1)) (Ok items) (Header start) taken tested in
    let block = pairs_took (suc n) pairs input size.1 items items_read kept in
    let true_size : size.0 ≡ pos (items.1 - size.1) = is_natural_is size.0 (items.1 - size.1) test.0 in
    let inner = took_then input start size.1 items.1 (map_number_took input start size size_read) (took_sized input size.1 items.1 block.took) in
    let whole = took_then input place start items.1 (map_number_took input place (negsuc n, start) number) inner in
    let is : BlockTook pairs input place items = record {
      more = block.more;
      grown = block.grown;
      took = took_as input place items.1 (λ bytes read. inr (sized_is SpellsPair n block.more size.1 items.1 size.0 bytes block.many true_size read)) whole;
      kept = block.kept;
      few = omega (arith, ltb-false _ _ passed.0, block.many, ap length block.grown, length-append pairs block.more);
    } in
    subst (BlockTook pairs input place) (ok_is items taken test.1) is))

-- what is spelled so is read, whatever follows
pub sized_again : (place : ℕ) (pairs : List Pair) (input bytes rest : List ℕ) (more : List Pair)
    → drop place input ≡ bytes ++ rest → IsSized SpellsPair more bytes → IsSoFar (pairs ++ more)
    → length pairs + length more ≤ most_pairs
    → BlockAgain place pairs input bytes more
unfolding map_block_at sized_at
sized_again place pairs input bytes rest more parts block kept few =
    let inner : (block.size ++ block.spelled) ++ rest ≡ block.size ++ (block.spelled ++ rest) = append_assoc block.size block.spelled rest in
    let whole : drop place input ≡ block.count ++ (block.size ++ (block.spelled ++ rest)) = parts ∙ ap (λ (x : List ℕ). x ++ rest) block.whole ∙ append_assoc block.count (block.size ++ block.spelled) rest ∙ ap (λ (x : List ℕ). block.count ++ x) inner in
    let start = place + length block.count in
    let behind = behind_is input place block.count (block.size ++ (block.spelled ++ rest)) whole in
    let size = map_number_again input start block.size (block.spelled ++ rest) (pos (length block.spelled)) behind block.sizes in
    let first = start + length block.size in
    let read = pairs_again more pairs input first block.spelled rest (behind_is input start block.size (block.spelled ++ rest) behind) block.spells kept in
    let many : length more ≡ suc block.less = omega (arith, block.many) in
    let counted : pairs_at (suc block.less) pairs input first ≡ Ok (pairs ++ more, first + length block.spelled) = ap (λ (n : ℕ). pairs_at n pairs input first) (sym many) ∙ read in
    let fits : nat_lt most_pairs (length pairs + suc block.less) ≡ false = le-ltb _ _ (omega arith) in
    let true_size : is_natural (pos (length block.spelled)) (first + length block.spelled - first) ≡ true = eq-eqb _ _ (omega arith) in
    let ends : first + length block.spelled ≡ place + length bytes = omega (arith, ap length block.whole, length-append block.count (block.size ++ block.spelled), length-append block.size block.spelled) in
    record {
      count = negsuc block.less;
      start = start;
      number = map_number_again input place block.count (block.size ++ (block.spelled ++ rest)) (negsuc block.less) whole block.counts;
      some = refl;
      read = rw (fits, size, counted, true_size, ends) refl;
    }
