-- All items of an array or a map agree with their spelling.
use Rattle.std.proofs.Common.{◌≡◌, ℕ, zero, suc, ◌+◌, ◌≤◌, List, [], ◌∷◌, ◌++◌, inl, inr, length, Ok, refl, sym, ap}
use Rattle.std.proofs.Common.{subst, ◌∙◌, append_assoc, arith}
use Rattle.std.specs.Prelude.{ℤ, pos}
use Rattle.std.specs.List.{flat_map}
use Rattle.std.proofs.lemmas.List.{length-append, length-drop, append-nil}
use Rattle.avro_wire.specs.Number.{long}
use Rattle.avro_wire.specs.Blocks.{SpellsBlocks, SpellsList}
use Rattle.datum_reading.specs.declared.cursor.Cursor.{Cursor}
use Rattle.datum_tree.specs.Value.{most_items}
use Rattle.datum_reading.specs.Reading.{Reads, number_from, is_natural, block_at, blocks_at, all_at}
use Rattle.words.specs.Parts.{Took, took_then}
use Rattle.datum_tree.specs.Sums.{with_each, each_nil, with_each_append}
use Rattle.words.specs.Steps.{bind_ok, cond_is, ok_is}
use Rattle.datum_reading.specs.Agreeing.{Passes, Agrees, between, passes_as, passes_first, passes_second}
use Rattle.datum_reading.proofs.SpelledNumber.{agrees_number}
use Rattle.datum_reading.proofs.SpelledBlock.{is_natural_is, block_took, block_again, block_some, number_some}

-- the items of all blocks
abbrev all_of : {A : Type 0} → List (List A) → List A
all_of blocks = flat_map (λ items. items) blocks

-- blocks that are read: their items stand behind those before them
record BlocksTook {A : Type 0} (S : A → List ℕ → Type 0) (weigh : A → ℕ) (before : List A) (input : List ℕ) (at : Cursor) (read : List A × Cursor) : Type 0 where
  blocks : List (List A)
  grown : read.0 ≡ before ++ all_of blocks
  took : Took input at.place read.1.place (SpellsBlocks S blocks)
  counts : read.1.items ≡ at.items + with_each weigh (all_of blocks)
  few : read.1.items ≤ most_items

-- the count 0 ends them
blocks_ended : {A : Type 0} (S : A → List ℕ → Type 0) (weigh : A → ℕ) (before : List A) (input : List ℕ) (at : Cursor) (count : ℤ × Cursor) → at.items ≤ most_items → number_from long input at ≡ Ok count → count.0 ≡ pos 0 → BlocksTook S weigh before input at (before, count.1)
blocks_ended S weigh before input at count few number none =
    let took = (agrees_number long).sound input at count few number in
    record {
      blocks = [];
      grown = sym (append-nil before);
      took = rw none at took.took;
      counts = omega (arith, took.counts, each_nil weigh);
      few = took.few;
    }

-- what is read is spelled so
blocks_took : {A : Type 0} (item : Reads A) (S : A → List ℕ → Type 0) (weigh : A → ℕ) → Agrees item S weigh → (tries : ℕ) (before : List A) (input : List ℕ) (at : Cursor) (read : List A × Cursor) → at.items ≤ most_items
    → blocks_at item tries before input at ≡ Ok read → BlocksTook S weigh before input at read
unfolding blocks_at
blocks_took item S weigh agrees zero before input at read few is = absurd cc
blocks_took item S weigh agrees (suc tries) before input at read few is =
    let counts = bind_ok (number_from long input at) _ read is in
    elim (cond_is (is_natural counts.0.0 0) _ _ _ counts.2) [
      | inl ended ↦ subst (BlocksTook S weigh before input at) (ok_is (before, counts.0.1) read ended.1) (blocks_ended S weigh before input at counts.0 few counts.1 (is_natural_is counts.0.0 0 ended.0))
      | inr goes_on ↦
          let steps = bind_ok (block_at item at.place before input counts.0) _ read goes_on.1 in
          let first = block_took item S weigh agrees before input at counts.0.0 counts.0.1 steps.0 few counts.1 goes_on.0 steps.1 in
          let others = blocks_took item S weigh agrees tries steps.0.0 input steps.0.1 read first.few steps.2 in
          record {
            blocks = first.more ∷ others.blocks;
            grown = others.grown ∙ ap (λ (x : List _). x ++ all_of others.blocks) first.grown ∙ append_assoc before first.more (all_of others.blocks);
            took = took_then input at.place steps.0.1.place read.1.place first.took others.took;
            counts = omega (arith, first.counts, others.counts, with_each_append weigh first.more (all_of others.blocks));
            few = others.few;
          }
    ]

-- what is spelled so is read
blocks_again : {A : Type 0} (item : Reads A) (S : A → List ℕ → Type 0) (weigh : A → ℕ) → Agrees item S weigh → (blocks : List (List A)) (tries : ℕ) (before : List A) (input : List ℕ) (at after : Cursor) (bytes : List ℕ) → SpellsBlocks S blocks bytes → length bytes ≤ tries
    → Passes input at after bytes (with_each weigh (all_of blocks)) → blocks_at item tries before input at ≡ Ok (before ++ all_of blocks, after)
unfolding blocks_at
blocks_again item S weigh agrees [] zero before input at after bytes spelled enough passes = absurd (omega (arith, number_some bytes (pos 0) spelled))
blocks_again item S weigh agrees [] (suc tries) before input at after bytes spelled enough passes =
    let none = passes_as input at after bytes bytes (with_each weigh []) 0 refl (omega (arith, each_nil weigh)) passes in
    rw ((agrees_number long).complete input at after (pos 0) bytes spelled none, append-nil before) refl
blocks_again item S weigh agrees (more ∷ blocks) zero before input at after bytes spelled enough passes =
    absurd (omega (arith, block_some S more spelled.front spelled.first, ap length spelled.parts, length-append spelled.front spelled.rest))
blocks_again item S weigh agrees (more ∷ blocks) (suc tries) before input at after bytes spelled enough passes =
    let whole = passes_as input at after bytes (spelled.front ++ spelled.rest) (with_each weigh (more ++ all_of blocks)) (with_each weigh more + with_each weigh (all_of blocks)) spelled.parts (with_each_append weigh more (all_of blocks)) passes in
    let middle = between at spelled.front (with_each weigh more) in
    let first = block_again item S weigh agrees more before input at middle spelled.front spelled.first (passes_first input at after spelled.front spelled.rest (with_each weigh more) (with_each weigh (all_of blocks)) whole) in
    let left : length spelled.rest ≤ tries = omega (arith, block_some S more spelled.front spelled.first, ap length spelled.parts, length-append spelled.front spelled.rest) in
    let others = blocks_again item S weigh agrees blocks tries (before ++ more) input middle after spelled.rest spelled.second left (passes_second input at after spelled.front spelled.rest (with_each weigh more) (with_each weigh (all_of blocks)) whole) in
    let together : (before ++ more) ++ all_of blocks ≡ before ++ (more ++ all_of blocks) = append_assoc before more (all_of blocks) in
    rw (first.number, first.some, first.read, others, together) refl

-- all items agree with their spelling
pub agrees_all : {A : Type 0} (item : Reads A) (S : A → List ℕ → Type 0) (weigh : A → ℕ) → Agrees item S weigh → Agrees (all_at item) (SpellsList S) (with_each weigh)
agrees_all item S weigh agrees = record {
  sound = λ input at read few is.
      let took = blocks_took item S weigh agrees (suc (length input)) [] input at read few is in
      record {
        took = record { bytes = took.took.bytes; stand = took.took.stand; such = record { blocks = took.blocks; together = sym took.grown; spelled = took.took.such } };
        counts = took.counts ∙ ap (λ (xs : List _). at.items + with_each weigh xs) (sym took.grown);
        few = took.few;
      };
  complete = λ input at after xs bytes spelled passes.
      let enough : length bytes ≤ suc (length input) = omega (arith, length-drop at.place input, ap length passes.stand.parts, length-append bytes passes.stand.rest) in
      let same = passes_as input at after bytes bytes (with_each weigh xs) (with_each weigh (all_of spelled.blocks)) refl (ap (with_each weigh) (sym spelled.together)) passes in
      blocks_again item S weigh agrees spelled.blocks (suc (length input)) [] input at after bytes spelled.spelled enough same ∙ ap (λ (ys : List _). Ok (ys, after)) spelled.together;
}
