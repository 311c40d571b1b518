-- A block of items agrees with its spelling.
use Rattle.std.proofs.Common.{◌≡◌, ℕ, zero, suc, ◌+◌, ◌-◌, ◌<◌, ◌≤◌, true, false, List, [], ◌∷◌, ◌++◌, ◌⊎◌, inl, inr}
use Rattle.std.proofs.Common.{length, nat_lt, Ok, refl, sym, ap, subst, ◌∙◌, arith, ltb-false, le-ltb, ne_eqb, eq-eqb}
use Rattle.std.proofs.Common.{eqb-true}
use Rattle.std.specs.Prelude.{ℤ, pos, negsuc}
use Rattle.std.proofs.lemmas.List.{length-append}
use Rattle.words.specs.Reading.{◌>>=◌}
use Rattle.words.specs.Grammar.{Joined}
use Rattle.avro_wire.specs.Number.{long, SpellsNumber}
use Rattle.avro_wire.specs.Blocks.{SpellsItems, IsCounted, IsSized}
use Rattle.avro_wire.specs.TookLaws.{sized_is}
use Rattle.datum_reading.specs.declared.cursor.Cursor.{Cursor}
use Rattle.datum_reading.specs.declared.refusal.DatumRefusal.TheVariants.{Items, Size}
use Rattle.datum_tree.specs.Value.{most_items}
use Rattle.datum_reading.specs.Reading.{Reads, number_from, with_count, is_natural, items_at, sized_block_at, block_at}
use Rattle.words.specs.Parts.{Took, took_then, took_as}
use Rattle.datum_tree.specs.Sums.{each, with_each}
use Rattle.words.specs.Steps.{bind_ok, test_passed, test_failed, ok_is}
use Rattle.datum_reading.specs.Agreeing.{Passes, Agrees, between, passes_as, passes_first, passes_second}
use Rattle.datum_reading.proofs.SpelledNumber.{agrees_number}
use Rattle.datum_reading.proofs.SpelledItems.{ListTook, items_took, items_again}

-- a block, by either way to tell its count
abbrev pub SpellsBlock : {A : Type 0} → (A → List ℕ → Type 0) → List A → List ℕ → Type 0
SpellsBlock S more bytes = IsCounted S more bytes ⊎ IsSized S more bytes

-- a number that is natural
pub is_natural_is : (z : ℤ) (n : ℕ) → is_natural z n ≡ true → z ≡ pos n
is_natural_is (pos m) n same = ap (λ (k : ℕ). pos k) (eqb-true m n same)
is_natural_is (negsuc m) n same = absurd cc

-- ---- the items of a block are counted

-- the cursor where so many items more are counted
abbrev counted : Cursor → ℕ → Cursor
counted at count = record { place = at.place; items = at.items + count }

-- a count that is not refused
count_took : (place count : ℕ) (at after : Cursor) → with_count place count at ≡ Ok after → (counted at count ≡ after) × (at.items + count ≤ most_items)
count_took place count at after is =
    let passed = test_failed (nat_lt most_items (at.items + count)) (Ok (counted at count)) (Items place) after is in
    (ok_is (counted at count) after passed.1, ltb-false _ _ passed.0)

-- a count of items that may come
count_again : (place count : ℕ) (at : Cursor) → at.items + count ≤ most_items → with_count place count at ≡ Ok (counted at count)
count_again place count at few = rw (le-ltb _ _ few) refl

-- what stands behind a count passes fewer items
passes_counted : (input : List ℕ) (at after : Cursor) (bytes : List ℕ) (count many : ℕ) → Passes input at after bytes (count + many) → Passes input (counted at count) after bytes many
passes_counted input at after bytes count many passes = record { stand = passes.stand; counts = omega (arith, passes.counts); few = passes.few }

-- ---- what is read is spelled so

-- the bytes of a block that tells its count alone
counted_is : {A : Type 0} (S : A → List ℕ → Type 0) (n : ℕ) (more : List A) (bytes : List ℕ) → length more ≡ n → is_natural (pos n) 0 ≡ false → Joined (λ front. SpellsNumber long front (pos n)) (SpellsItems S more) bytes → SpellsBlock S more bytes
counted_is S zero more bytes many some parts = absurd cc
counted_is S (suc n) more bytes many some parts = inl (record {
  some = omega arith;
  parts = subst (λ (k : ℕ). Joined (λ front. SpellsNumber long front (pos k)) (SpellsItems S more) bytes) (sym many) parts;
})

-- the items of a block that tells its count alone
counted_took : {A : Type 0} (item : Reads A) (S : A → List ℕ → Type 0) (weigh : A → ℕ) → Agrees item S weigh → (n : ℕ) (before : List A) (input : List ℕ) (at start : Cursor) (read : List A × Cursor)
    → Took input at.place start.place (λ bytes. SpellsNumber long bytes (pos n)) → start.items ≡ at.items → start.items + n ≤ most_items → is_natural (pos n) 0 ≡ false → items_at item n before input (counted start n) ≡ Ok read
    → ListTook (SpellsBlock S) (with_each weigh) before input at read
counted_took item S weigh agrees n before input at start read number same few some is =
    let items = items_took item S weigh agrees n before input (counted start n) read few is in
    record {
      more = items.list.more;
      grown = items.list.grown;
      took = took_as input at.place read.1.place (λ bytes. counted_is S n items.list.more bytes items.many some) (took_then input at.place start.place read.1.place number items.list.took);
      counts = omega (arith, items.list.counts, items.many);
      few = items.list.few;
    }

-- the bytes that were taken, with their number
took_long : {P : List ℕ → Type 0} (input : List ℕ) (place after : ℕ) → Took input place after P → Took input place after (λ bytes. (after ≡ place + length bytes) × P bytes)
took_long input place after took = record { bytes = took.bytes; stand = took.stand; such = (took.stand.ends, took.such) }

-- the size and the items of a block that tells its size
sized_took : {A : Type 0} (item : Reads A) (S : A → List ℕ → Type 0) (weigh : A → ℕ) → Agrees item S weigh → (n : ℕ) (before : List A) (input : List ℕ) (at start : Cursor) (read : List A × Cursor)
    → Took input at.place start.place (λ bytes. SpellsNumber long bytes (negsuc n)) → start.items ≡ at.items → start.items + suc n ≤ most_items → sized_block_at item (suc n) before input (counted start (suc n)) ≡ Ok read
    → ListTook (SpellsBlock S) (with_each weigh) before input at read
unfolding sized_block_at
sized_took item S weigh agrees n before input at start read number same few is =
    let sizes = bind_ok (number_from long input (counted start (suc n))) _ read is in
    let size = sizes.0 in
    let size_took = (agrees_number long).sound input (counted start (suc n)) size few sizes.1 in
    let blocks = bind_ok (items_at item (suc n) before input size.1) _ read sizes.2 in
    let test = test_passed (is_natural size.0 (blocks.0.1.place - size.1.place)) (Ok blocks.0) (Size start.place) read blocks.2 in
    let items = items_took item S weigh agrees (suc n) before input size.1 blocks.0 size_took.few blocks.1 in
    let true_size = is_natural_is size.0 (blocks.0.1.place - size.1.place) test.0 in
    let inner = took_then input start.place size.1.place blocks.0.1.place size_took.took (took_long input size.1.place blocks.0.1.place items.list.took) in
    let whole = took_then input at.place start.place blocks.0.1.place number inner in
    subst (ListTook (SpellsBlock S) (with_each weigh) before input at) (ok_is blocks.0 read test.1) (record {
      more = items.list.more;
      grown = items.list.grown;
      took = took_as input at.place blocks.0.1.place (λ bytes read. inr (sized_is S n items.list.more size.1.place blocks.0.1.place size.0 bytes items.many true_size read)) whole;
      counts = omega (arith, items.list.counts, items.many, size_took.counts);
      few = items.list.few;
    })

-- a block that is read, behind its count
pub block_took : {A : Type 0} (item : Reads A) (S : A → List ℕ → Type 0) (weigh : A → ℕ) → Agrees item S weigh → (before : List A) (input : List ℕ) (at : Cursor) (count : ℤ) (start : Cursor) (read : List A × Cursor) → at.items ≤ most_items
    → number_from long input at ≡ Ok (count, start) → is_natural count 0 ≡ false → block_at item at.place before input (count, start) ≡ Ok read → ListTook (SpellsBlock S) (with_each weigh) before input at read
block_took item S weigh agrees before input at (pos n) start read few number some is =
    let took = (agrees_number long).sound input at (pos n, start) few number in
    let steps = bind_ok (with_count at.place n start) (items_at item n before input) read is in
    let count = count_took at.place n start steps.0 steps.1 in
    counted_took item S weigh agrees n before input at start read took.took (omega (arith, took.counts)) count.1 some (ap (items_at item n before input) count.0 ∙ steps.2)
block_took item S weigh agrees before input at (negsuc n) start read few number some is =
    let took = (agrees_number long).sound input at (negsuc n, start) few number in
    let steps = bind_ok (with_count at.place (suc n) start) (sized_block_at item (suc n) before input) read is in
    let count = count_took at.place (suc n) start steps.0 steps.1 in
    sized_took item S weigh agrees n before input at start read took.took (omega (arith, took.counts)) count.1 (ap (sized_block_at item (suc n) before input) count.0 ∙ steps.2)

-- ---- what is spelled so is read

-- what a block that is spelled reads as
pub record BlockAgain {A : Type 0} (item : Reads A) (before more : List A) (input : List ℕ) (at after : Cursor) : Type 0 where
  pub count : ℤ × Cursor
  pub number : number_from long input at ≡ Ok count
  pub some : is_natural count.0 0 ≡ false
  pub read : block_at item at.place before input count ≡ Ok (before ++ more, after)

-- a block that tells its count alone
counted_again : {A : Type 0} (item : Reads A) (S : A → List ℕ → Type 0) (weigh : A → ℕ) → Agrees item S weigh → (more before : List A) (input : List ℕ) (at after : Cursor) (bytes : List ℕ) → IsCounted S more bytes → Passes input at after bytes (with_each weigh more)
    → BlockAgain item before more input at after
counted_again item S weigh agrees more before input at after bytes block passes =
    let front = block.parts.front in
    let back = block.parts.rest in
    let whole = passes_as input at after bytes (front ++ back) (with_each weigh more) (0 + with_each weigh more) block.parts.parts (omega arith) passes in
    let start = between at front 0 in
    let number = (agrees_number long).complete input at start (pos (length more)) front block.parts.first (passes_first input at after front back 0 (with_each weigh more) whole) in
    let behind = passes_second input at after front back 0 (with_each weigh more) whole in
    let room = count_again at.place (length more) start (omega (arith, behind.counts, behind.few)) in
    let items = items_again item S weigh agrees more before input (counted start (length more)) after back block.parts.second (passes_counted input start after back (length more) (each weigh more) behind) in
    record {
      count = (pos (length more), start);
      number = number;
      some = ne_eqb (length more) 0 (λ none. omega (arith, block.some));
      read = ap (λ r. r >>= items_at item (length more) before input) room ∙ items;
    }

-- a block that tells its size
sized_again : {A : Type 0} (item : Reads A) (S : A → List ℕ → Type 0) (weigh : A → ℕ) → Agrees item S weigh → (more before : List A) (input : List ℕ) (at after : Cursor) (bytes : List ℕ) → IsSized S more bytes → Passes input at after bytes (with_each weigh more)
    → BlockAgain item before more input at after
unfolding sized_block_at
sized_again item S weigh agrees more before input at after bytes block passes =
    let many : length more ≡ suc block.less = omega (arith, block.many) in
    let whole = passes_as input at after bytes (block.count ++ (block.size ++ block.spelled)) (with_each weigh more) (0 + with_each weigh more) block.whole (omega arith) passes in
    let start = between at block.count 0 in
    let number = (agrees_number long).complete input at start (negsuc block.less) block.count block.counts (passes_first input at after block.count (block.size ++ block.spelled) 0 (with_each weigh more) whole) in
    let behind = passes_second input at after block.count (block.size ++ block.spelled) 0 (with_each weigh more) whole in
    let room = count_again at.place (suc block.less) start (omega (arith, behind.counts, behind.few)) in
    let counts : with_each weigh more ≡ suc block.less + (0 + each weigh more) = omega arith in
    let sized = passes_counted input start after (block.size ++ block.spelled) (suc block.less) (0 + each weigh more) (passes_as input start after (block.size ++ block.spelled) (block.size ++ block.spelled) (with_each weigh more) (suc block.less + (0 + each weigh more)) refl counts behind) in
    let size_at = counted start (suc block.less) in
    let first = between size_at block.size 0 in
    let size = (agrees_number long).complete input size_at first (pos (length block.spelled)) block.size block.sizes (passes_first input size_at after block.size block.spelled 0 (each weigh more) sized) in
    let last = passes_second input size_at after block.size block.spelled 0 (each weigh more) sized in
    let items = items_again item S weigh agrees more before input first after block.spelled block.spells last in
    let so_many : items_at item (suc block.less) before input first ≡ Ok (before ++ more, after) = ap (λ (n : ℕ). items_at item n before input first) (sym many) ∙ items in
    let true_size : is_natural (pos (length block.spelled)) (after.place - first.place) ≡ true = eq-eqb _ _ (omega (arith, last.stand.ends)) in
    record {
      count = (negsuc block.less, start);
      number = number;
      some = refl;
      read = rw (room, size, so_many, true_size) refl;
    }

-- a block that is spelled is read
pub block_again : {A : Type 0} (item : Reads A) (S : A → List ℕ → Type 0) (weigh : A → ℕ) → Agrees item S weigh → (more before : List A) (input : List ℕ) (at after : Cursor) (bytes : List ℕ) → SpellsBlock S more bytes → Passes input at after bytes (with_each weigh more)
    → BlockAgain item before more input at after
block_again item S weigh agrees more before input at after bytes (inl block) passes = counted_again item S weigh agrees more before input at after bytes block passes
block_again item S weigh agrees more before input at after bytes (inr block) passes = sized_again item S weigh agrees more before input at after bytes block passes

-- ---- the least number of bytes

-- a number takes a byte at least
pub number_some : (bytes : List ℕ) (value : ℤ) → SpellsNumber long bytes value → 0 < length bytes
number_some [] value spelled = absurd spelled.groups
number_some (b ∷ bytes) value spelled = omega arith

-- and so does a block
pub block_some : {A : Type 0} (S : A → List ℕ → Type 0) (more : List A) (bytes : List ℕ) → SpellsBlock S more bytes → 0 < length bytes
block_some S more bytes (inl block) = omega (arith, ap length block.parts.parts, length-append block.parts.front block.parts.rest, number_some block.parts.front (pos (length more)) block.parts.first)
block_some S more bytes (inr block) = omega (arith, ap length block.whole, length-append block.count (block.size ++ block.spelled), number_some block.count (negsuc block.less) block.counts)
