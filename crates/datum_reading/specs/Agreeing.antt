-- Readers that agree with a relation: what they read is encoded so, and what is encoded so they read.
-- Each reader counts items of arrays and maps, of which there may only be so many.
use Rattle.std.proofs.Common.{◌≡◌, ℕ, ◌+◌, ◌≤◌, List, ◌++◌, length, Ok, refl, sym, ap, ap₂, ◌∙◌, subst, arith}
use Rattle.words.specs.Reading.{◌>>=◌, map_value}
use Rattle.words.specs.Grammar.{Joined}
use Rattle.datum_reading.specs.declared.cursor.Cursor.{Cursor}
use Rattle.datum_tree.specs.Value.{most_items}
use Rattle.datum_reading.specs.Reading.{Reads}
use Rattle.words.specs.Parts.{Stand, Took, stand_first, stand_second, took_then, took_as}
use Rattle.words.specs.Steps.{bind_ok, value_ok}

-- the cursor stood before bytes and stands after them, and so many items more are counted, which are not too many
pub record Passes (input : List ℕ) (at after : Cursor) (bytes : List ℕ) (many : ℕ) : Type 0 where
  pub stand : Stand input at.place after.place bytes
  pub counts : after.items ≡ at.items + many
  pub few : after.items ≤ most_items

-- what was read at a cursor
pub record ReadTook {A : Type 0} (SpellsItem : A → List ℕ → Type 0) (weigh : A → ℕ) (input : List ℕ) (at : Cursor)
    (read : A × Cursor) : Type 0 where
  pub took : Took input at.place read.1.place (SpellsItem read.0)
  pub counts : read.1.items ≡ at.items + weigh read.0
  pub few : read.1.items ≤ most_items

-- the reader agrees with the relation, where each value has so many items in it
pub record Agrees {A : Type 0} (reader : Reads A) (SpellsItem : A → List ℕ → Type 0) (weigh : A → ℕ) : Type 0 where
  pub sound : (input : List ℕ) (at : Cursor) (read : A × Cursor) → at.items ≤ most_items → reader input at ≡ Ok read
      → ReadTook SpellsItem weigh input at read
  pub complete : (input : List ℕ) (at after : Cursor) (x : A) (bytes : List ℕ) → SpellsItem x bytes
      → Passes input at after bytes (weigh x) → reader input at ≡ Ok (x, after)

-- nothing is in what holds no other value
abbrev pub no_items : {A : Type 0} → A → ℕ
no_items x = 0

-- the cursor of a place and a count
abbrev cursor : ℕ → ℕ → Cursor
cursor place items = record { place = place; items = items }

-- cursors of the same place and count
pub cursor_is : (a b : Cursor) → a.place ≡ b.place → a.items ≡ b.items → a ≡ b
cursor_is a b place items = ap₂ cursor place items

-- the cursor between two parts
unfoldable pub between : Cursor → List ℕ → ℕ → Cursor
between at front many = record { place = at.place + length front; items = at.items + many }

-- the first of two parts is passed
pub passes_first : (input : List ℕ) (at after : Cursor) (front back : List ℕ) (m n : ℕ)
    → Passes input at after (front ++ back) (m + n) → Passes input at (between at front m) front m
unfolding between
passes_first input at after front back m n passes = record {
  stand = stand_first input at.place after.place front back passes.stand;
  counts = refl;
  few = omega (arith, passes.counts, passes.few);
}

-- and then the second
pub passes_second : (input : List ℕ) (at after : Cursor) (front back : List ℕ) (m n : ℕ)
    → Passes input at after (front ++ back) (m + n) → Passes input (between at front m) after back n
unfolding between
passes_second input at after front back m n passes = record {
  stand = stand_second input at.place after.place front back passes.stand;
  counts = omega (arith, passes.counts);
  few = passes.few;
}

-- the same, of bytes and a count that are equal
pub passes_as : (input : List ℕ) (at after : Cursor) (bytes others : List ℕ) (m n : ℕ) → bytes ≡ others → m ≡ n
    → Passes input at after bytes m → Passes input at after others n
passes_as input at after bytes others m n same count passes =
    subst (λ (x : List ℕ). Passes input at after x n) same
    (subst (λ (k : ℕ). Passes input at after bytes k) count passes)

-- ---- readers put together

-- a relation that says the same
pub agrees_as : {A : Type 0} (reader : Reads A) (S T : A → List ℕ → Type 0) (weigh : A → ℕ) → Agrees reader S weigh
    → ((x : A) (bytes : List ℕ) → S x bytes → T x bytes) → ((x : A) (bytes : List ℕ) → T x bytes → S x bytes)
    → Agrees reader T weigh
agrees_as reader S T weigh agrees into back = record {
  sound = λ input at read few is.
      let took = agrees.sound input at read few is in
      record {
        took = took_as input at.place read.1.place (into read.0) took.took;
        counts = took.counts;
        few = took.few;
      };
  complete =
      λ input at after x bytes spelled passes. agrees.complete input at after x bytes (back x bytes spelled) passes;
}

-- a value as another type shows it
pub agrees_through : {A B : Type 0} (reader : Reads A) (S : A → List ℕ → Type 0) (T : B → List ℕ → Type 0)
    (weigh : A → ℕ) (weighs : B → ℕ) (view : A → B) → Agrees reader S weigh → ((x : A) → weighs (view x) ≡ weigh x)
    → ((x : A) (bytes : List ℕ) → S x bytes → T (view x) bytes)
    → ((y : B) (bytes : List ℕ) → T y bytes → (x : A) × (y ≡ view x) × S x bytes)
    → Agrees (λ input at. map_value (λ read. (view read.0, read.1)) (reader input at)) T weighs
agrees_through reader S T weigh weighs view agrees same into back = record {
  sound = λ input at read few is.
      let inner = value_ok (λ read. (view read.0, read.1)) (reader input at) read is in
      let took = agrees.sound input at inner.0 few inner.1 in
      subst (ReadTook T weighs input at) inner.2 (record {
        took = took_as input at.place inner.0.1.place (into inner.0.0) took.took;
        counts = took.counts ∙ ap (λ (n : ℕ). at.items + n) (sym (same inner.0.0));
        few = took.few;
      });
  complete = λ input at after y bytes spelled passes.
      let inner = back y bytes spelled in
      let count : weighs y ≡ weigh inner.0 = ap weighs inner.1 ∙ same inner.0 in
      let read =
      agrees.complete input at after inner.0 bytes inner.2
      (passes_as input at after bytes bytes (weighs y) (weigh inner.0) refl count passes) in
      ap (map_value (λ read. (view read.0, read.1))) read ∙ ap (λ z. Ok (z, after)) (sym inner.1);
}

-- a reader that turns on what one before it read, which has no items in it
pub agrees_then : {A B : Type 0} (reader : Reads A) (next : A → Reads B) (S : A → List ℕ → Type 0)
    (T : A → B → List ℕ → Type 0) (weigh : B → ℕ) → Agrees reader S no_items → ((x : A) → Agrees (next x) (T x) weigh)
    → Agrees (λ input at. reader input at >>= λ read. next read.0 input read.1)
    (λ y bytes. (x : A) × Joined (S x) (T x y) bytes) weigh
agrees_then reader next S T weigh agrees others = record {
  sound = λ input at read few is.
      let steps = bind_ok (reader input at) (λ read. next read.0 input read.1) read is in
      let first = agrees.sound input at steps.0 few steps.1 in
      let second = (others steps.0.0).sound input steps.0.1 read first.few steps.2 in
      let joined = took_then input at.place steps.0.1.place read.1.place first.took second.took in
      record {
        took = took_as input at.place read.1.place (λ bytes parts. (steps.0.0, parts)) joined;
        counts = omega (arith, first.counts, second.counts);
        few = second.few;
      };
  complete = λ input at after y bytes spelled passes.
      let parts = spelled.1 in
      let whole =
      passes_as input at after bytes (parts.front ++ parts.rest) (weigh y) (0 + weigh y) parts.parts (omega arith)
      passes in
      let middle = between at parts.front 0 in
      let first =
      agrees.complete input at middle spelled.0 parts.front parts.first
      (passes_first input at after parts.front parts.rest 0 (weigh y) whole) in
      let second =
      (others spelled.0).complete input middle after y parts.rest parts.second
      (passes_second input at after parts.front parts.rest 0 (weigh y) whole) in
      ap (λ r. r >>= λ read. next read.0 input read.1) first ∙ second;
}
