-- So many items, one behind the other, agree with their spelling.
use Rattle.std.proofs.Common.{◌≡◌, ℕ, zero, suc, ◌+◌, ◌≤◌, List, [], ◌∷◌, ◌++◌, length, Ok, refl, sym, ap, ap₂, subst}
use Rattle.std.proofs.Common.{◌∙◌, append_assoc, arith}
use Rattle.std.proofs.lemmas.List.{append-nil}
use Rattle.words.specs.Reading.{◌>>=◌, map_value, repeated}
use Rattle.avro_wire.specs.Blocks.{SpellsItems}
use Rattle.datum_reading.specs.declared.cursor.Cursor.{Cursor}
use Rattle.datum_tree.specs.Value.{most_items}
use Rattle.datum_reading.specs.Reading.{Reads, item_at, items_at}
use Rattle.words.specs.Parts.{Took, took_then, took_nothing}
use Rattle.datum_tree.specs.Sums.{each, each_nil, each_cons}
use Rattle.words.specs.Steps.{bind_ok, value_ok, ok_is}
use Rattle.datum_reading.specs.Agreeing.{Passes, Agrees, between, cursor_is, passes_as, passes_first, passes_second}

-- values that are read stand behind those before them, spelled by the relation
pub record ListTook {A : Type 0} (SpellsAll : List A → List ℕ → Type 0) (weighs : List A → ℕ) (before : List A) (input : List ℕ) (at : Cursor) (read : List A × Cursor) : Type 0 where
  pub more : List A
  pub grown : read.0 ≡ before ++ more
  pub took : Took input at.place read.1.place (SpellsAll more)
  pub counts : read.1.items ≡ at.items + weighs more
  pub few : read.1.items ≤ most_items

-- so many items that are read
pub record ItemsTook {A : Type 0} (SpellsItem : A → List ℕ → Type 0) (weigh : A → ℕ) (count : ℕ) (before : List A) (input : List ℕ) (at : Cursor) (read : List A × Cursor) : Type 0 where
  pub list : ListTook (SpellsItems SpellsItem) (each weigh) before input at read
  pub many : length list.more ≡ count

-- what is read is spelled so
pub items_took : {A : Type 0} (item : Reads A) (S : A → List ℕ → Type 0) (weigh : A → ℕ) → Agrees item S weigh → (count : ℕ) (before : List A) (input : List ℕ) (at : Cursor) (read : List A × Cursor) → at.items ≤ most_items
    → items_at item count before input at ≡ Ok read → ItemsTook S weigh count before input at read
unfolding items_at
items_took item S weigh agrees zero before input at read few is =
    let none : ItemsTook S weigh 0 before input at (before, at) = record { list = record { more = []; grown = sym (append-nil before); took = took_nothing input at.place; counts = omega (arith, each_nil weigh); few = few }; many = refl } in
    subst (ItemsTook S weigh 0 before input at) (ok_is (before, at) read is) none
items_took item S weigh agrees (suc count) before input at read few is =
    let steps = bind_ok (item_at item input (before, at)) (repeated (item_at item input) count) read is in
    let inner = value_ok (λ read. (before ++ read.0 ∷ [], read.1)) (item input at) steps.0 steps.1 in
    let first = agrees.sound input at inner.0 few inner.1 in
    let others = items_took item S weigh agrees count (before ++ inner.0.0 ∷ []) input inner.0.1 read first.few (ap (repeated (item_at item input) count) inner.2 ∙ steps.2) in
    record {
      list = record {
        more = inner.0.0 ∷ others.list.more;
        grown = others.list.grown ∙ append_assoc before (inner.0.0 ∷ []) others.list.more;
        took = took_then input at.place inner.0.1.place read.1.place first.took others.list.took;
        counts = omega (arith, first.counts, others.list.counts, each_cons weigh inner.0.0 others.list.more);
        few = others.list.few;
      };
      many = ap suc others.many;
    }

-- what is spelled so is read
pub items_again : {A : Type 0} (item : Reads A) (S : A → List ℕ → Type 0) (weigh : A → ℕ) → Agrees item S weigh → (more before : List A) (input : List ℕ) (at after : Cursor) (bytes : List ℕ) → SpellsItems S more bytes → Passes input at after bytes (each weigh more)
    → items_at item (length more) before input at ≡ Ok (before ++ more, after)
unfolding items_at
items_again item S weigh agrees [] before input at after bytes spelled passes =
    let same : at ≡ after = cursor_is at after (omega (arith, passes.stand.ends, ap length spelled)) (omega (arith, passes.counts, each_nil weigh)) in
    ap₂ (λ (xs : List _) (c : Cursor). Ok (xs, c)) (sym (append-nil before)) same
items_again item S weigh agrees (x ∷ more) before input at after bytes spelled passes =
    let whole = passes_as input at after bytes (spelled.front ++ spelled.rest) (each weigh (x ∷ more)) (weigh x + each weigh more) spelled.parts (each_cons weigh x more) passes in
    let middle = between at spelled.front (weigh x) in
    let first = agrees.complete input at middle x spelled.front spelled.first (passes_first input at after spelled.front spelled.rest (weigh x) (each weigh more) whole) in
    let others = items_again item S weigh agrees more (before ++ x ∷ []) input middle after spelled.rest spelled.second (passes_second input at after spelled.front spelled.rest (weigh x) (each weigh more) whole) in
    ap (λ r. map_value (λ read. (before ++ read.0 ∷ [], read.1)) r >>= repeated (item_at item input) (length more)) first
    ∙ others ∙ ap (λ (xs : List _). Ok (xs, after)) (append_assoc before (x ∷ []) more)
