-- The values of fields, of branches and of keys agree with their spelling, where those of the schemas in a schema do.
use Rattle.std.proofs.Common.{◌≡◌, ℕ, zero, suc, ◌+◌, ◌<◌, ◌≤◌, List, [], ◌∷◌, ◌++◌, length, map, Ok, refl, sym, ap}
use Rattle.std.proofs.Common.{ap₂, subst, ◌∙◌, append_assoc, append-nil, arith}
use Rattle.words.specs.Reading.{◌>>=◌, map_value}
use Rattle.words.specs.Grammar.{Joined}
use Rattle.datum_reading.specs.declared.cursor.Cursor.{Cursor}
use Rattle.datum_tree.specs.declared.datum.Datum.{Datum}
use Rattle.datum_tree.specs.declared.datum.Datum.TheVariants as datums
use Rattle.datum_tree.specs.Value.{items_in, most_items}
use Rattle.datum_reading.specs.Reading.{Reader, text_at, choice_at, fields_at, pair_at, branch_at}
use Rattle.datum_tree.specs.Spelling.{Spelling, SpellsText, SpellsPair, SpellsEach, SpellsBranch, SpellsUnion}
use Rattle.words.specs.Parts.{took_then, took_nothing}
use Rattle.datum_tree.specs.Sums.{each, each_nil, each_cons}
use Rattle.datum_tree.specs.Counts.{in_pair, counts-Branch}
use Rattle.words.specs.Steps.{bind_ok, ok_is}
use Rattle.datum_reading.specs.Agreeing.{Passes, ReadTook, Agrees, between, cursor_is, passes_as, passes_first}
use Rattle.datum_reading.specs.Agreeing.{passes_second, agrees_as, agrees_through, agrees_then}
use Rattle.datum_reading.proofs.SpelledNumber.{SpellsChoice, agrees_choice}
use Rattle.datum_reading.proofs.SpelledBytes.{agrees_text}
use Rattle.datum_reading.proofs.SpelledItems.{ListTook}

-- ---- a key and its value

-- a pair whose key is known
abbrev HasKey : Spelling → List ℕ → List ℕ × Datum → List ℕ → Type 0
HasKey S key pair bytes = (pair.0 ≡ key) × S pair.1 bytes

-- of a value that is read
with_key : (reader : Reader) (S : Spelling) (key : List ℕ) → Agrees reader S items_in → Agrees (λ input at. map_value (λ read. ((key, read.0), read.1)) (reader input at)) (HasKey S key) in_pair
with_key reader S key agrees =
    agrees_through reader S (HasKey S key) items_in in_pair (λ (datum : Datum). (key, datum)) agrees (λ datum. refl) (λ datum bytes spelled. (refl, spelled)) (λ pair bytes spelled. (pair.1, ap (λ (k : List ℕ). (k, pair.1)) spelled.0, spelled.1))

-- pairs agree with their spelling
pub agrees_pair : (reader : Reader) (S : Spelling) → Agrees reader S items_in → Agrees (pair_at reader) (SpellsPair S) in_pair
agrees_pair reader S agrees =
    agrees_as (pair_at reader) (λ (pair : List ℕ × Datum) (bytes : List ℕ). (key : List ℕ) × Joined (SpellsText key) (HasKey S key pair) bytes) (SpellsPair S) in_pair
    (agrees_then text_at (λ (key : List ℕ) (input : List ℕ) (at : Cursor). map_value (λ read. ((key, read.0), read.1)) (reader input at)) SpellsText (HasKey S) in_pair agrees_text (λ key. with_key reader S key agrees))
    (λ pair bytes spelled. record { front = spelled.1.front; rest = spelled.1.rest; parts = spelled.1.parts; first = subst (λ (key : List ℕ). SpellsText key spelled.1.front) (sym spelled.1.second.0) spelled.1.first; second = spelled.1.second.1 })
    (λ pair bytes spelled. (pair.0, record { front = spelled.front; rest = spelled.rest; parts = spelled.parts; first = spelled.first; second = (refl, spelled.second) }))

-- ---- things of some kind, each of which has a reader that agrees with a relation
module _ {X : Type 0} (reader : X → Reader) (S : X → Spelling) where
  -- one of them
  abbrev pub Agreeing : Type 0
  Agreeing = (x : X) × Agrees (reader x) (S x) items_in

  -- their readers
  abbrev pub readers : List Agreeing → List Reader
  readers xs = map reader (map (λ (x : Agreeing). x.0) xs)

  -- and themselves
  abbrev pub things : List Agreeing → List X
  things xs = map (λ (x : Agreeing). x.0) xs

  -- ---- the values of fields

  -- what is read is spelled so
  fields_took : (fields : List Agreeing) (before : List Datum) (input : List ℕ) (at : Cursor) (read : List Datum × Cursor) → at.items ≤ most_items → fields_at (readers fields) before input at ≡ Ok read
      → ListTook (SpellsEach S (things fields)) (each items_in) before input at read
  unfolding fields_at
  fields_took [] before input at read few is =
      let none : ListTook (SpellsEach S []) (each items_in) before input at (before, at) = record { more = []; grown = sym (append-nil before); took = took_nothing input at.place; counts = omega (arith, each_nil items_in); few = few } in
      subst (ListTook (SpellsEach S []) (each items_in) before input at) (ok_is (before, at) read is) none
  fields_took (field ∷ fields) before input at read few is =
      let steps = bind_ok (reader field.0 input at) _ read is in
      let first = field.1.sound input at steps.0 few steps.1 in
      let others = fields_took fields (before ++ steps.0.0 ∷ []) input steps.0.1 read first.few steps.2 in
      record {
        more = steps.0.0 ∷ others.more;
        grown = others.grown ∙ append_assoc before (steps.0.0 ∷ []) others.more;
        took = took_then input at.place steps.0.1.place read.1.place first.took others.took;
        counts = omega (arith, first.counts, others.counts, each_cons items_in steps.0.0 others.more);
        few = others.few;
      }

  -- what is spelled so is read
  fields_again : (fields : List Agreeing) (values before : List Datum) (input : List ℕ) (at after : Cursor) (bytes : List ℕ) → SpellsEach S (things fields) values bytes → Passes input at after bytes (each items_in values)
      → fields_at (readers fields) before input at ≡ Ok (before ++ values, after)
  unfolding fields_at
  fields_again [] [] before input at after bytes spelled passes =
      let same : at ≡ after = cursor_is at after (omega (arith, passes.stand.ends, ap length spelled)) (omega (arith, passes.counts, each_nil items_in)) in
      ap₂ (λ (xs : List Datum) (c : Cursor). Ok (xs, c)) (sym (append-nil before)) same
  fields_again [] (value ∷ values) before input at after bytes spelled passes = absurd spelled
  fields_again (field ∷ fields) [] before input at after bytes spelled passes = absurd spelled
  fields_again (field ∷ fields) (value ∷ values) before input at after bytes spelled passes =
      let whole = passes_as input at after bytes (spelled.front ++ spelled.rest) (each items_in (value ∷ values)) (items_in value + each items_in values) spelled.parts (each_cons items_in value values) passes in
      let middle = between at spelled.front (items_in value) in
      let first = field.1.complete input at middle value spelled.front spelled.first (passes_first input at after spelled.front spelled.rest (items_in value) (each items_in values) whole) in
      let others = fields_again fields values (before ++ value ∷ []) input middle after spelled.rest spelled.second (passes_second input at after spelled.front spelled.rest (items_in value) (each items_in values) whole) in
      ap (λ r. r >>= λ read. fields_at (readers fields) (before ++ read.0 ∷ []) input read.1) first ∙ others ∙ ap (λ (xs : List Datum). Ok (xs, after)) (append_assoc before (value ∷ []) values)

  -- the values of fields agree with their spelling
  pub agrees_fields : (fields : List Agreeing) → Agrees (fields_at (readers fields) []) (SpellsEach S (things fields)) (each items_in)
  agrees_fields fields = record {
    sound = λ input at read few is.
        let took = fields_took fields [] input at read few is in
        subst (λ (xs : List Datum). ReadTook (SpellsEach S (things fields)) (each items_in) input at (xs, read.1)) (sym took.grown) (record { took = took.took; counts = took.counts; few = took.few });
    complete = λ input at after values bytes spelled passes. fields_again fields values [] input at after bytes spelled passes;
  }

  -- ---- a value of a branch

  -- a value of the branch at a place, with the place that was chosen
  abbrev IsBranch : List Agreeing → ℕ → ℕ → Datum → List ℕ → Type 0
  IsBranch branches number chosen datum bytes = (inside : Datum) × (datum ≡ datums.Branch chosen inside) × SpellsBranch S (things branches) number inside bytes

  -- values of a branch agree with their spelling
  agrees_branch : (branches : List Agreeing) (number chosen : ℕ) → Agrees (branch_at (readers branches) number chosen) (IsBranch branches number chosen) items_in
  unfolding branch_at
  agrees_branch [] number chosen = record {
    sound = λ input at read few is. absurd cc;
    complete = λ input at after datum bytes spelled passes. absurd spelled.2;
  }
  agrees_branch (branch ∷ branches) zero chosen =
      agrees_through (reader branch.0) (S branch.0) (IsBranch (branch ∷ branches) zero chosen) items_in items_in (datums.Branch chosen) branch.1 (counts-Branch chosen) (λ inside bytes spelled. (inside, refl, spelled)) (λ datum bytes spelled. spelled)
  agrees_branch (branch ∷ branches) (suc number) chosen = agrees_branch branches number chosen

  -- a branch that has values is there
  branch_below : (branches : List Agreeing) (number : ℕ) (datum : Datum) (bytes : List ℕ) → SpellsBranch S (things branches) number datum bytes → number < length (readers branches)
  branch_below [] number datum bytes spelled = absurd spelled
  branch_below (branch ∷ branches) zero datum bytes spelled = omega arith
  branch_below (branch ∷ branches) (suc number) datum bytes spelled = omega (arith, branch_below branches number datum bytes spelled)

  -- the values of a union agree with their spelling
  pub agrees_union : (branches : List Agreeing)
      → Agrees (λ input at. choice_at (length (readers branches)) input at >>= λ choice. branch_at (readers branches) choice.0 choice.0 input choice.1) (SpellsUnion (SpellsBranch S (things branches))) items_in
  agrees_union branches =
      let many = length (readers branches) in
      agrees_as (λ input at. choice_at many input at >>= λ choice. branch_at (readers branches) choice.0 choice.0 input choice.1)
      (λ (datum : Datum) (bytes : List ℕ). (n : ℕ) × Joined (SpellsChoice many n) (IsBranch branches n n datum) bytes) (SpellsUnion (SpellsBranch S (things branches))) items_in
      (agrees_then (choice_at many) (λ (n : ℕ). branch_at (readers branches) n n) (SpellsChoice many) (λ (n : ℕ). IsBranch branches n n) items_in (agrees_choice many) (λ n. agrees_branch branches n n))
      (λ datum bytes spelled. record {
        place = spelled.0;
        inside = spelled.1.second.0;
        value = spelled.1.second.1;
        spelled = record { front = spelled.1.front; rest = spelled.1.rest; parts = spelled.1.parts; first = spelled.1.first.1; second = spelled.1.second.2 };
      })
      (λ datum bytes spelled. (
        spelled.place,
        record {
          front = spelled.spelled.front;
          rest = spelled.spelled.rest;
          parts = spelled.spelled.parts;
          first = (branch_below branches spelled.place spelled.inside spelled.spelled.rest spelled.spelled.second, spelled.spelled.first);
          second = (spelled.inside, spelled.value, spelled.spelled.second);
        },
      ))
