-- Numbers, and the places of symbols and branches, agree with their spellings.
use Rattle.std.proofs.Common.{◌≡◌, ℕ, ◌+◌, ◌<◌, List, length, true, Ok, nat_lt, refl, sym, ap, subst}
use Rattle.std.proofs.Common.{ltb-true, lt-ltb, arith}
use Rattle.std.specs.Prelude.{ℤ, pos, negsuc}
use Rattle.words.specs.Reading.{map_value, map_refusal}
use Rattle.avro_wire.specs.Number.{Bounds, int, SpellsNumber}
use Rattle.avro_wire.specs.Reading.{number_at}
use Rattle.avro_wire.specs.ReadingLaws.{number_again}
use Rattle.avro_wire.specs.TookLaws.{number_took}
use Rattle.datum_reading.specs.declared.cursor.Cursor.{Cursor}
use Rattle.datum_reading.specs.declared.refusal.DatumRefusal.TheVariants.{Branch}
use Rattle.datum_reading.specs.Refusal.{wire_refusal}
use Rattle.datum_reading.specs.Reading.{moved, number_from, within, choice_at}
use Rattle.words.specs.Steps.{bind_ok, value_ok, map_ok, test_passed}
use Rattle.datum_reading.specs.Agreeing.{ReadTook, Agrees, no_items, cursor_is}

-- a cursor moved to the place where another stands
pub moved_is : (at after : Cursor) (place : ℕ) → place ≡ after.place → after.items ≡ at.items + 0 → moved at place ≡ after
moved_is at after place here same = cursor_is (moved at place) after here (omega arith)

-- numbers agree with their spellings
pub agrees_number : (bounds : Bounds) → Agrees (number_from bounds) (λ number bytes. SpellsNumber bounds bytes number) no_items
unfolding number_from
agrees_number bounds = record {
  sound = λ input at read few is.
      let inner = value_ok (λ taken. (taken.0, moved at taken.1)) (map_refusal wire_refusal (number_at bounds input at.place)) read is in
      let took = number_took bounds input at.place inner.0 (map_ok wire_refusal (number_at bounds input at.place) inner.0 inner.1) in
      subst (ReadTook (λ number bytes. SpellsNumber bounds bytes number) no_items input at) inner.2 (record { took = took; counts = omega arith; few = few });
  complete = λ input at after number bytes spelled passes.
      let again = number_again bounds input at.place bytes passes.stand.rest number passes.stand.parts spelled in
      rw again (ap (λ (c : Cursor). Ok (number, c)) (moved_is at after (at.place + length bytes) (sym passes.stand.ends) passes.counts));
}

-- a number of so many places
abbrev IsPlace : ℕ → ℤ → ℕ → Type 0
IsPlace many number place = (place < many) × (number ≡ pos place)

-- a number that is the place of one of so many
within_ok : (place many : ℕ) (number : ℤ) (n : ℕ) → within place many number ≡ Ok n → IsPlace many number n
within_ok place many (pos m) n is =
    let passed = test_passed (nat_lt m many) (Ok m) (Branch place) n is in
    let same : m ≡ n = cc in
    (subst (λ (k : ℕ). k < many) same (ltb-true m many passed.0), ap (λ (k : ℕ). pos k) same)
within_ok place many (negsuc m) n is = absurd cc

-- the bytes of a place of so many
abbrev pub SpellsChoice : ℕ → ℕ → List ℕ → Type 0
SpellsChoice many n bytes = (n < many) × SpellsNumber int bytes (pos n)

-- places of so many agree with their spellings
pub agrees_choice : (many : ℕ) → Agrees (choice_at many) (SpellsChoice many) no_items
unfolding choice_at
agrees_choice many = record {
  sound = λ input at read few is.
      let steps = bind_ok (number_from int input at) (λ number. map_value (λ n. (n, number.1)) (within at.place many number.0)) read is in
      let took = (agrees_number int).sound input at steps.0 few steps.1 in
      let inner = value_ok (λ n. (n, steps.0.1)) (within at.place many steps.0.0) read steps.2 in
      let is_place = within_ok at.place many steps.0.0 inner.0 inner.1 in
      subst (ReadTook (SpellsChoice many) no_items input at) inner.2 (record {
        took = record { bytes = took.took.bytes; stand = took.took.stand; such = (is_place.0, subst (SpellsNumber int took.took.bytes) is_place.1 took.took.such) };
        counts = took.counts;
        few = took.few;
      });
  complete = λ input at after n bytes spelled passes.
      let number = (agrees_number int).complete input at after (pos n) bytes spelled.1 passes in
      let below : nat_lt n many ≡ true = lt-ltb n many spelled.0 in
      rw (number, below) refl;
}
