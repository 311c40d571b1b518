-- What a call that reads a value answers, by the relation; and that one spelling ends where another does.
use Rattle.std.proofs.Common.{◌≡◌, ℕ, ◌+◌, true, List, ◌++◌, length, drop, slice_range, Result, Ok, Err, refl, sym}
use Rattle.std.proofs.Common.{ap, subst, ◌∙◌, arith}
use Rattle.std.specs.Prelude.{IfOk}
use Rattle.words.specs.Reading.{Gives, map_value}
use Rattle.schema_tree.specs.declared.schema.Schema.{Schema}
use Rattle.datum_reading.specs.declared.cursor.Cursor.{Cursor}
use Rattle.datum_tree.specs.declared.datum.Datum.{Datum}
use Rattle.datum_reading.specs.declared.refusal.DatumRefusal.{DatumRefusal}
use Rattle.datum_reading.specs.Refusal.{is_memory}
use Rattle.datum_tree.specs.Value.{items_in}
use Rattle.datum_reading.specs.Reading.{datum_at}
use Rattle.datum_tree.specs.Fits.{fits}
use Rattle.datum_tree.specs.Spelling.{Spells, IsEncoding}
use Rattle.words.specs.Parts.{range_is}
use Rattle.words.specs.Steps.{value_ok, ok_is}
use Rattle.datum_reading.specs.Agreeing.{Passes}
use Rattle.datum_reading.proofs.SpelledDatum.{agrees_datum}

-- where a value begins
abbrev start : ℕ → Cursor
start place = record { place = place; items = 0 }

-- the value at a place, and the place after it
abbrev decoded : Schema → List ℕ → ℕ → Result (Datum × ℕ) DatumRefusal
decoded schema input place = map_value (λ read. (read.0, read.1.place)) (datum_at schema input (start place))

-- what is answered is spelled by the bytes before the answered place
pub found : (schema : Schema) (input : List ℕ) (place : ℕ) (result : Result (Datum × ℕ) DatumRefusal) → Gives is_memory (λ x. x) result (decoded schema input place) → IfOk result (λ read. IsEncoding schema read.0 (slice_range input place read.1))
found schema input place (Err e) gives = tt
found schema input place (Ok read) gives =
    let inner = value_ok (λ read. (read.0, read.1.place)) (datum_at schema input (start place)) read gives in
    let took = (agrees_datum schema).sound input (start place) inner.0 (omega arith) inner.1 in
    let range : slice_range input place inner.0.1.place ≡ took.took.bytes = range_is input place inner.0.1.place took.took.bytes took.took.stand in
    subst (λ (read : Datum × ℕ). IsEncoding schema read.0 (slice_range input place read.1)) inner.2 (record {
      spelled = subst (Spells schema inner.0.0) (sym range) took.took.such;
      few = omega (arith, took.counts, took.few);
    })

-- and it fits
pub found_fits : ((schema : Schema) (datum : Datum) (bytes : List ℕ) → IsEncoding schema datum bytes → fits schema datum ≡ true)
    → (schema : Schema) (input : List ℕ) (place : ℕ) (result : Result (Datum × ℕ) DatumRefusal) → Gives is_memory (λ x. x) result (decoded schema input place) → IfOk result (λ read. fits schema read.0 ≡ true)
found_fits fit schema input place (Err e) gives = tt
found_fits fit schema input place (Ok read) gives = fit schema read.0 (slice_range input place read.1) (found schema input place (Ok read) gives)

-- bytes that spell a value are passed from a place where they stand
passes : (input : List ℕ) (place : ℕ) (schema : Schema) (datum : Datum) (bytes after : List ℕ) → drop place input ≡ bytes ++ after → IsEncoding schema datum bytes
    → Passes input (start place) (record { place = place + length bytes; items = items_in datum }) bytes (items_in datum)
passes input place schema datum bytes after parts encoding = record { stand = record { rest = after; parts = parts; ends = refl }; counts = omega arith; few = encoding.few }

-- what is spelled is read
read_again : (schema : Schema) (input : List ℕ) (place : ℕ) (datum : Datum) (bytes after : List ℕ) → drop place input ≡ bytes ++ after → IsEncoding schema datum bytes → decoded schema input place ≡ Ok (datum, place + length bytes)
read_again schema input place datum bytes after parts encoding =
    ap (map_value (λ read. (read.0, read.1.place)))
    ((agrees_datum schema).complete input (start place) (record { place = place + length bytes; items = items_in datum }) datum bytes encoding.spelled (passes input place schema datum bytes after parts encoding))

-- what is spelled is answered
pub only : (schema : Schema) (input : List ℕ) (place : ℕ) (result : Result (Datum × ℕ) DatumRefusal) → Gives is_memory (λ x. x) result (decoded schema input place)
    → (datum : Datum) (bytes after : List ℕ) → drop place input ≡ bytes ++ after → IsEncoding schema datum bytes → Gives is_memory (λ x. x) result (Ok (datum, place + length bytes))
only schema input place result gives datum bytes after parts encoding = subst (λ (total : Result (Datum × ℕ) DatumRefusal). Gives is_memory (λ x. x) result total) (read_again schema input place datum bytes after parts encoding) gives

-- bytes at the front of an input stand there
front_is : (input bytes rest : List ℕ) → input ≡ bytes ++ rest → slice_range input 0 (0 + length bytes) ≡ bytes
front_is input bytes rest parts = range_is input 0 (0 + length bytes) bytes (record { rest = rest; parts = parts; ends = refl })

-- two spellings at the front of one list are one
pub spellings_agree : (schema : Schema) (datum other : Datum) (a b after rest : List ℕ) → IsEncoding schema datum a → IsEncoding schema other b → a ++ after ≡ b ++ rest → (a ≡ b) × (datum ≡ other)
spellings_agree schema datum other a b after rest first second same =
    let one = read_again schema (a ++ after) 0 datum a after refl first in
    let two = read_again schema (a ++ after) 0 other b rest same second in
    let both : (datum, 0 + length a) ≡ (other, 0 + length b) = ok_is _ _ (sym one ∙ two) in
    let ends : 0 + length a ≡ 0 + length b = ap (λ (read : Datum × ℕ). read.1) both in
    (sym (front_is (a ++ after) a after refl) ∙ ap (slice_range (a ++ after) 0) ends ∙ front_is (a ++ after) b rest same, ap (λ (read : Datum × ℕ). read.0) both)
