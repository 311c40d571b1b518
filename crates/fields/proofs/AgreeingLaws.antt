-- A record by the relation: what is read is stored so, and what is stored so is read.
use Rattle.std.proofs.Common.{◌≡◌, ℕ, Bool, true, false, ◌&&◌, List, [], ◌∷◌, Ok, refl, ap, subst, ◌∙◌, arith}
use Rattle.words.specs.Reading.{◌>>=◌, map_refusal}
use Rattle.row_types.specs.declared.cell.Cell.{Cell}
use Rattle.schema_tree.specs.declared.schema.Schema.{Schema}
use Rattle.datum_reading.specs.declared.cursor.Cursor.{Cursor}
use Rattle.datum_tree.specs.declared.datum.Datum.{Datum}
use Rattle.datum_tree.specs.Value.{items_in}
use Rattle.datum_reading.specs.Reading.{datum_at}
use Rattle.datum_tree.specs.Spelling.{Spells}
use Rattle.datum_reading.specs.Agreeing.{Passes, Agrees as DatumAgrees}
use Rattle.words.specs.Steps.{bind_then, map_ok, test_failed, ok_is}
use Rattle.words.specs.Parts.{Stand, Took}
use Rattle.fields.specs.declared.wanted.Wanted.{Wanted}
use Rattle.row_types.specs.CellRef.{is_null}
use Rattle.fields.specs.Wanted.{wanted_of, check_nulls}
use Rattle.fields.specs.Record.{datum_refusal, HasNoNull, Stores, start, checked, record_at, RecordAgrees}

-- ---- nulls

-- of two facts that aren't both, the second is none where the first is one
not_second : (a b : Bool) → (a && b) ≡ false → a ≡ true → b ≡ false
not_second true b not_both one = not_both
not_second false b not_both one = absurd cc

-- two facts, the second of which is none where the first is one, aren't both
not_both : (a b : Bool) → (a ≡ true → b ≡ false) → (a && b) ≡ false
not_both true b other = other refl
not_both false b other = refl

-- cells that were checked have no null in a required w
nulls_none : (wanted : List Wanted) (cells : List Cell) (done : Unit {0}) → check_nulls wanted cells ≡ Ok done → HasNoNull wanted cells
unfolding check_nulls
nulls_none [] cells done checked = tt
nulls_none (w ∷ wanted) [] done checked = tt
nulls_none (w ∷ wanted) (cell ∷ cells) done checked =
    let test = test_failed (w.required && is_null cell) _ _ done checked in
    (not_second w.required (is_null cell) test.0, nulls_none wanted cells done test.1)

-- cells with no null in a required w pass the check
none_nulls : (wanted : List Wanted) (cells : List Cell) → HasNoNull wanted cells → check_nulls wanted cells ≡ Ok tt
unfolding check_nulls
none_nulls [] cells none = refl
none_nulls (w ∷ wanted) [] none = refl
none_nulls (w ∷ wanted) (cell ∷ cells) none = rw (not_both w.required (is_null cell) none.0) (none_nulls wanted cells none.1)

-- cells that values have pass the check
cells_checked : (wanted : List Wanted) (cells stored : List Cell) → cells ≡ stored → HasNoNull wanted cells → checked wanted stored ≡ Ok cells
cells_checked wanted cells stored same none = subst (λ (s : List Cell). checked wanted s ≡ Ok cells) same (ap (λ r. r >>= λ _. Ok cells) (none_nulls wanted cells none))

-- ---- a record

-- reading a value agrees with the standard's encoding
abbrev pub ReadingAgrees : Type 0
ReadingAgrees = (schema : Schema) → DatumAgrees (datum_at schema) (Spells schema) items_in

-- the cells of a value
abbrev cells_of : Schema → List Wanted → Datum → List Cell
cells_of schema wanted datum = wanted_of wanted schema datum

-- a value that was read, and whose cells were checked, is a record
record_is : ReadingAgrees → (schema : Schema) (wanted : List Wanted) (input : List ℕ) (place : ℕ) (value : Datum × Cursor) (cells : List Cell) → datum_at schema input (start place) ≡ Ok value → checked wanted (cells_of schema wanted value.0) ≡ Ok cells
    → Took input place value.1.place (Stores schema wanted cells)
record_is agrees_datum schema wanted input place value cells read checks =
    let took = (agrees_datum schema).sound input (start place) value (omega arith) read in
    bind_then (check_nulls wanted (cells_of schema wanted value.0)) _ cells checks (λ done none made.
    let is : Took input place value.1.place (Stores schema wanted (cells_of schema wanted value.0)) = record {
      bytes = took.took.bytes;
      stand = took.took.stand;
      such = record {
        datum = value.0;
        encoded = record { spelled = took.took.such; few = omega (arith, took.counts, took.few) };
        stored = refl;
        nulls = nulls_none wanted (cells_of schema wanted value.0) done none;
      };
    } in
    subst (λ (c : List Cell). Took input place value.1.place (Stores schema wanted c)) (ok_is (cells_of schema wanted value.0) cells made) is)

-- what is read is stored so
record_took : ReadingAgrees → (schema : Schema) (wanted : List Wanted) (input : List ℕ) (place : ℕ) (read : List Cell × ℕ) → record_at schema wanted input place ≡ Ok read → Took input place read.1 (Stores schema wanted read.0)
unfolding record_at
record_took agrees_datum schema wanted input place read is =
    bind_then (map_refusal datum_refusal (datum_at schema input (start place))) _ read is (λ value value_read others.
    bind_then (checked wanted (cells_of schema wanted value.0)) _ read others (λ cells checks made.
    subst (λ (r : List Cell × ℕ). Took input place r.1 (Stores schema wanted r.0)) (ok_is (cells, value.1.place) read made)
    (record_is agrees_datum schema wanted input place value cells (map_ok datum_refusal (datum_at schema input (start place)) value value_read) checks)))

-- what is stored so is read
record_again : ReadingAgrees → (schema : Schema) (wanted : List Wanted) (input : List ℕ) (place after : ℕ) (cells : List Cell) (bytes : List ℕ) → Stores schema wanted cells bytes → Stand input place after bytes → record_at schema wanted input place ≡ Ok (cells, after)
unfolding record_at
record_again agrees_datum schema wanted input place after cells bytes stores stand =
    let behind : Cursor = record { place = after; items = items_in stores.datum } in
    let passes : Passes input (start place) behind bytes (items_in stores.datum) = record { stand = stand; counts = omega arith; few = stores.encoded.few } in
    let read = (agrees_datum schema).complete input (start place) behind stores.datum bytes stores.encoded.spelled passes in
    ap (λ r. map_refusal datum_refusal r >>= λ value. checked wanted (cells_of schema wanted value.0) >>= λ cells. Ok (cells, value.1.place)) read
    ∙ ap (λ r. r >>= λ cells. Ok (cells, after)) (cells_checked wanted cells (cells_of schema wanted stores.datum) stores.stored stores.nulls)

-- reading a record agrees with what bytes store
pub agrees_record : ReadingAgrees → (schema : Schema) (wanted : List Wanted) → RecordAgrees schema wanted
agrees_record agrees_datum schema wanted = record {
  sound = λ input place read is. record_took agrees_datum schema wanted input place read is;
  complete = λ input place after cells bytes stores stand. record_again agrees_datum schema wanted input place after cells bytes stores stand;
}
