-- What is put of a row: the bytes of its value under the file's schema, which spell it.
use Rattle.std.proofs.Common.{◌≡◌, ℕ, ◌-◌, ◌^◌, ◌<◌, ◌≤◌, Bool, true, false, not, List, [], ◌∷◌, ◌++◌, map, All}
use Rattle.std.proofs.Common.{refl, sym, ap, ap₂, subst, ◌∙◌, append_assoc, arith}
use Rattle.std.specs.Prelude.{ℤ, pos, negsuc, Option, None, Some, nat_lt, codes, if◌then◌else◌}
use Rattle.std.proofs.lemmas.Bool.{false≢true, and_parts, not-true, ltb-true, ltb-false}
use Rattle.std.proofs.lemmas.Int.{ints}
use Rattle.std.proofs.lemmas.List.{append-nil}
use Rattle.std.proofs.lemmas.List.Elements.{All-head, All-tail}
use Rattle.row_types.specs.declared.cell.Cell.{Cell}
use Rattle.row_types.specs.declared.cell.Cell.TheVariants as cells
use Rattle.row_types.specs.declared.column.Column.{Column}
use Rattle.row_types.specs.declared.column.Kind.{Kind}
use Rattle.row_types.specs.declared.row.StoredRow.{StoredRow}
use Rattle.row_types.specs.Fits.{is_int, is_long, has_flags, has_number, has_texts, has_bytes, fits as cell_fits, fits_row}
use Rattle.avro_wire.specs.Number.{int, long, SpellsNumber}
use Rattle.avro_wire.specs.Writing.{number_text, bytes_text, groups_of, groups_within}
use Rattle.avro_wire.specs.WritingLaws.{int_spelled, long_spelled, bytes_spelled}
use Rattle.schema_tree.specs.declared.schema.Schema.{Schema, roll-Schema}
use Rattle.schema_tree.specs.declared.schema.Schema.TheOpen as layers
use Rattle.schema_tree.specs.declared.schema.Schema.TheOpen.{Schema-F}
use Rattle.schema_tree.specs.declared.schema.Schema.TheVariants as schemas
use Rattle.schema_tree.specs.declared.schema.Schema.TheFolds.{map-Schema, fold-roll-Schema, fold_out-Field}
use Rattle.schema_tree.specs.declared.schema.Field.{Field, out-Field}
use Rattle.schema_tree.specs.declared.logical.Logical.TheVariants.{Plain}
use Rattle.datum_tree.specs.declared.datum.Datum.{Datum, out-Datum}
use Rattle.datum_tree.specs.declared.datum.Datum.TheOpen as values
use Rattle.datum_tree.specs.declared.datum.Datum.TheVariants as datums
use Rattle.datum_tree.specs.Value.{Level, most_items}
use Rattle.datum_tree.specs.Fits.{Test, fits_level, fits_schema, field_fits}
use Rattle.datum_tree.specs.FitsEquations.{fits_rolled}
use Rattle.datum_tree.specs.Spelling.{Spelling, SpellsEach, flag_byte, Spells, SpellsField}
use Rattle.datum_tree.specs.SpellingLaws.{SpellsLayer, spells_layer, spells_field}
use Rattle.datum_writing.specs.Canonical.{Encoder, each_text, level_text, text_of, field_text, canonical, field_canonical}
use Rattle.datum_writing.specs.Spelled.{IsSized, IsSizedText}
use Rattle.stored_rows.specs.Field.{row_id_field, last_updated_field}
use Rattle.avro_cells.specs.Kind.{written_type, optional_type}
use Rattle.avro_cells.specs.KindLaws.{written_level, rolls_written, is_cell_level, level_written}
use Rattle.avro_cells.specs.ValueLaws.{written_number_fits, written_flag_fits, written_text_fits}
use Rattle.avro_cells.specs.ValueLaws.{written_bytes_fit}
use Rattle.row_writing.specs.Writing.{row_id_name, last_updated_name, field_of, kept}
use Rattle.row_writing.specs.Writing.{file_schema, column_field, lineage_fields, are_plain_names, cell_datum}
use Rattle.row_writing.specs.Writing.{optional_datum, cell_data, number_datum, lineage_data, row_datum}
use Rattle.row_writing.specs.RowBytes.{column_bytes, cells_bytes, number_bytes, lineage_bytes, row_bytes}
use Rattle.row_writing.specs.Written.{IsLong, HasLongs, IsSizedCell, row_text, IsEncodedRow}
use Rattle.row_writing.proofs.WrittenItems.{no_items}
use Rattle.row_writing.proofs.WrittenRows.{both_true, out_null, out_branch, out_record}

-- ---- bytes of a value

-- these are the value's bytes, and spell it
record AreBytes (schema : Schema) (datum : Datum) (bytes : List ℕ) : Type 0 where
  text : canonical schema datum ≡ bytes
  spelled : Spells schema datum bytes

-- the writers of a level
abbrev texts : Schema-F Schema Field → Schema-F Encoder Encoder
texts level = map-Schema Schema Field Encoder Encoder canonical field_canonical level

-- bytes of a value, by what the schema and the value are made of
bytes_made : (schema : Schema) (level : Schema-F Schema Field) → roll-Schema level ≡ schema → (datum : Datum) (inside : Level) → out-Datum datum ≡ inside → (bytes : List ℕ)
    → level_text (texts level) inside ≡ bytes → SpellsLayer level datum bytes → AreBytes schema datum bytes
bytes_made schema level made datum inside is bytes text spelled = record {
  text = ap (λ (s : Schema). canonical s datum) (sym made) ∙ (ap (λ (f : Encoder). f datum) (fold-roll-Schema Encoder Encoder text_of field_text level) ∙ (ap (level_text (texts level)) is ∙ text));
  spelled = subst (λ (s : Schema). Spells s datum bytes) made (subst (λ (S : Spelling). S datum bytes) (sym (spells_layer level)) spelled);
}

-- the tests of a level
abbrev tests : Schema-F Schema Field → Schema-F Test Test
tests level = map-Schema Schema Field Test Test fits_schema field_fits level

-- what fits a schema fits its level
level_fits : (schema : Schema) (level : Schema-F Schema Field) → roll-Schema level ≡ schema → (datum : Datum) (inside : Level) → out-Datum datum ≡ inside → fits_schema schema datum ≡ true → fits_level (tests level) inside ≡ true
level_fits schema level made datum inside is fit = sym (ap (fits_level (tests level)) is) ∙ (sym (fits_rolled level datum) ∙ (ap (λ (s : Schema). fits_schema s datum) made ∙ fit))

-- ---- numbers

-- a number of 32 bits is an int
int_number : (number : ℤ) → is_int number ≡ true → SpellsNumber int (number_text number) number
int_number (pos n) fit = let below : n < 2 ^ 31 = ltb-true n (2 ^ 31) fit in int_spelled (pos n) (omega (arith, ints)) (omega (arith, ints))
int_number (negsuc n) fit =
    let low : n ≤ 2 ^ 31 - 1 = ltb-false _ _ (not-true _ (and_parts (not (nat_lt (2 ^ 31 - 1) n)) true fit).0) in
    int_spelled (negsuc n) (omega (arith, ints)) (omega (arith, ints))

-- and one of 64 bits a long
long_number : (number : ℤ) → is_long number ≡ true → SpellsNumber long (number_text number) number
long_number (pos n) fit = let below : n < 2 ^ 63 = ltb-true n (2 ^ 63) fit in long_spelled (pos n) (omega (arith, ints)) (omega (arith, ints))
long_number (negsuc n) fit =
    let low : n ≤ 2 ^ 63 - 1 = ltb-false _ _ (not-true _ (and_parts (not (nat_lt (2 ^ 63 - 1) n)) true fit).0) in
    long_spelled (negsuc n) (omega (arith, ints)) (omega (arith, ints))

-- ---- cells of a type of cells

-- a number, in a type of numbers
number_in : (schema : Schema) (level : Schema-F Schema Field) → roll-Schema level ≡ schema → is_cell_level level ≡ true → (number : ℤ) → fits_level (tests level) (values.Num number) ≡ true → AreBytes schema (datums.Num number) (number_text number)
number_in schema (layers.Int logical) made holds number fit =
    bytes_made schema (layers.Int logical) made (datums.Num number) (values.Num number) (datums.outs-Num number) (number_text number) refl
    (record { number = number; value = refl; spelled = int_number number fit })
number_in schema (layers.Long logical) made holds number fit =
    bytes_made schema (layers.Long logical) made (datums.Num number) (values.Num number) (datums.outs-Num number) (number_text number) refl
    (record { number = number; value = refl; spelled = long_number number fit })
number_in schema (layers.Enum name symbols) made holds number fit = absurd (false≢true holds)
number_in schema _ made holds number fit = absurd (false≢true fit)

-- a boolean, in the type of booleans
flag_in : (schema : Schema) (level : Schema-F Schema Field) → roll-Schema level ≡ schema → (flag : Bool) → fits_level (tests level) (values.Flag flag) ≡ true → AreBytes schema (datums.Flag flag) (flag_byte flag ∷ [])
flag_in schema layers.Boolean made flag fit =
    bytes_made schema layers.Boolean made (datums.Flag flag) (values.Flag flag) (datums.outs-Flag flag) (flag_byte flag ∷ []) refl
    (record { flag = flag; value = refl; spelled = refl })
flag_in schema _ made flag fit = absurd (false≢true fit)

-- a text, in the type of texts
text_in : (schema : Schema) (level : Schema-F Schema Field) → roll-Schema level ≡ schema → (text : List ℕ) → fits_level (tests level) (values.Str text) ≡ true → IsSizedText text → AreBytes schema (datums.Str text) (bytes_text text)
text_in schema layers.Str made text fit sized =
    bytes_made schema layers.Str made (datums.Str text) (values.Str text) (datums.outs-Str text) (bytes_text text) refl
    (record { text = text; value = refl; spelled = record { is_text = sized.1; spelled = bytes_spelled text sized.0 } })
text_in schema _ made text fit sized = absurd (false≢true fit)

-- bytes, in the type of bytes: a type of cells has no bytes without their length
raw_in : (schema : Schema) (level : Schema-F Schema Field) → roll-Schema level ≡ schema → is_cell_level level ≡ true → (bytes : List ℕ) → fits_level (tests level) (values.Raw bytes) ≡ true → IsSized bytes
    → AreBytes schema (datums.Raw bytes) (bytes_text bytes)
raw_in schema layers.Raw made holds bytes fit sized =
    bytes_made schema layers.Raw made (datums.Raw bytes) (values.Raw bytes) (datums.outs-Raw bytes) (bytes_text bytes) refl
    (record { inside = bytes; value = refl; spelled = bytes_spelled bytes sized })
raw_in schema layers.Float made holds bytes fit sized = absurd (false≢true holds)
raw_in schema layers.Double made holds bytes fit sized = absurd (false≢true holds)
raw_in schema (layers.Fixed name size) made holds bytes fit sized = absurd (false≢true holds)
raw_in schema _ made holds bytes fit sized = absurd (false≢true fit)

-- ---- cells of a kind

module _ (kind : Kind) where
  -- its type is one of cells
  cells_type : is_cell_level (written_level kind) ≡ true
  cells_type = (level_written kind (written_type kind)).cells

  -- what fits its type fits the level of that
  type_fits : (datum : Datum) (inside : Level) → out-Datum datum ≡ inside → fits_schema (written_type kind) datum ≡ true → fits_level (tests (written_level kind)) inside ≡ true
  type_fits datum inside is fit = level_fits (written_type kind) (written_level kind) (rolls_written kind) datum inside is fit

  flag_cell : (flag : Bool) → has_flags kind ≡ true → AreBytes (written_type kind) (datums.Flag flag) (flag_byte flag ∷ [])
  flag_cell flag fit =
      flag_in (written_type kind) (written_level kind) (rolls_written kind) flag (type_fits (datums.Flag flag) (values.Flag flag) (datums.outs-Flag flag) (written_flag_fits kind flag fit))

  number_cell : (number : ℤ) → has_number kind number ≡ true → AreBytes (written_type kind) (datums.Num number) (number_text number)
  number_cell number fit =
      number_in (written_type kind) (written_level kind) (rolls_written kind) cells_type number (type_fits (datums.Num number) (values.Num number) (datums.outs-Num number) (written_number_fits kind number fit))

  text_cell : (text : List ℕ) → has_texts kind ≡ true → IsSizedText text → AreBytes (written_type kind) (datums.Str text) (bytes_text text)
  text_cell text fit sized =
      text_in (written_type kind) (written_level kind) (rolls_written kind) text (type_fits (datums.Str text) (values.Str text) (datums.outs-Str text) (written_text_fits kind text fit)) sized

  bytes_cell : (bytes : List ℕ) → has_bytes kind ≡ true → IsSized bytes → AreBytes (written_type kind) (datums.Raw bytes) (bytes_text bytes)
  bytes_cell bytes fit sized =
      raw_in (written_type kind) (written_level kind) (rolls_written kind) cells_type bytes (type_fits (datums.Raw bytes) (values.Raw bytes) (datums.outs-Raw bytes) (written_bytes_fit kind bytes fit)) sized

-- ---- beside null

-- the null has no bytes
null_bytes : AreBytes schemas.Null datums.Null []
null_bytes = bytes_made schemas.Null layers.Null schemas.rolls-Null datums.Null values.Null out_null [] refl (refl, refl)

-- the places of the two branches
first_place : number_text (pos 0) ≡ 0 ∷ []
unfolding number_text groups_of groups_within
first_place = refl

second_place : number_text (pos 1) ≡ 2 ∷ []
unfolding number_text groups_of groups_within
second_place = refl

-- a null
null_beside : (type : Schema) → AreBytes (optional_type type) (datums.Branch 0 datums.Null) (0 ∷ [])
null_beside type =
    let branches : List Schema = schemas.Null ∷ type ∷ [] in
    bytes_made (schemas.Union branches) (layers.Union branches) (schemas.rolls-Union branches) (datums.Branch 0 datums.Null) (values.Branch 0 datums.Null) (out_branch 0 datums.Null) (0 ∷ [])
    (ap₂ (λ (place inside : List ℕ). place ++ inside) first_place null_bytes.text)
    (record {
      place = 0;
      inside = datums.Null;
      value = refl;
      spelled = record { front = number_text (pos 0); rest = []; parts = ap (λ (place : List ℕ). place ++ []) (sym first_place); first = int_number (pos 0) refl; second = null_bytes.spelled };
    })

-- another value
value_beside : (type : Schema) (value : Datum) (bytes : List ℕ) → AreBytes type value bytes → AreBytes (optional_type type) (datums.Branch 1 value) (2 ∷ bytes)
value_beside type value bytes inside =
    let branches : List Schema = schemas.Null ∷ type ∷ [] in
    bytes_made (schemas.Union branches) (layers.Union branches) (schemas.rolls-Union branches) (datums.Branch 1 value) (values.Branch 1 value) (out_branch 1 value) (2 ∷ bytes)
    (ap₂ (λ (place inside : List ℕ). place ++ inside) second_place inside.text)
    (record {
      place = 1;
      inside = value;
      value = refl;
      spelled = record { front = number_text (pos 1); rest = bytes; parts = ap (λ (place : List ℕ). place ++ bytes) (sym second_place); first = int_number (pos 1) refl; second = inside.spelled };
    })

-- a cell in a column, whether that is required or not
in_column : (required : Bool) (kind : Kind) (cell : Cell) → cell_fits (record { id = pos 0; name = []; kind = kind; required = required }) cell ≡ true → IsSizedCell cell
    → AreBytes (if required then written_type kind else optional_type (written_type kind)) (if required then cell_datum cell else optional_datum cell) (column_bytes required cell)
in_column true kind cells.Null fit sized = absurd cc
in_column true kind (cells.Flag flag) fit sized = flag_cell kind flag fit
in_column true kind (cells.Num number) fit sized = number_cell kind number fit
in_column true kind (cells.Text text) fit sized = text_cell kind text fit sized
in_column true kind (cells.Bytes bytes) fit sized = bytes_cell kind bytes fit sized
in_column false kind cells.Null fit sized = null_beside (written_type kind)
in_column false kind (cells.Flag flag) fit sized = value_beside (written_type kind) (datums.Flag flag) (flag_byte flag ∷ []) (flag_cell kind flag fit)
in_column false kind (cells.Num number) fit sized = value_beside (written_type kind) (datums.Num number) (number_text number) (number_cell kind number fit)
in_column false kind (cells.Text text) fit sized = value_beside (written_type kind) (datums.Str text) (bytes_text text) (text_cell kind text fit sized)
in_column false kind (cells.Bytes bytes) fit sized = value_beside (written_type kind) (datums.Raw bytes) (bytes_text bytes) (bytes_cell kind bytes fit sized)

-- a number that may be absent
number_beside : (number : Option ℤ) → IsLong number → AreBytes (optional_type (schemas.Long Plain)) (number_datum number) (number_bytes number)
number_beside None fit = null_beside (schemas.Long Plain)
number_beside (Some number) fit = value_beside (schemas.Long Plain) (datums.Num number) (number_text number)
    (number_in (schemas.Long Plain) (layers.Long Plain) (schemas.rolls-Long Plain) refl number fit)

-- ---- the fields of a row

-- these are the bytes of the fields' values, in order
record AreAllBytes (fields : List Field) (held : List Datum) (bytes : List ℕ) : Type 0 where
  text : each_text (map field_canonical fields) held ≡ bytes
  spelled : SpellsEach SpellsField fields held bytes

-- one field more, in front
field_more : (field : Field) (value : Datum) (front : List ℕ) (fields : List Field) (held : List Datum) (rest : List ℕ) → AreBytes (out-Field field).schema value front → AreAllBytes fields held rest
    → AreAllBytes (field ∷ fields) (value ∷ held) (front ++ rest)
field_more field value front fields held rest first others = record {
  text = ap₂ (λ (x y : List ℕ). x ++ y) (ap (λ (f : Encoder). f value) (fold_out-Field Encoder Encoder text_of field_text field) ∙ first.text) others.text;
  spelled = record { front = front; rest = rest; parts = refl; first = subst (λ (S : Spelling). S value front) (sym (spells_field field)) first.spelled; second = others.spelled };
}

-- the cells of columns, and what stands behind them
columns_bytes : (plain : Bool) (columns : List Column) (row : List Cell) (more : List Field) (held : List Datum) (rest : List ℕ) → fits_row columns row ≡ true → All IsSizedCell row → AreAllBytes more held rest
    → AreAllBytes (map (column_field plain) columns ++ more) (cell_data columns row ++ held) (cells_bytes columns row ++ rest)
unfolding fits_row
columns_bytes plain [] [] more held rest fit sized behind = behind
columns_bytes plain [] (cell ∷ row) more held rest fit sized behind = absurd cc
columns_bytes plain (column ∷ columns) [] more held rest fit sized behind = absurd cc
columns_bytes plain (column ∷ columns) (cell ∷ row) more held rest fit sized behind =
    let passed = both_true (cell_fits column cell) (fits_row columns row) fit in
    let value : Datum = if column.required then cell_datum cell else optional_datum cell in
    let fields : List Field = map (column_field plain) columns ++ more in
    let first : AreBytes (out-Field (column_field plain column)).schema value (column_bytes column.required cell) = in_column column.required column.kind cell passed.0 (All-head IsSizedCell cell row sized) in
    let others = columns_bytes plain columns row more held rest passed.1 (All-tail IsSizedCell cell row sized) behind in
    subst (AreAllBytes (column_field plain column ∷ fields) (value ∷ (cell_data columns row ++ held))) (sym (append_assoc (column_bytes column.required cell) (cells_bytes columns row) rest))
    (field_more (column_field plain column) value (column_bytes column.required cell) fields (cell_data columns row ++ held) (cells_bytes columns row ++ rest) first others)

-- the numbers beside the cells
lineage_put : (lineage : Bool) (row : StoredRow) → HasLongs (kept lineage row) → AreAllBytes (lineage_fields lineage) (lineage_data lineage row) (lineage_bytes lineage row)
lineage_put false row longs = record { text = refl; spelled = refl }
lineage_put true row longs =
    let type : Schema = optional_type (schemas.Long Plain) in
    let id : Field = field_of row_id_name row_id_field type in
    let last : Field = field_of last_updated_name last_updated_field type in
    let none : AreAllBytes [] [] [] = record { text = refl; spelled = refl } in
    let behind = field_more last (number_datum row.last) (number_bytes row.last) [] [] [] (number_beside row.last longs.1) none in
    subst (λ (bytes : List ℕ). AreAllBytes (lineage_fields true) (lineage_data true row) (number_bytes row.id ++ bytes)) (append-nil (number_bytes row.last))
    (field_more id (number_datum row.id) (number_bytes row.id) (last ∷ []) (number_datum row.last ∷ []) (number_bytes row.last ++ []) (number_beside row.id longs.0) behind)

-- ---- the row

-- what is put of a row is its text, and an encoding of its value
pub record IsPut (columns : List Column) (lineage : Bool) (row : StoredRow) : Type 0 where
  pub text : row_text columns lineage row ≡ row_bytes columns lineage row
  pub encoded : IsEncodedRow columns lineage row

-- it is so for a row that fits
pub row_put : (columns : List Column) (lineage : Bool) (row : StoredRow) → fits_row columns row.cells ≡ true → All IsSizedCell row.cells → HasLongs (kept lineage row) → IsPut columns lineage row
row_put columns lineage row fit sized longs =
    let plain = are_plain_names columns in
    let fields : List Field = map (column_field plain) columns ++ lineage_fields lineage in
    let held : List Datum = cell_data columns row.cells ++ lineage_data lineage row in
    let all = columns_bytes plain columns row.cells (lineage_fields lineage) (lineage_data lineage row) (lineage_bytes lineage row) fit sized (lineage_put lineage row longs) in
    let whole : AreBytes (file_schema columns lineage) (row_datum columns lineage row) (row_bytes columns lineage row) =
    bytes_made (schemas.Rec (codes "row") fields) (layers.Rec (codes "row") fields) (schemas.rolls-Rec (codes "row") fields) (datums.Rec held) (values.Rec held) (out_record held) (row_bytes columns lineage row) all.text
    (record { values = held; value = refl; spelled = all.spelled }) in
    record {
      text = whole.text;
      encoded = record {
        spelled = subst (Spells (file_schema columns lineage) (row_datum columns lineage row)) (sym whole.text) whole.spelled;
        few = subst (λ (n : ℕ). n ≤ most_items) (sym (no_items columns lineage row)) (omega arith);
      };
    }
