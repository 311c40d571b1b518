-- Fields that are read as others: all cells of a record, and the place behind it, are the same.
use Rattle.std.proofs.Common.{◌≡◌, ℕ, List, [], ◌∷◌, ◌++◌, length, Result, Ok, Err, is_some, false, refl, sym, ap, ◌∙◌, subst, arith, append_assoc, length-append}
use Rattle.std.specs.declared.option.Option.{Option}
use Rattle.std.specs.declared.option.Option.TheVariants.{Some, None}
use Rattle.std.proofs.lemmas.List.{append-nil}
use Rattle.words.specs.Reading.{◌>>=◌, map_value}
use Rattle.row_types.specs.declared.cell.Cell.{Cell}
use Rattle.row_types.specs.declared.cell.Cell.TheVariants as cells
use Rattle.schema_tree.specs.declared.schema.Schema.{Schema}
use Rattle.datum_reading.specs.declared.cursor.Cursor.{Cursor}
use Rattle.datum_tree.specs.declared.datum.Datum.{Datum}
use Rattle.datum_reading.specs.declared.refusal.DatumRefusal.{DatumRefusal}
use Rattle.datum_reading.specs.Reading.{fields_at, datum_at}
use Rattle.datum_reading.specs.Readers.{passed}
use Rattle.datum_reading.specs.Compact.{IsPassedAs}
use Rattle.avro_cells.specs.declared.form.Form.{Form}
use Rattle.avro_cells.specs.Form.{form_of}
use Rattle.fields.specs.declared.leaf.Leaf.{Leaf}
use Rattle.fields.specs.Flat.{leaf_readers}
use Rattle.fields.specs.Record.{read_as, read_cells, field_as, fields_as, IsTypeReadAs, AreReadAs, AddsReadAs}

-- ---- one type

-- a type is read as itself
pub reads_itself : (type : Schema) → IsTypeReadAs type type
reads_itself type = record { form = refl; read = λ input at. refl }

-- without a cell only counts where a value ends
only_passed : (read other : Result (Datum × Cursor) DatumRefusal) → passed read ≡ passed other → field_as None read ≡ field_as None other
only_passed (Ok x) (Ok y) same = ap (map_value (λ (at : Cursor). (cells.Null, at))) same
only_passed (Ok x) (Err e) same = absurd cc
only_passed (Err e) (Ok y) same = absurd cc
only_passed (Err e) (Err d) same = ap (map_value (λ (at : Cursor). (cells.Null, at))) same

-- a form that isn't there
pub none_form : (form : Option Form) → is_some form ≡ false → form ≡ None
none_form None none = refl
none_form (Some form) none = absurd cc

-- a type without cells is read as one that is passed as it is
pub reads_passed : (type other : Schema) → form_of type ≡ None → form_of other ≡ None → IsPassedAs type other → IsTypeReadAs type other
reads_passed type other mine none same = record {
  form = mine ∙ sym none;
  read = λ input at. rw none (only_passed (datum_at type input at) (datum_at other input at) (same input at));
}

-- ---- some fields

-- lists of fields, one behind the other
zip_append : (leaves others more rest : List Leaf) → AreReadAs leaves others → AreReadAs more rest → AreReadAs (leaves ++ more) (others ++ rest)
zip_append [] [] more rest read behind = behind
zip_append [] (other ∷ others) more rest read behind = absurd read
zip_append (leaf ∷ leaves) [] more rest read behind = absurd read
zip_append (leaf ∷ leaves) (other ∷ others) more rest read behind = (read.0, zip_append leaves others more rest read.1 behind)

-- some more fields
pub adds_read : (before after others rest : List Leaf) → AreReadAs before others → AddsReadAs before after rest → AreReadAs after (others ++ rest)
adds_read before after others rest read adds =
    subst (λ (ls : List Leaf). AreReadAs ls (others ++ rest)) (sym adds.grown) (zip_append before others adds.more rest read adds.read)

-- no fields are read as none
pub read_none : (leaves others : List Leaf) → AreReadAs leaves others → others ≡ [] → leaves ≡ []
read_none [] others read none = refl
read_none (leaf ∷ leaves) [] read none = absurd read
read_none (leaf ∷ leaves) (other ∷ others) read none = absurd cc

-- ---- their cells

-- cells, and the place behind them
abbrev Cells : Type 0
Cells = List Cell × Cursor

abbrev with_first : Cell → Cells → Cells
with_first cell behind = (cell ∷ behind.0, behind.1)

abbrev with_front : List Cell → Cells → Cells
with_front front behind = (front ++ behind.0, behind.1)

-- the cells of fields, one behind the other
unfoldable cells_at : List Leaf → List ℕ → Cursor → Result (List Cell × Cursor) DatumRefusal
cells_at [] input at = Ok ([], at)
cells_at (leaf ∷ leaves) input at =
    field_as (form_of leaf.schema) (datum_at leaf.schema input at) >>= λ cell. map_value (with_first cell.0) (cells_at leaves input cell.1)

bind_cong : (read other : Result (Cell × Cursor) DatumRefusal) (f g : Cell × Cursor → Result (List Cell × Cursor) DatumRefusal) → read ≡ other → ((x : Cell × Cursor) → f x ≡ g x) → (read >>= f) ≡ (other >>= g)
bind_cong (Ok x) other f g same next = next x ∙ ap (λ (r : Result (Cell × Cursor) DatumRefusal). r >>= g) same
bind_cong (Err e) other f g same next = ap (λ (r : Result (Cell × Cursor) DatumRefusal). r >>= g) same

same_cells : (leaves others : List Leaf) → AreReadAs leaves others → (input : List ℕ) (at : Cursor) → cells_at leaves input at ≡ cells_at others input at
unfolding cells_at
same_cells [] [] read input at = refl
same_cells [] (other ∷ others) read input at = absurd read
same_cells (leaf ∷ leaves) [] read input at = absurd read
same_cells (leaf ∷ leaves) (other ∷ others) read input at =
    bind_cong _ _ _ _ (ap (λ (f : Option Form). field_as f (datum_at leaf.schema input at)) read.0.schema.form ∙ read.0.schema.read input at)
    (λ cell. ap (map_value (with_first cell.0)) (same_cells leaves others read.1 input cell.1))

-- the cell of one field more
read_snoc : (front : List Leaf) (before : List Datum) (leaf : Leaf) (value : Datum) → length before ≡ length front → read_cells (front ++ leaf ∷ []) (before ++ value ∷ []) ≡ read_cells front before ++ read_as (form_of leaf.schema) value ∷ []
unfolding read_cells
read_snoc [] [] leaf value many = refl
read_snoc [] (v ∷ before) leaf value many = absurd (omega (arith, many))
read_snoc (first ∷ front) [] leaf value many = absurd (omega (arith, many))
read_snoc (first ∷ front) (v ∷ before) leaf value many = ap (λ (cs : List Cell). read_as (form_of first.schema) v ∷ cs) (read_snoc front before leaf value (omega (arith, many)))

-- a cell at the end of those before it is one at the front of those behind it
view_front : (front : List Cell) (cell : Cell) (read : Result (List Cell × Cursor) DatumRefusal)
    → map_value (with_front (front ++ cell ∷ [])) read ≡ map_value (with_front front) (map_value (with_first cell) read)
view_front front cell (Ok (behind, at)) = ap (λ (cs : List Cell). Ok (cs, at)) (append_assoc front (cell ∷ []) behind)
view_front front cell (Err e) = refl

cells_behind : (leaf : Leaf) (leaves front : List Leaf) (before : List Datum) (input : List ℕ) (read : Result (Datum × Cursor) DatumRefusal) → length before ≡ length front
    → ((value : Datum) (after : Cursor) → fields_as ((front ++ leaf ∷ []) ++ leaves) (fields_at (leaf_readers leaves) (before ++ value ∷ []) input after) ≡ map_value (with_front (read_cells (front ++ leaf ∷ []) (before ++ value ∷ []))) (cells_at leaves input after))
    → fields_as (front ++ leaf ∷ leaves) (read >>= λ read. fields_at (leaf_readers leaves) (before ++ read.0 ∷ []) input read.1)
    ≡ map_value (with_front (read_cells front before)) (field_as (form_of leaf.schema) read >>= λ cell. map_value (with_first cell.0) (cells_at leaves input cell.1))
cells_behind leaf leaves front before input (Err e) many next = refl
cells_behind leaf leaves front before input (Ok (value, after)) many next =
    ap (λ (ls : List Leaf). fields_as ls (fields_at (leaf_readers leaves) (before ++ value ∷ []) input after)) (sym (append_assoc front (leaf ∷ []) leaves))
    ∙ (next value after
    ∙ (ap (λ (cs : List Cell). map_value (with_front cs) (cells_at leaves input after)) (read_snoc front before leaf value many)
    ∙ view_front (read_cells front before) (read_as (form_of leaf.schema) value) (cells_at leaves input after)))

cells_read : (leaves front : List Leaf) (before : List Datum) (input : List ℕ) (at : Cursor) → length before ≡ length front
    → fields_as (front ++ leaves) (fields_at (leaf_readers leaves) before input at) ≡ map_value (with_front (read_cells front before)) (cells_at leaves input at)
unfolding fields_at cells_at
cells_read [] front before input at many =
    ap (λ (ls : List Leaf). Ok (read_cells ls before, at)) (append-nil front) ∙ ap (λ (cs : List Cell). Ok (cs, at)) (sym (append-nil (read_cells front before)))
cells_read (leaf ∷ leaves) front before input at many =
    cells_behind leaf leaves front before input (datum_at leaf.schema input at) many (λ value after.
    cells_read leaves (front ++ leaf ∷ []) (before ++ value ∷ []) input after (omega (arith, many, length-append front (leaf ∷ []), length-append before (value ∷ []))))

-- the cells of fields are those of the fields that they are read as
pub fields_alike : (leaves others : List Leaf) → AreReadAs leaves others → (input : List ℕ) (at : Cursor)
    → fields_as leaves (fields_at (leaf_readers leaves) [] input at) ≡ fields_as others (fields_at (leaf_readers others) [] input at)
fields_alike leaves others read input at =
    cells_read leaves [] [] input at refl
    ∙ (ap (map_value (with_front (read_cells [] []))) (same_cells leaves others read input at)
    ∙ sym (cells_read others [] [] input at refl))
