-- The cells of a record's fields, one behind the other, and those of them that are wanted.
use Rattle.std.proofs.Common.{◌≡◌, ℕ, zero, suc, ◌+◌, ◌<◌, ◌≤◌, true, false, Bool, List, [], ◌∷◌, ◌++◌, length, map}
use Rattle.std.proofs.Common.{get_or, set, take, drop, Result, Ok, Err, refl, sym, ap, ap₂, subst, ◌∙◌, arith}
use Rattle.std.specs.Prelude.{slice_get, is_some, is_ok, if◌then◌else◌}
use Rattle.std.specs.declared.option.Option.{Option}
use Rattle.std.specs.declared.option.Option.TheVariants.{Some, None}
use Rattle.std.proofs.lemmas.List.{take_more_set, take_all, drop_more, drop_all, map-append, nil_from_length}
use Rattle.words.specs.Reading.{◌>>=◌, Gives, never, map_value}
use Rattle.row_types.specs.declared.cell.Cell.{Cell}
use Rattle.row_types.specs.declared.cell.Cell.TheVariants as cells
use Rattle.row_types.specs.declared.column.Kind.{Kind}
use Rattle.schema_tree.specs.declared.schema.Schema.{Schema, out-Schema}
use Rattle.schema_tree.specs.declared.schema.Schema.TheVariants as schemas
use Rattle.schema_tree.specs.declared.schema.Field.{Field}
use Rattle.datum_reading.specs.declared.cursor.Cursor.{Cursor}
use Rattle.datum_tree.specs.declared.datum.Datum.{Datum}
use Rattle.datum_tree.specs.declared.datum.Datum.TheVariants as datums
use Rattle.datum_reading.specs.declared.refusal.DatumRefusal.{DatumRefusal}
use Rattle.datum_reading.specs.Reading.{fields_at, datum_at}
use Rattle.datum_reading.specs.Readers.{readers_of, passed}
use Rattle.datum_reading.specs.Layers.{reads-Rec}
use Rattle.avro_cells.specs.declared.form.Form.{Form}
use Rattle.avro_cells.specs.declared.kind.Primitive.{Primitive}
use Rattle.fields.specs.declared.wanted.Wanted.{Wanted}
use Rattle.avro_cells.specs.Kind.{Level, Nullable, nullable, primitive_of, holds_as, is_allowed_as, is_allowed}
use Rattle.row_types.specs.declared.cell_ref.CellRef.{CellRef}
use Rattle.row_types.specs.CellRef.{lent_cell}
use Rattle.avro_cells.specs.Form.{null_branch, form_with, form_as, form_of}
use Rattle.fields.specs.declared.refusal.FieldRefusal.{FieldRefusal}
use Rattle.fields.specs.declared.leaf.Leaf.{Leaf}
use Rattle.fields.specs.Flat.{Opens, leaves, flat_values, leaf_readers}
use Rattle.fields.specs.Kept.{kept, kept_values, slots, slot_at}
use Rattle.fields.proofs.FlatLaws.{all_flat, leaves_read}
use Rattle.fields.proofs.KeptLaws.{some_is, leaf_takes, kept_of, is_kept, slot_is, kept_read}
use Rattle.avro_cells.specs.Value.{cell_of, values_of_level, values_of}
use Rattle.fields.specs.Wanted.{fields_of_level, fields_of, opens, check_nulls, Found, is_this, find_from, find}
use Rattle.fields.specs.Wanted.{source_as}
use Rattle.fields.specs.Wanted.{source, cell_at, cells_with, is_none}
use Rattle.fields.specs.Record.{datum_refusal, forms_of, start, record_at, read_as, read_cells, field_as, fields_as}
use Rattle.fields.specs.Record.{kept_cells, value_as, pick, place_in}

-- ---- fields, one behind the other

-- no value has no cell
pub none_read : (fields : List Leaf) → read_cells fields [] ≡ []
unfolding read_cells
none_read [] = refl
none_read (field ∷ fields) = refl

-- one more value has one more cell
pub read_more : (fields : List Leaf) (values : List Datum) (value : Datum) (field : Leaf) → length values < length fields → field ≡ get_or fields (length values) field
    → read_cells fields (values ++ value ∷ []) ≡ read_cells fields values ++ read_as (form_of field.schema) value ∷ []
unfolding read_cells
read_more [] values value field within is = absurd (omega (arith, within))
read_more (first ∷ fields) [] value field within is = ap₂ (λ (f : Leaf) (cs : List Cell). read_as (form_of f.schema) value ∷ cs) (sym is) (none_read fields)
read_more (first ∷ fields) (v ∷ values) value field within is = ap (λ (cs : List Cell). read_as (form_of first.schema) v ∷ cs) (read_more fields values value field (omega (arith, within)) is)

-- a value that was read in a form
pub record ReadAs (form : Option Form) (read : Result (Datum × Cursor) DatumRefusal) (cell : Cell) (after : Cursor) : Type 0 where
  pub value : Datum
  pub is : read ≡ Ok (value, after)
  pub cell_is : cell ≡ read_as form value

pub was_read : (form : Option Form) (read : Result (Datum × Cursor) DatumRefusal) (cell : Cell) (after : Cursor) → field_as form read ≡ Ok (cell, after) → ReadAs form read cell after
was_read form (Ok (value, at)) cell after is =
    let both : (read_as form value, at) ≡ (cell, after) = cc in record {
      value = value;
      is = ap (λ (c : Cursor). Ok (value, c)) (ap (λ (p : Cell × Cursor). p.1) both);
      cell_is = sym (ap (λ (p : Cell × Cursor). p.0) both);
    }
was_read form (Err e) cell after is = absurd cc

pub was_refused : (form : Option Form) (read : Result (Datum × Cursor) DatumRefusal) (e : DatumRefusal) → field_as form read ≡ Err e → read ≡ Err e
was_refused form (Ok read) e is = absurd cc
was_refused form (Err d) e is = cc

-- the form of a field among those of all
form_in : (fields : List Leaf) (place : ℕ) (field : Leaf) → place < length fields → field ≡ get_or fields place field → get_or (forms_of fields) place None ≡ form_of field.schema
form_in [] place field within is = absurd (omega (arith, within))
form_in (first ∷ fields) zero field within is = ap (λ (f : Leaf). form_of f.schema) (sym is)
form_in (first ∷ fields) (suc place) field within is = form_in fields place field (omega (arith, within)) is

-- the form of a field at a place
pub form_at : (fields : List Leaf) (forms : List (Option Form)) (place : ℕ) (field : Leaf) → forms ≡ forms_of fields → place < length fields → field ≡ get_or fields place field → get_or forms place None ≡ form_of field.schema
form_at fields forms place field are within is = ap (λ (fs : List (Option Form)). get_or fs place None) are ∙ form_in fields place field within is

-- the next cell is put
pub cells_on : (fields : List Leaf) (all : List CellRef) (place : ℕ) (before : List Datum) (value : Datum) (field : Leaf) (cell : CellRef) → place < length all → length before ≡ place → place < length fields → field ≡ get_or fields place field
    → lent_cell cell ≡ read_as (form_of field.schema) value → map lent_cell (take place all) ≡ read_cells fields before → map lent_cell (take (place + 1) (set all place cell)) ≡ read_cells fields (before ++ value ∷ [])
cells_on fields all place before value field cell room count within is cell_is so_far =
    let here : field ≡ get_or fields (length before) field = is ∙ ap (λ (n : ℕ). get_or fields n field) (sym count) in
    ap (map lent_cell) (take_more_set all place cell room) ∙ map-append lent_cell (take place all) (cell ∷ [])
    ∙ ap₂ (λ (a b : List Cell). a ++ b) so_far (ap (λ (c : Cell). c ∷ []) cell_is) ∙ sym (read_more fields before value field (omega (arith, count, within)) here)

-- all cells were put
pub cells_end : (fields : List Leaf) (all : List CellRef) (place : ℕ) (before : List Datum) (at : Cursor) → length all ≤ place → map lent_cell (take place all) ≡ read_cells fields before → fields_as fields (Ok (before, at)) ≡ Ok (map lent_cell all, at)
cells_end fields all place before at done so_far = ap (λ (cs : List Cell). Ok (cs, at)) (sym so_far ∙ ap (map lent_cell) (take_all place all done))

-- there is a form for each field
pub forms_many : (fields : List Leaf) → length (forms_of fields) ≡ length fields
forms_many [] = refl
forms_many (field ∷ fields) = ap suc (forms_many fields)

-- there is a cell for each field
pub as_wide : (fields : List Leaf) (forms : List (Option Form)) (first all : List CellRef) → forms ≡ forms_of fields → length first ≡ length forms → length all ≡ length first → length all ≡ length fields
as_wide fields forms first all are wide same = same ∙ wide ∙ ap length are ∙ forms_many fields

-- no field has no cell
pub no_cells : (fields : List Leaf) (forms : List (Option Form)) (all : List CellRef) → fields ≡ [] → forms ≡ forms_of fields → length all ≡ length forms → map lent_cell all ≡ []
no_cells fields forms all none forms_are width = ap (map lent_cell) (nil_from_length all (width ∙ ap length forms_are ∙ ap (λ (fs : List Leaf). length (forms_of fs)) none))

-- no field is kept of none
pub no_kept : (fields : List Leaf) → fields ≡ [] → kept fields ≡ []
unfolding kept
no_kept fields none = rw none refl

-- ---- what is wanted

-- a type that is allowed has a form
primitive_there : (kind : Kind) (level : Level) (primitive : Option Primitive) → holds_as kind primitive ≡ true → is_some (form_with (null_branch level) primitive) ≡ true
primitive_there kind level None allowed = absurd cc
primitive_there kind level (Some primitive) allowed = refl

form_there : (kind : Kind) (level : Level) (found : Option Nullable) → is_allowed_as kind found ≡ true → is_some (form_as level found) ≡ true
form_there kind level None allowed = absurd cc
form_there kind level (Some found) allowed = primitive_there kind level (primitive_of (out-Schema found.type)) allowed

-- the cell of a value whose type has a form
read_form : (form : Option Form) (value : Datum) → is_some form ≡ true → read_as form value ≡ cell_of (Some value)
read_form None value there = absurd cc
read_form (Some form) value there = refl

-- the cell at a place is that of the value there
read_at : (fields : List Leaf) (values : List Datum) (index : ℕ) (field : Leaf) → slice_get fields index ≡ Some field → is_some (form_of field.schema) ≡ true → get_or (read_cells fields values) index cells.Null ≡ cell_of (slice_get values index)
unfolding read_cells
read_at [] values index field there has = absurd cc
read_at (first ∷ fields) [] zero field there has = refl
read_at (first ∷ fields) [] (suc index) field there has = refl
read_at (first ∷ fields) (value ∷ values) zero field there has =
    let same : first ≡ field = some_is first field there in
    read_form (form_of first.schema) value (subst (λ (f : Leaf). is_some (form_of f.schema) ≡ true) (sym same) has)
read_at (first ∷ fields) (value ∷ values) (suc index) field there has = read_at fields values index field there has

-- a field that was found stands there
record IsFound (place : ℕ) (fields : List Leaf) (found : Found) : Type 0 where
  index : ℕ
  place_is : found.0 ≡ place + index
  field : Leaf
  there : slice_get fields index ≡ Some field
  type_is : field.schema ≡ found.1

-- the first of the fields, or one behind it
found_by : (place : ℕ) (first : Leaf) (fields : List Leaf) (found : Found) (others : Option Found) → ((f : Found) → others ≡ Some f → IsFound (place + 1) fields f) → (test : Bool) → (if test then Some (place, first.schema) else others) ≡ Some found → IsFound place (first ∷ fields) found
found_by place first fields found others behind true is =
    let same : (place, first.schema) ≡ found = cc in
    record { index = 0; place_is = sym (ap (λ (f : Found). f.0) same) ∙ omega arith; field = first; there = refl; type_is = ap (λ (f : Found). f.1) same }
found_by place first fields found others behind false is =
    let inner = behind found is in
    record { index = suc inner.index; place_is = omega (arith, inner.place_is); field = inner.field; there = inner.there; type_is = inner.type_is }

found_is : (place : ℕ) (id : Wanted) (fields : List Leaf) (found : Found) → find_from place id fields ≡ Some found → IsFound place fields found
unfolding find_from
found_is place id [] found is = absurd cc
found_is place id (first ∷ fields) found is = found_by place first fields found (find_from (place + 1) id fields) (λ f h. found_is (place + 1) id fields f h) (is_this id first) is

-- the type of a field that was found holds cells, if it is allowed
found_form : (fields : List Leaf) (kind : Kind) (found : Found) (is : IsFound 0 fields found) → is_allowed kind found.1 ≡ true
    → is_some (form_of is.field.schema) ≡ true
found_form fields kind found is allowed =
    subst (λ (s : Schema). is_some (form_of s) ≡ true) (sym is.type_is) (form_there kind (out-Schema found.1) (nullable found.1) allowed)

-- the cell of a field that was found, if its type is allowed
pick_found : (fields : List Leaf) (values : List Datum) (kind : Kind) (found : Found) → IsFound 0 fields found → (allowed : Bool) → is_allowed kind found.1 ≡ allowed
    → pick (read_cells (kept fields) (kept_values fields values)) (slot_at (slots 0 fields) (if allowed then Some found.0 else None)) ≡ cell_at values (if allowed then Some found.0 else None)
pick_found fields values kind found is true allowed =
    let has = found_form fields kind found is allowed in
    let at = is_kept fields values 0 is.index is.field is.there (leaf_takes is.field has) in
    let here = read_at (kept fields) (kept_values fields values) at.place is.field at.there has in
    let place : found.0 ≡ is.index = omega (arith, is.place_is) in
    ap (λ (n : ℕ). pick (read_cells (kept fields) (kept_values fields values)) (get_or (slots 0 fields) n None)) place
    ∙ ap (pick (read_cells (kept fields) (kept_values fields values))) (slot_is fields values is.index is.field at)
    ∙ here ∙ ap cell_of at.same ∙ ap (λ (n : ℕ). cell_of (slice_get values n)) (sym place)
pick_found fields values kind found is false allowed = refl

-- what is wanted is picked
pick_source : (fields : List Leaf) (values : List Datum) (kind : Kind) (found : Option Found) → ((f : Found) → found ≡ Some f → IsFound 0 fields f)
    → pick (read_cells (kept fields) (kept_values fields values)) (slot_at (slots 0 fields) (source_as kind found)) ≡ cell_at values (source_as kind found)
pick_source fields values kind None is = refl
pick_source fields values kind (Some found) is = pick_found fields values kind found (is found refl) (is_allowed kind found.1) refl

-- all that is wanted
pub picked_all : (fields : List Leaf) (values : List Datum) (wanted : List Wanted)
    → map (pick (read_cells (kept fields) (kept_values fields values))) (map (place_in fields) wanted) ≡ cells_with wanted fields values
picked_all fields values [] = refl
picked_all fields values (w ∷ wanted) = ap₂ (λ (c : Cell) (cs : List Cell). c ∷ cs) (pick_source fields values w.kind (find w fields) (λ f h. found_is 0 w fields f h)) (picked_all fields values wanted)

-- the source of what is wanted is one of the fields that take bytes
pub record IsPlaced (many : ℕ) (source : Option ℕ) : Type 0 where
  pub place : ℕ
  pub is : source ≡ Some place
  pub within : place < many

-- what stands at a place of a list is within it
stands_within : (fields : List Leaf) (place : ℕ) (field : Leaf) → slice_get fields place ≡ Some field → place < length fields
stands_within [] place field there = absurd cc
stands_within (first ∷ fields) zero field there = omega arith
stands_within (first ∷ fields) (suc place) field there = omega (arith, stands_within fields place field there)

place_found : (fields : List Leaf) (kind : Kind) (found : Found) → IsFound 0 fields found → (allowed : Bool) → is_allowed kind found.1 ≡ allowed
    → is_none (if allowed then Some found.0 else None) ≡ false → IsPlaced (length (kept fields)) (slot_at (slots 0 fields) (if allowed then Some found.0 else None))
place_found fields kind found is true allowed there =
    let has = found_form fields kind found is allowed in
    let at = is_kept fields [] 0 is.index is.field is.there (leaf_takes is.field has) in
    let place : found.0 ≡ is.index = omega (arith, is.place_is) in
    record {
      place = at.place;
      is = ap (λ (n : ℕ). get_or (slots 0 fields) n None) place ∙ slot_is fields [] is.index is.field at;
      within = stands_within (kept fields) at.place is.field at.there;
    }
place_found fields kind found is false allowed there = absurd cc

place_source : (fields : List Leaf) (kind : Kind) (found : Option Found) → ((f : Found) → found ≡ Some f → IsFound 0 fields f)
    → is_none (source_as kind found) ≡ false → IsPlaced (length (kept fields)) (slot_at (slots 0 fields) (source_as kind found))
place_source fields kind None is there = absurd cc
place_source fields kind (Some found) is there = place_found fields kind found (is found refl) (is_allowed kind found.1) refl there

-- if it has a source
pub is_placed : (fields : List Leaf) (w : Wanted) → is_none (source fields w) ≡ false → IsPlaced (length (kept fields)) (place_in fields w)
is_placed fields w there = place_source fields w.kind (find w fields) (λ f h. found_is 0 w fields f h) there

-- ---- a record

-- a field, and those behind it
by_leaf : (leaves : List Leaf) (i : ℕ) (leaf : Leaf) (before : List Datum) (input : List ℕ) (at : Cursor) → i < length leaves → leaf ≡ get_or leaves i leaf
    → fields_at (leaf_readers (drop i leaves)) before input at ≡ (datum_at leaf.schema input at >>= λ read. fields_at (leaf_readers (drop (i + 1) leaves)) (before ++ read.0 ∷ []) input read.1)
unfolding fields_at
by_leaf leaves i leaf before input at lt is =
    ap (λ (ls : List Leaf). fields_at (leaf_readers ls) before input at) (drop_more leaves i leaf lt ∙ ap (λ (l : Leaf). l ∷ drop (i + 1) leaves) (sym is))

-- a field is refused
pub leaf_fails : (leaves : List Leaf) (i : ℕ) (leaf : Leaf) (before : List Datum) (input : List ℕ) (at : Cursor) (e : DatumRefusal) (total : Result (List Datum × Cursor) DatumRefusal) → i < length leaves → leaf ≡ get_or leaves i leaf → datum_at leaf.schema input at ≡ Err e
    → fields_at (leaf_readers (drop i leaves)) before input at ≡ total → total ≡ Err e
leaf_fails leaves i leaf before input at e total lt is refused so_far = sym so_far ∙ by_leaf leaves i leaf before input at lt is ∙ ap (λ r. r >>= λ read. fields_at (leaf_readers (drop (i + 1) leaves)) (before ++ read.0 ∷ []) input read.1) refused

-- a field is read, and others stand behind it
pub leaves_on : (leaves : List Leaf) (i : ℕ) (leaf : Leaf) (before : List Datum) (input : List ℕ) (at : Cursor) (value : Datum) (after : Cursor) (total : Result (List Datum × Cursor) DatumRefusal) → i < length leaves → leaf ≡ get_or leaves i leaf
    → datum_at leaf.schema input at ≡ Ok (value, after) → fields_at (leaf_readers (drop i leaves)) before input at ≡ total → fields_at (leaf_readers (drop (i + 1) leaves)) (before ++ value ∷ []) input after ≡ total
leaves_on leaves i leaf before input at value after total lt is read so_far =
    sym (by_leaf leaves i leaf before input at lt is ∙ ap (λ r. r >>= λ read. fields_at (leaf_readers (drop (i + 1) leaves)) (before ++ read.0 ∷ []) input read.1) read) ∙ so_far

-- it is not refused
known_not : {A E : Type 0} (r : Result A E) (e : E) → is_ok r ≡ true → r ≡ Err e → ⊥
known_not (Ok x) e known is = absurd cc
known_not (Err d) e known is = absurd cc

-- what is not refused is read
not_refused : {A E : Type 0} (r : Result A E) → ((e : E) → r ≡ Err e → ⊥) → is_ok r ≡ true
not_refused (Ok x) holds = refl
not_refused (Err e) holds = absurd (holds e refl)

-- a field of fields that are read is read
pub leaf_known : (leaves : List Leaf) (i : ℕ) (leaf : Leaf) (before : List Datum) (input : List ℕ) (at : Cursor) (total : Result (List Datum × Cursor) DatumRefusal) → i < length leaves → leaf ≡ get_or leaves i leaf
    → fields_at (leaf_readers (drop i leaves)) before input at ≡ total → is_ok total ≡ true → is_ok (datum_at leaf.schema input at) ≡ true
leaf_known leaves i leaf before input at total lt is so_far known =
    not_refused (datum_at leaf.schema input at) (λ e refused. known_not total e known (leaf_fails leaves i leaf before input at e total lt is refused so_far))

-- no field is left
pub leaves_end : (leaves : List Leaf) (i : ℕ) (before : List Datum) (input : List ℕ) (at : Cursor) (total : Result (List Datum × Cursor) DatumRefusal) → length leaves ≤ i → fields_at (leaf_readers (drop i leaves)) before input at ≡ total → total ≡ Ok (before, at)
unfolding fields_at
leaves_end leaves i before input at total le so_far = sym so_far ∙ ap (λ (ls : List Leaf). fields_at (leaf_readers ls) before input at) (drop_all i leaves le)

-- the values of a record are those of its fields
values_read : (opened : Opens) (fields : List Field) (read : Result (List Datum × Cursor) DatumRefusal)
    → value_as opened fields (map_value (λ read. (datums.Rec read.0, read.1)) read)
    ≡ fields_as (kept (leaves opened fields)) (kept_of (leaves opened fields) (all_flat opened fields read))
values_read opened fields (Ok read) = ap (λ level. Ok (read_cells (kept (leaves opened fields)) (kept_values (leaves opened fields) (flat_values opened fields (values_of_level level))), read.1)) (datums.outs-Rec read.0)
values_read opened fields (Err e) = refl

-- reading the fields that take bytes is reading those of the record
all_read : (opened : Opens) (fields : List Field) (input : List ℕ) (at : Cursor)
    → kept_of (leaves opened fields) (all_flat opened fields (fields_at (readers_of fields) [] input at))
    ≡ fields_at (leaf_readers (kept (leaves opened fields))) [] input at
all_read opened fields input at = ap (kept_of (leaves opened fields)) (sym (leaves_read opened fields input at)) ∙ sym (kept_read (leaves opened fields) input at)

-- a record's cells are those of its fields, and of the records in it
pub record_as : (opened : Opens) (schema : Schema) (name : List ℕ) (fields : List Field) (input : List ℕ) (at : Cursor) → schema ≡ schemas.Rec name fields
    → value_as opened (fields_of schema) (datum_at schema input at) ≡ fields_as (kept (leaves opened (fields_of schema))) (fields_at (leaf_readers (kept (leaves opened (fields_of schema)))) [] input at)
record_as opened schema name fields input at is =
    let own : fields_of schema ≡ fields = ap fields_of is ∙ ap fields_of_level (schemas.outs-Rec name fields) in
    let read = ap (λ (s : Schema). datum_at s input at) is ∙ reads-Rec name fields input at in
    let flat = values_read opened fields (fields_at (readers_of fields) [] input at) ∙ ap (fields_as (kept (leaves opened fields))) (all_read opened fields input at) in
    ap (λ (fs : List Field). value_as opened fs (datum_at schema input at)) own ∙ ap (value_as opened fields) read ∙ flat
    ∙ ap (λ (fs : List Field). fields_as (kept (leaves opened fs)) (fields_at (leaf_readers (kept (leaves opened fs))) [] input at)) (sym own)

-- what is passed of a schema without fields has no cells
pub none_passed : (opened : Opens) (fields : List Field) (all : List Cell)
    (read : Result (Datum × Cursor) DatumRefusal) (result : Result Cursor DatumRefusal) → fields ≡ [] → all ≡ []
    → Gives never (λ after. after) result (passed read)
    → Gives never (λ after. (all, after)) result (value_as opened fields read)
unfolding read_cells kept kept_values
none_passed opened fields all (Ok (value, at)) (Ok after) none empty gives =
    let same : at ≡ after = cc in
    rw (none, empty) (ap (λ (c : Cursor). Ok ([], c)) same)
none_passed opened fields all (Ok read) (Err e) none empty gives = absurd cc
none_passed opened fields all (Err d) (Ok after) none empty gives = absurd cc
none_passed opened fields all (Err d) (Err e) none empty gives = cc

-- a value that was read, and its cells
pub record WasRead (opened : Opens) (fields : List Field) (read : Result (Datum × Cursor) DatumRefusal) (all : List Cell) (after : Cursor) : Type 0 where
  pub value : Datum
  pub is : read ≡ Ok (value, after)
  pub cells_are : all ≡ kept_cells opened fields value

pub record_was : (opened : Opens) (fields : List Field) (read : Result (Datum × Cursor) DatumRefusal) (all : List Cell) (after : Cursor) → value_as opened fields read ≡ Ok (all, after) → WasRead opened fields read all after
record_was opened fields (Ok (value, at)) all after is =
    let both : (kept_cells opened fields value, at) ≡ (all, after) = cc in record {
      value = value;
      is = ap (λ (c : Cursor). Ok (value, c)) (ap (λ (p : List Cell × Cursor). p.1) both);
      cells_are = sym (ap (λ (p : List Cell × Cursor). p.0) both);
    }
record_was opened fields (Err e) all after is = absurd cc

-- the cells that are wanted of a value
wanted_are : (opened : Opens) (fields : List Field) (wanted : List Wanted) (sources : List (Option ℕ))
    (all cells : List Cell) (value : Datum) → all ≡ kept_cells opened fields value
    → sources ≡ map (place_in (leaves opened fields)) wanted → cells ≡ map (pick all) sources
    → cells_with wanted (leaves opened fields) (flat_values opened fields (values_of value)) ≡ cells
wanted_are opened fields wanted sources all cells value all_are sources_are cells_are = sym (picked_all (leaves opened fields) (flat_values opened fields (values_of value)) wanted) ∙ ap₂ (λ (a : List Cell) (s : List (Option ℕ)). map (pick a) s) (sym all_are) (sym sources_are) ∙ sym cells_are

-- a record that is right
pub record_right : (schema : Schema) (wanted : List Wanted) (input : List ℕ) (place : ℕ) (sources : List (Option ℕ))
    (all cells : List Cell) (after : Cursor)
    → sources ≡ map (place_in (leaves (opens wanted) (fields_of schema))) wanted → value_as (opens wanted)
    (fields_of schema) (datum_at schema input (start place)) ≡ Ok (all, after)
    → cells ≡ map (pick all) sources → check_nulls wanted cells ≡ Ok tt → record_at schema wanted input place ≡ Ok (cells, after.place)
unfolding record_at
record_right schema wanted input place sources all cells after sources_are read cells_are nulls =
    let was = record_was (opens wanted) (fields_of schema) (datum_at schema input (start place)) all after read in
    rw (was.is, wanted_are (opens wanted) (fields_of schema) wanted sources all cells was.value was.cells_are sources_are cells_are, nulls) refl

-- a record with a null where something is required
pub record_null : (schema : Schema) (wanted : List Wanted) (input : List ℕ) (place : ℕ) (sources : List (Option ℕ))
    (all cells : List Cell) (after : Cursor) (e : FieldRefusal)
    → sources ≡ map (place_in (leaves (opens wanted) (fields_of schema))) wanted → value_as (opens wanted)
    (fields_of schema) (datum_at schema input (start place)) ≡ Ok (all, after)
    → cells ≡ map (pick all) sources → check_nulls wanted cells ≡ Err e → record_at schema wanted input place ≡ Err e
unfolding record_at
record_null schema wanted input place sources all cells after e sources_are read cells_are nulls =
    let was = record_was (opens wanted) (fields_of schema) (datum_at schema input (start place)) all after read in
    rw (was.is, wanted_are (opens wanted) (fields_of schema) wanted sources all cells was.value was.cells_are sources_are cells_are, nulls) refl

-- a value that is refused
value_fails : (opened : Opens) (fields : List Field) (read : Result (Datum × Cursor) DatumRefusal) (e : DatumRefusal) → value_as opened fields read ≡ Err e → read ≡ Err e
value_fails opened fields (Ok read) e is = absurd cc
value_fails opened fields (Err d) e is = cc

pub record_fails : (schema : Schema) (wanted : List Wanted) (input : List ℕ) (place : ℕ) (e : DatumRefusal) → value_as (opens wanted) (fields_of schema) (datum_at schema input (start place)) ≡ Err e → record_at schema wanted input place ≡ Err (datum_refusal e)
unfolding record_at
record_fails schema wanted input place e refused = rw (value_fails (opens wanted) (fields_of schema) (datum_at schema input (start place)) e refused) refl

-- ---- a record that is known to be right

known_as : (schema : Schema) (wanted : List Wanted) (input : List ℕ) (place : ℕ) (sources : List (Option ℕ)) (all cells : List Cell) (after : Cursor) (nulls : Result (Unit {0}) FieldRefusal) → sources ≡ map (place_in (leaves (opens wanted) (fields_of schema))) wanted
    → value_as (opens wanted) (fields_of schema) (datum_at schema input (start place)) ≡ Ok (all, after) → cells ≡ map (pick all) sources → is_ok (record_at schema wanted input place) ≡ true → check_nulls wanted cells ≡ nulls → record_at schema wanted input place ≡ Ok (cells, after.place)
known_as schema wanted input place sources all cells after (Ok done) sources_are read cells_are known nulls =
    record_right schema wanted input place sources all cells after sources_are read cells_are nulls
known_as schema wanted input place sources all cells after (Err e) sources_are read cells_are known nulls =
    absurd (known_not (record_at schema wanted input place) e known (record_null schema wanted input place sources all cells after e sources_are read cells_are nulls))

pub record_known : (schema : Schema) (wanted : List Wanted) (input : List ℕ) (place : ℕ) (sources : List (Option ℕ)) (all cells : List Cell) (after : Cursor) → sources ≡ map (place_in (leaves (opens wanted) (fields_of schema))) wanted
    → value_as (opens wanted) (fields_of schema) (datum_at schema input (start place)) ≡ Ok (all, after) → cells ≡ map (pick all) sources → is_ok (record_at schema wanted input place) ≡ true → record_at schema wanted input place ≡ Ok (cells, after.place)
record_known schema wanted input place sources all cells after sources_are read cells_are known =
    known_as schema wanted input place sources all cells after (check_nulls wanted cells) sources_are read cells_are known refl

-- its value is read
value_refused : (schema : Schema) (wanted : List Wanted) (input : List ℕ) (place : ℕ) (e : DatumRefusal) → datum_at schema input (start place) ≡ Err e → record_at schema wanted input place ≡ Err (datum_refusal e)
unfolding record_at
value_refused schema wanted input place e refused = rw refused refl

pub known_read : (schema : Schema) (wanted : List Wanted) (input : List ℕ) (place : ℕ) → is_ok (record_at schema wanted input place) ≡ true → is_ok (datum_at schema input (start place)) ≡ true
known_read schema wanted input place known =
    not_refused (datum_at schema input (start place)) (λ e refused. known_not (record_at schema wanted input place) (datum_refusal e) known (value_refused schema wanted input place e refused))

-- and so are its fields
ok_seen : {A B E : Type 0} (view : A → B) (r : Result A E) → is_ok (map_value view r) ≡ is_ok r
ok_seen view (Ok x) = refl
ok_seen view (Err e) = refl

pub known_fields : (opened : Opens) (schema : Schema) (name : List ℕ) (fields : List Field) (input : List ℕ) (at : Cursor) (all : List Leaf) → schema ≡ schemas.Rec name fields
    → fields_as all (fields_at (leaf_readers all) [] input at) ≡ fields_as (kept (leaves opened (fields_of schema))) (fields_at (leaf_readers (kept (leaves opened (fields_of schema)))) [] input at)
    → is_ok (datum_at schema input at) ≡ true → is_ok (fields_at (leaf_readers all) [] input at) ≡ true
known_fields opened schema name fields input at all is alike known =
    sym (ok_seen _ (fields_at (leaf_readers all) [] input at)) ∙ ap is_ok (alike ∙ sym (record_as opened schema name fields input at is)) ∙ ok_seen _ (datum_at schema input at) ∙ known

-- a value of a type that holds no cells is null
pub null_known : (read : Result (Datum × Cursor) DatumRefusal) (after : Cursor) → passed read ≡ Ok after → field_as None read ≡ Ok (cells.Null, after)
null_known (Ok (value, at)) after is = let same : at ≡ after = cc in ap (λ (c : Cursor). Ok (cells.Null, c)) same
null_known (Err e) after is = absurd cc

-- a schema without fields has no cells
pub none_known : (opened : Opens) (fields : List Field) (all : List Cell) (read : Result (Datum × Cursor) DatumRefusal) (after : Cursor) → fields ≡ [] → all ≡ [] → passed read ≡ Ok after → value_as opened fields read ≡ Ok (all, after)
none_known opened fields all read after none empty is = none_passed opened fields all read (Ok after) none empty is
