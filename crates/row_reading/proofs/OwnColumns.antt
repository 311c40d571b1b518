-- The columns that a file's own fields make can be read from them.
use Rattle.std.proofs.Common.{◌≡◌, ℕ, ◌+◌, Bool, true, false, List, [], ◌∷◌, ◌++◌, append_assoc, append-nil, length}
use Rattle.std.proofs.Common.{All, Some, None, Result, Ok, Err, refl, sym, ap, ◌∙◌, subst, inl, inr}
use Rattle.std.specs.Prelude.{ℤ, int_lt, nat_lt, ◌||◌, not, Option, IfOk}
use Rattle.std.specs.Ordering.{int_eq}
use Rattle.std.proofs.lemmas.Bool.{cases_Bool, false≢true, or_parts, false_from_ne_true}
use Rattle.std.proofs.lemmas.Bool.Decides.{Decides-int_eq}
use Rattle.std.proofs.lemmas.List.Elements.{All-nil, All-cons}
use Rattle.std.proofs.lemmas.List.Folds.{list_any-append}
use Rattle.words.specs.Reading.{◌>>=◌, Gives, never, map_value}
use Rattle.words.specs.Laws.{refused_for_certain}
use Rattle.row_types.specs.declared.column.Column.{Column}
use Rattle.row_types.specs.declared.column.Kind.{Kind}
use Rattle.row_types.specs.Columns.{first_fault, has_id, has_wrong_id, has_wrong_name, most_columns}
use Rattle.schema_tree.specs.declared.schema.Schema.{Schema, out-Schema}
use Rattle.schema_tree.specs.declared.schema.Field.{Field, out-Field}
use Rattle.avro_container.specs.declared.container.Container.{Container}
use Rattle.words.specs.Steps.{bind_then, test_failed, ok_is}
use Rattle.stored_rows.specs.declared.refusal.RowRefusal.{RowRefusal}
use Rattle.avro_cells.specs.Kind.{Level, Nullable, nullable, holds, is_allowed, kind_of}
use Rattle.avro_cells.specs.KindLaws.{kind_holds}
use Rattle.fields.specs.Wanted.{fields_of}
use Rattle.stored_rows.specs.Field.{is_this, find_from, find}
use Rattle.row_reading.specs.File.{Opened, opened}
use Rattle.row_reading.specs.Columns.{first_reserved_id, column_of_kind, column_of_type, with_field, columns_from}
use Rattle.row_reading.specs.Columns.{no_fault, checked, columns_in, file_columns_of}
use Rattle.stored_rows.specs.Refusal.{is_memory}
use Rattle.stored_rows.specs.Stored.{IsHeld}

-- ---- the column of a field

-- what a field of an id makes: a column of that id, which is read from the field's type
abbrev IsOwn : ℤ → Schema → Column → Type 0
IsOwn id schema column = (column.id ≡ id) × (is_allowed column.kind schema ≡ true)

-- of its kind
own_of_kind : (id : ℤ) (name : List ℕ) (required : Bool) (level : Level) (kind : Option Kind) (column : Column) → kind_of level ≡ kind → column_of_kind id name required kind ≡ Ok column
    → (column.id ≡ id) × (holds column.kind level ≡ true)
own_of_kind id name required level None column is made = absurd cc
own_of_kind id name required level (Some kind) column is made =
    subst (λ (c : Column). (c.id ≡ id) × (holds c.kind level ≡ true)) (ok_is _ column made) (refl, kind_holds level kind is)

-- of its type
own_of_type : (id : ℤ) (name : List ℕ) (schema : Schema) (found : Option Nullable) (column : Column) → nullable schema ≡ found → column_of_type id name found ≡ Ok column → IsOwn id schema column
own_of_type id name schema None column is made = absurd cc
own_of_type id name schema (Some found) column is made =
    let own = own_of_kind id name (not found.has_null) (out-Schema found.type) (kind_of (out-Schema found.type)) column refl made in
    (own.0, rw is own.1)

-- ---- the columns of fields

-- a field of the column's id is there, and the column is read from its type
abbrev IsIn : List Field → Column → Type 0
IsIn fields column = IsHeld column (find column.id fields)

-- no field before the place has an id that no column has; the standard's own ids aside
abbrev AreAhead : List Field → List Column → ℕ → List Field → Type 0
AreAhead fields before place rest = (id : ℤ) → int_lt id first_reserved_id ≡ true → has_id before id ≡ false → find id fields ≡ find_from place id rest

-- the fields that are left make more columns; where no id among them is wrong, each is read from its field
record Made (fields : List Field) (before : List Column) (place : ℕ) (rest : List Field) (after : List Column) : Type 0 where
  more : List Column
  parts : after ≡ before ++ more
  read : first_fault has_wrong_id before more ≡ None → AreAhead fields before place rest → All (IsIn fields) more

-- the first of columns that have no fault has none, nor have the others
first_right : (before : List Column) (column : Column) (others : List Column) → first_fault has_wrong_id before (column ∷ others) ≡ None
    → (has_id before column.id ≡ false) × (first_fault has_wrong_id (before ++ column ∷ []) others ≡ None)
first_right before column others none =
    elim (cases_Bool (has_wrong_id before column)) [
      | inl wrong ↦ absurd (let told : Some column ≡ None = rw wrong at none in cc)
      | inr right ↦ ((or_parts _ _ right).1, rw right at none)
    ]

-- a field with the id is the first one from here
found_now : (place : ℕ) (id : ℤ) (field : Field) (rest : List Field) → (out-Field field).id ≡ Some id → find_from place id (field ∷ rest) ≡ Some (place, (out-Field field).schema)
unfolding find_from
found_now place id field rest has = rw (has, (Decides-int_eq id id).1 refl) refl

-- a field with another id, or none, is passed over
passed_over : (place : ℕ) (id : ℤ) (field : Field) (rest : List Field) → is_this id (out-Field field).id ≡ false → find_from place id (field ∷ rest) ≡ find_from (place + 1) id rest
unfolding find_from
passed_over place id field rest other = rw other refl

-- an id that a field's column doesn't have isn't the field's
not_this : (id other : ℤ) (field : Field) → (out-Field field).id ≡ Some id → int_eq id other ≡ false → is_this other (out-Field field).id ≡ false
not_this id other field has differs = rw has differs

-- an id of the standard's own is none of a column
reserved_differs : (id other : ℤ) → int_lt id first_reserved_id ≡ false → int_lt other first_reserved_id ≡ true → int_eq id other ≡ false
reserved_differs id other reserved ours =
    false_from_ne_true _ (λ same. false≢true (sym reserved ∙ ap (λ (n : ℤ). int_lt n first_reserved_id) ((Decides-int_eq id other).0 same) ∙ ours))

-- a field that was found can be read
read_there : (fields : List Field) (column : Column) (place : ℕ) (schema : Schema) → find column.id fields ≡ Some (place, schema) → is_allowed column.kind schema ≡ true → IsIn fields column
read_there fields column place schema found allowed = subst (IsHeld column) (sym found) allowed

-- a field of the standard's own makes no column
none_made : (fields : List Field) (before : List Column) (place : ℕ) (id : ℤ) (field : Field) (rest : List Field) (after : List Column) → (out-Field field).id ≡ Some id → int_lt id first_reserved_id ≡ false
    → Made fields before (place + 1) rest after → Made fields before place (field ∷ rest) after
none_made fields before place id field rest after has reserved made = record {
  more = made.more;
  parts = made.parts;
  read = λ none ahead. made.read none (λ other ours new. ahead other ours new ∙ passed_over place other field rest (not_this id other field has (reserved_differs id other reserved ours)));
}

-- a field's column is read from it
one_made : (fields : List Field) (before : List Column) (place : ℕ) (column : Column) (field : Field) (rest : List Field) (after : List Column) → (out-Field field).id ≡ Some column.id → int_lt column.id first_reserved_id ≡ true
    → is_allowed column.kind (out-Field field).schema ≡ true → Made fields (before ++ column ∷ []) (place + 1) rest after → Made fields before place (field ∷ rest) after
one_made fields before place column field rest after has ours allowed made = record {
  more = column ∷ made.more;
  parts = made.parts ∙ append_assoc before (column ∷ []) made.more;
  read = λ none ahead.
      let right = first_right before column made.more none in
      All-cons (IsIn fields) column made.more
      (read_there fields column place (out-Field field).schema (ahead column.id ours right.0 ∙ found_now place column.id field rest has) allowed)
      (made.read right.1 (λ other its new.
      let apart = or_parts _ _ (sym (list_any-append (λ c. int_eq c.id other) before (column ∷ [])) ∙ new) in
      ahead other its apart.0 ∙ passed_over place other field rest (not_this column.id other field has (or_parts _ _ apart.1).0)));
}

-- so is that of a field of an id, whatever its type
type_made : (fields : List Field) (before : List Column) (place : ℕ) (id : ℤ) (field : Field) (rest : List Field) (after columns : List Column) (read : Result Column RowRefusal)
    → (out-Field field).id ≡ Some id → int_lt id first_reserved_id ≡ true → column_of_type id (out-Field field).name (nullable (out-Field field).schema) ≡ read → map_value (λ column. before ++ column ∷ []) read ≡ Ok columns
    → Made fields columns (place + 1) rest after → Made fields before place (field ∷ rest) after
type_made fields before place id field rest after columns (Err refusal) has ours is taken made = absurd cc
type_made fields before place id field rest after columns (Ok column) has ours is taken made =
    let own = own_of_type id (out-Field field).name (out-Field field).schema (nullable (out-Field field).schema) column refl is in
    let same : before ++ column ∷ [] ≡ columns = ok_is _ columns taken in
    one_made fields before place column field rest after (has ∙ ap Some (sym own.0)) (rw own.0 ours) own.1 (subst (λ (list : List Column). Made fields list (place + 1) rest after) (sym same) made)

-- a field that isn't refused
field_made : (fields : List Field) (before : List Column) (place : ℕ) (id : Option ℤ) (field : Field) (rest : List Field) (after columns : List Column) → (out-Field field).id ≡ id → with_field before field id ≡ Ok columns
    → Made fields columns (place + 1) rest after → Made fields before place (field ∷ rest) after
field_made fields before place None field rest after columns has taken made = absurd cc
field_made fields before place (Some id) field rest after columns has taken made =
    elim (cases_Bool (int_lt id first_reserved_id)) [
      | inl ours ↦ type_made fields before place id field rest after columns _ has ours refl (rw ours at taken) made
      | inr reserved ↦
          let same : before ≡ columns = ok_is _ columns (rw reserved at taken) in
          none_made fields before place id field rest after has reserved (subst (λ (list : List Column). Made fields list (place + 1) rest after) (sym same) made)
    ]

-- the columns of the fields that are left
all_made : (fields : List Field) (before : List Column) (place : ℕ) (rest : List Field) (after : List Column) → columns_from before rest ≡ Ok after → Made fields before place rest after
unfolding columns_from
all_made fields before place [] after is = record { more = []; parts = sym (append-nil before ∙ ok_is before after is); read = λ none ahead. All-nil (IsIn fields) }
all_made fields before place (field ∷ rest) after is =
    bind_then (with_field before field (out-Field field).id) (λ columns. columns_from columns rest) after is (λ columns taken others.
    field_made fields before place (out-Field field).id field rest after columns refl taken (all_made fields columns (place + 1) rest after others))

-- ---- the columns of a file

-- what is not refused for a fault has none
no_fault_told : (fault : Option Column) (done : Unit {0}) → no_fault fault ≡ Ok done → fault ≡ None
no_fault_told None done is = refl
no_fault_told (Some column) done is = absurd cc

-- columns that were checked are as they were, and none has a wrong id
checked_ids : (columns list : List Column) → checked columns ≡ Ok list → (columns ≡ list) × (first_fault has_wrong_id [] columns ≡ None)
unfolding checked
checked_ids columns list is =
    let counted = test_failed (nat_lt (length columns) 1 || nat_lt most_columns (length columns)) _ _ list is in
    bind_then (no_fault (first_fault has_wrong_id [] columns)) _ list counted.1 (λ done ids others.
    bind_then (no_fault (first_fault has_wrong_name [] columns)) _ list others (λ named names same.
    (ok_is columns list same, no_fault_told (first_fault has_wrong_id [] columns) done ids)))

-- the columns that all the fields make, and that were checked, are read from them
fields_read : (fields : List Field) (columns : List Column) → (columns_from [] fields >>= checked) ≡ Ok columns → All (IsIn fields) columns
fields_read fields columns made =
    bind_then (columns_from [] fields) checked columns made (λ list from right.
    let ids = checked_ids list columns right in
    let all = all_made fields [] 0 fields list from in
    subst (All (IsIn fields)) (sym all.parts ∙ ids.0) (all.read (rw (← all.parts) ids.1) (λ id ours new. refl)))

-- the columns of a file are read from its fields
file_read : (bytes : List ℕ) (columns : List Column) → file_columns_of bytes ≡ Ok columns → IfOk (opened bytes) (λ file. All (IsIn (fields_of file.1)) columns)
unfolding file_columns_of columns_in
file_read bytes columns is =
    bind_then (opened bytes) columns_in columns is (λ file opens made.
    subst (λ (found : Result Opened RowRefusal). IfOk found (λ file. All (IsIn (fields_of file.1)) columns)) (sym opens) (fields_read (fields_of file.1) columns made))

-- what a call answers of them is read so too
pub own_columns : (bytes : List ℕ) (result : Result (List Column) RowRefusal) → Gives is_memory (λ columns. columns) result (file_columns_of bytes)
    → IfOk result (λ columns. IfOk (opened bytes) (λ file. All (λ column. IsHeld column (find column.id (fields_of file.1))) columns))
own_columns bytes (Ok columns) gives = file_read bytes columns gives
own_columns bytes (Err refusal) gives = tt

-- fields that make no columns are refused
pub columns_refused : (fields own : List Field) (e : RowRefusal) → fields ≡ own → columns_from [] fields ≡ Err e → (columns_from [] own >>= checked) ≡ Err e
columns_refused fields own e is refused = rw (← is, refused) refl

-- the columns that fields make, if they are those of a table
pub columns_given : (fields own : List Field) (list : List Column) (result : Result (List Column) RowRefusal) → fields ≡ own → columns_from [] fields ≡ Ok list → Gives never (λ columns. columns) result (checked list)
    → Gives is_memory (λ columns. columns) result (columns_from [] own >>= checked)
columns_given fields own list (Ok columns) is listed gives = rw (← is, listed) gives
columns_given fields own list (Err refusal) is listed gives =
    let refused : (columns_from [] own >>= checked) ≡ Err refusal = rw (← is, listed) gives in
    refused_for_certain (is_memory refusal) refused

-- those of a file that was opened
pub opened_columns : (bytes : List ℕ) (container : Container) (schema : Schema) (result : Result (List Column) RowRefusal) → opened bytes ≡ Ok (container, schema)
    → Gives is_memory (λ columns. columns) result (columns_from [] (fields_of schema) >>= checked) → Gives is_memory (λ columns. columns) result (file_columns_of bytes)
unfolding file_columns_of columns_in
opened_columns bytes container schema (Ok columns) opens gives = rw opens gives
opened_columns bytes container schema (Err refusal) opens gives = rw opens gives
