-- A row is read as the record of the fields that are wanted for its columns.
use Rattle.std.proofs.Common.{◌≡◌, ℕ, ◌+◌, true, false, List, [], ◌∷◌, map, Ok, Err, refl, ap, ◌∙◌}
use Rattle.std.specs.Prelude.{ℤ, Bool, ◌&&◌, All, Option, Some, None, IfSome, Result, if◌then◌else◌}
use Rattle.std.specs.Bool.{OnFalse}
use Rattle.std.proofs.lemmas.List.Elements.{All-head, All-tail}
use Rattle.std.specs.Ordering.{int_eq}
use Rattle.row_types.specs.declared.cell.Cell.{Cell}
use Rattle.row_types.specs.declared.column.Column.{Column}
use Rattle.row_types.specs.declared.column.Kind.{Kind}
use Rattle.row_types.specs.declared.column.Kind.TheVariants as kinds
use Rattle.schema_tree.specs.declared.schema.Schema.{Schema}
use Rattle.schema_tree.specs.declared.schema.Field.{Field, out-Field}
use Rattle.datum_tree.specs.declared.datum.Datum.{Datum}
use Rattle.avro_cells.specs.Kind.{is_allowed}
use Rattle.avro_cells.specs.Value.{values_of}
use Rattle.fields.specs.declared.wanted.Wanted.{Wanted}
use Rattle.fields.specs.declared.leaf.Leaf.{Leaf}
use Rattle.fields.specs.Flat.{inner_leaf, leaves}
use Rattle.fields.specs.Wanted.{fields_of, is_id, source_as, source, cells_with, wanted_of, opens, is_none, check_missing}
use Rattle.fields.specs.Wanted.{find_from as leaf_from, cell_at as leaf_cell}
use Rattle.fields.specs.declared.refusal.FieldRefusal.{FieldRefusal}
use Rattle.fields.specs.declared.refusal.FieldRefusal.TheVariants.{MissingField, NoValue, Memory}
use Rattle.fields.specs.Record.{is_memory}
use Rattle.fields.specs.AloneLaws.{AreOuter, leaves_alone, wanted_alone}
use Rattle.stored_rows.specs.Field.{Found, is_this, find_from, find, row_id_field, last_updated_field}
use Rattle.stored_rows.specs.Stored.{IsThere, AreReadable}
use Rattle.stored_rows.specs.Row.{cell_at, cell_with, stored_row}
use Rattle.row_reading.specs.Wanted.{column_wanted, row_wanted, row_of_cells}

-- ---- the field of an id

and_true : (b : Bool) → (b && true) ≡ b
and_true true = refl
and_true false = refl

id_same : (id : ℤ) (there : Option ℤ) → (is_id (Some id) there && true) ≡ is_this id there
id_same id None = refl
id_same id (Some other) = and_true (int_eq other id)

-- a field of the outer record that is wanted
abbrev outer : ℤ → Kind → Bool → Wanted
outer id kind required = record { parent = None; id = id; kind = kind; required = required }

-- the same field is found for an id
find_same : (fields : List Field) (place : ℕ) (id : ℤ) (kind : Kind) (required : Bool)
    → leaf_from place (outer id kind required) (map (inner_leaf None) fields) ≡ find_from place id fields
unfolding leaf_from find_from
find_same [] place id kind required = refl
find_same (field ∷ fields) place id kind required =
    let here : Option Found = Some (place, (out-Field field).schema) in
    let behind = leaf_from (place + 1) (outer id kind required) (map (inner_leaf None) fields) in
    ap (λ (b : Bool). if b then here else behind) (id_same id (out-Field field).id)
    ∙ ap (λ (o : Option Found). if is_this id (out-Field field).id then here else o) (find_same fields (place + 1) id kind required)

-- ---- the cell of a field

-- a field that was found is of an allowed type
abbrev IsAllowed : Kind → Option Found → Type 0
IsAllowed kind found = IfSome found (λ field. is_allowed kind field.1 ≡ true)

-- that of a column that can be read is
allowed : (column : Column) (found : Option Found) → IsThere column found → IsAllowed column.kind found
allowed column None there = tt
allowed column (Some found) there = there

cell_same : (kind : Kind) (found : Option Found) (values : List Datum) → IsAllowed kind found
    → leaf_cell values (source_as kind found) ≡ cell_at values found
cell_same kind None values right = refl
cell_same kind (Some found) values right = ap (λ (b : Bool). leaf_cell values (if b then Some found.0 else None)) right

-- the cell that is wanted is the one of the field with the id
one_same : (fields : List Field) (values : List Datum) (id : ℤ) (kind : Kind) (required : Bool)
    → IsAllowed kind (find id fields)
    → leaf_cell values (source (map (inner_leaf None) fields) (outer id kind required)) ≡ cell_with fields values id
one_same fields values id kind required right =
    ap (λ (o : Option Found). leaf_cell values (source_as kind o)) (find_same fields 0 id kind required)
    ∙ cell_same kind (find id fields) values right

-- so are those of columns
cells_same : (columns : List Column) (fields : List Field) (values : List Datum)
    → All (λ column. IsThere column (find column.id fields)) columns
    → cells_with (map column_wanted columns) (map (inner_leaf None) fields) values
    ≡ map (λ column. cell_with fields values column.id) columns
cells_same [] fields values each = refl
cells_same (column ∷ columns) fields values each =
    let There = λ (c : Column). IsThere c (find c.id fields) in
    let right = allowed column (find column.id fields) (All-head There column columns each) in
    let here = one_same fields values column.id column.kind column.required right in
    let others = cells_same columns fields values (All-tail There column columns each) in
    let behind = cells_with (map column_wanted columns) (map (inner_leaf None) fields) values in
    ap (λ (c : Cell). c ∷ behind) here ∙ ap (λ (cs : List Cell). cell_with fields values column.id ∷ cs) others

-- ---- the row of a value

columns_outer : (columns : List Column) → AreOuter (map column_wanted columns)
columns_outer [] = tt
columns_outer (column ∷ columns) = (refl, columns_outer columns)

-- the cells that are wanted of the fields of a file
abbrev row_cells : List Column → List Field → List Datum → List Cell
row_cells columns fields values = cells_with (row_wanted columns) (map (inner_leaf None) fields) values

-- they make the row that the values store
row_same : (columns : List Column) (fields : List Field) (values : List Datum) → AreReadable columns fields
    → row_of_cells (row_cells columns fields values) ≡ stored_row columns fields values
row_same columns fields values readable =
    let id = one_same fields values row_id_field kinds.Long false readable.row_id in
    let last = one_same fields values last_updated_field kinds.Long false readable.last_updated in
    let cells = cells_same columns fields values readable.each in
    rw (id, last, cells) refl

-- the cells that are wanted of a value make the row that it stores
pub cells_make : (columns : List Column) (schema : Schema) (datum : Datum) → AreReadable columns (fields_of schema)
    → row_of_cells (wanted_of (row_wanted columns) schema datum) ≡ stored_row columns (fields_of schema) (values_of datum)
cells_make columns schema datum readable =
    let alone = wanted_alone (row_wanted columns) (refl, (refl, columns_outer columns)) schema datum in
    ap row_of_cells alone ∙ row_same columns (fields_of schema) (values_of datum) readable

-- ---- what is missing

and_false : (b : Bool) → (b && false) ≡ false
and_false true = refl
and_false false = refl

-- a column that can be read is not missing among what is wanted
not_missing : (column : Column) (found : Option Found) → IsThere column found
    → (column.required && is_none (source_as column.kind found)) ≡ false
not_missing column None there = ap (λ (b : Bool). b && true) there
not_missing column (Some found) there =
    ap (λ (b : Bool). column.required && is_none (if b then Some found.0 else None)) there ∙ and_false column.required

none_missing_in : (columns : List Column) (fields : List Field) → All (λ column. IsThere column (find column.id fields)) columns
    → check_missing (map (inner_leaf None) fields) (map column_wanted columns) ≡ Ok tt
unfolding check_missing
none_missing_in [] fields each = refl
none_missing_in (column ∷ columns) fields each =
    let There = λ (c : Column). IsThere c (find c.id fields) in
    let same = find_same fields 0 column.id column.kind column.required in
    let found = ap (λ (o : Option Found). column.required && is_none (source_as column.kind o)) same in
    let here = found ∙ not_missing column (find column.id fields) (All-head There column columns each) in
    rw here (none_missing_in columns fields (All-tail There column columns each))

-- nothing that is wanted for columns that can be read is missing
pub none_missing : (columns : List Column) (schema : Schema) → AreReadable columns (fields_of schema)
    → check_missing (leaves (opens (row_wanted columns)) (fields_of schema)) (row_wanted columns) ≡ Ok tt
unfolding check_missing
none_missing columns schema readable =
    let alone = leaves_alone (row_wanted columns) (refl, (refl, columns_outer columns)) (fields_of schema) in
    ap (λ (ls : List Leaf). check_missing ls (row_wanted columns)) alone
    ∙ none_missing_in columns (fields_of schema) readable.each

-- so a refusal of the layout says that memory ran out
pub memory_only : (e : FieldRefusal) (missing : Result (Unit {0}) FieldRefusal) → missing ≡ Ok tt
    → OnFalse (is_memory e) (missing ≡ Err e) → is_memory e ≡ true
memory_only Memory missing none gives = refl
memory_only (MissingField id) missing none gives = absurd cc
memory_only (NoValue refusal) missing none gives = absurd cc
