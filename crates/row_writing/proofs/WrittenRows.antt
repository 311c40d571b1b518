-- The value of a row that is written: it stores the row, and is one of the file's schema.
use Rattle.std.proofs.Common.{◌≡◌, ℕ, ◌+◌, Bool, true, false, not, List, [], ◌∷◌, ◌++◌, map, get_or, Some, refl, sym}
use Rattle.std.proofs.Common.{ap, ap₂, ◌∙◌, arith, add-one}
use Rattle.std.specs.Prelude.{◌≢◌, ℤ, pos, ◌≤ℤ◌, Option, None, ◌&&◌, if◌then◌else◌}
use Rattle.std.specs.List.{All, AllPairs}
use Rattle.std.proofs.lemmas.Int.{ints}
use Rattle.std.proofs.lemmas.List.Elements.{All-head, All-tail}
use Rattle.row_types.specs.declared.cell.Cell.{Cell}
use Rattle.row_types.specs.declared.cell.Cell.TheVariants as cells
use Rattle.row_types.specs.declared.column.Column.{Column}
use Rattle.row_types.specs.declared.row.StoredRow.{StoredRow}
use Rattle.row_types.specs.Columns.{IsColumns}
use Rattle.row_types.specs.Fits.{fits as cell_fits, fits_row}
use Rattle.schema_tree.specs.declared.schema.Field.{Field, out-Field}
use Rattle.datum_tree.specs.declared.datum.Datum.{Datum, out-Datum, roll-Datum, out-roll-Datum}
use Rattle.datum_tree.specs.declared.datum.Datum.TheOpen as layers
use Rattle.datum_tree.specs.declared.datum.Datum.TheVariants as datums
use Rattle.datum_tree.specs.Value.{Level}
use Rattle.fields.specs.Wanted.{fields_of}
use Rattle.stored_rows.specs.Field.{is_this, find_from, row_id_field, last_updated_field}
use Rattle.row_types.specs.CellRef.{is_null, number_of}
use Rattle.avro_cells.specs.Value.{plain_cell, cell_of_level, cell_of, values_of_level, values_of}
use Rattle.stored_rows.specs.Row.{cell_at, cell_with}
use Rattle.stored_rows.specs.Row.{stored_row}
use Rattle.stored_rows.specs.Stored.{HasNoNull}
use Rattle.row_writing.specs.Writing.{file_schema, column_field, lineage_fields, are_plain_names, cell_datum}
use Rattle.row_writing.specs.Writing.{optional_datum, cell_data, number_datum, lineage_data, row_datum, kept}
use Rattle.row_writing.proofs.WrittenSchema.{written_fields, this_id, other_id, first_id, later_ids, no_column}

-- both of two tests are passed
pub both_true : (a b : Bool) → (a && b) ≡ true → (a ≡ true) × (b ≡ true)
both_true true b passed = (refl, passed)
both_true false b passed = absurd cc

-- functions that are alike on a list
maps_alike : {A B : Type 0} (f g : A → B) (xs : List A) → All (λ (x : A). f x ≡ g x) xs → map f xs ≡ map g xs
maps_alike {A} f g [] alike = refl
maps_alike {A} f g (x ∷ xs) alike = ap₂ (λ y ys. y ∷ ys) (All-head (λ (x : A). f x ≡ g x) x xs alike) (maps_alike f g xs (All-tail (λ (x : A). f x ≡ g x) x xs alike))

-- ---- a cell's value is the cell

-- what a value is made of
out_of : (datum : Datum) (level : Level) → roll-Datum level ≡ datum → out-Datum datum ≡ level
out_of datum level is = ap out-Datum (sym is) ∙ out-roll-Datum level

-- the null is made of null
pub out_null : out-Datum datums.Null ≡ layers.Null
out_null = out_of datums.Null layers.Null datums.rolls-Null

-- a branch is made of its place and its value
pub out_branch : (place : ℕ) (inside : Datum) → out-Datum (datums.Branch place inside) ≡ layers.Branch place inside
out_branch place inside = out_of (datums.Branch place inside) (layers.Branch place inside) (datums.rolls-Branch place inside)

-- a record is made of its values
pub out_record : (values : List Datum) → out-Datum (datums.Rec values) ≡ layers.Rec values
out_record values = out_of (datums.Rec values) (layers.Rec values) (datums.rolls-Rec values)

-- the level of a cell's value
abbrev cell_level : Cell → Level
cell_level cells.Null = layers.Null
cell_level (cells.Flag flag) = layers.Flag flag
cell_level (cells.Num number) = layers.Num number
cell_level (cells.Text text) = layers.Str text
cell_level (cells.Bytes bytes) = layers.Raw bytes

-- a cell's value is of this level
out_cell : (cell : Cell) → out-Datum (cell_datum cell) ≡ cell_level cell
out_cell cells.Null = out_null
out_cell (cells.Flag flag) = out_of (datums.Flag flag) (layers.Flag flag) (datums.rolls-Flag flag)
out_cell (cells.Num number) = out_of (datums.Num number) (layers.Num number) (datums.rolls-Num number)
out_cell (cells.Text text) = out_of (datums.Str text) (layers.Str text) (datums.rolls-Str text)
out_cell (cells.Bytes bytes) = out_of (datums.Raw bytes) (layers.Raw bytes) (datums.rolls-Raw bytes)

-- the level is read as the cell, alone and in a branch
level_is_cell : (cell : Cell) → (plain_cell (cell_level cell) ≡ cell) × (cell_of_level (cell_level cell) ≡ cell)
level_is_cell cells.Null = (refl, refl)
level_is_cell (cells.Flag flag) = (refl, refl)
level_is_cell (cells.Num number) = (refl, refl)
level_is_cell (cells.Text text) = (refl, refl)
level_is_cell (cells.Bytes bytes) = (refl, refl)

-- a cell's value is read as the cell
bare_is_cell : (cell : Cell) → cell_of (Some (cell_datum cell)) ≡ cell
bare_is_cell cell = ap cell_of_level (out_cell cell) ∙ (level_is_cell cell).1

-- and so it is in a branch
branch_is_cell : (place : ℕ) (cell : Cell) → cell_of (Some (datums.Branch place (cell_datum cell))) ≡ cell
branch_is_cell place cell = ap cell_of_level (out_branch place (cell_datum cell)) ∙ (ap plain_cell (out_cell cell) ∙ (level_is_cell cell).0)

-- and so is the value of a cell where null may stand
optional_is_cell : (cell : Cell) → cell_of (Some (optional_datum cell)) ≡ cell
optional_is_cell cells.Null = branch_is_cell 0 cells.Null
optional_is_cell (cells.Flag flag) = branch_is_cell 1 (cells.Flag flag)
optional_is_cell (cells.Num number) = branch_is_cell 1 (cells.Num number)
optional_is_cell (cells.Text text) = branch_is_cell 1 (cells.Text text)
optional_is_cell (cells.Bytes bytes) = branch_is_cell 1 (cells.Bytes bytes)

-- the value of a cell in a column is the cell
datum_is_cell : (required : Bool) (cell : Cell) → cell_of (Some (if required then cell_datum cell else optional_datum cell)) ≡ cell
datum_is_cell true cell = bare_is_cell cell
datum_is_cell false cell = optional_is_cell cell

-- the value of a number that may be absent is the number
datum_is_number : (number : Option ℤ) → number_of (cell_of (Some (number_datum number))) ≡ number
datum_is_number None = ap number_of (branch_is_cell 0 cells.Null)
datum_is_number (Some number) = ap number_of (branch_is_cell 1 (cells.Num number))

-- ---- the value of each field

-- the place of a field that is found moves with those before it
moved : (fields : List Field) (values : List Datum) (value : Datum) (id : ℤ) (place : ℕ) → cell_at (value ∷ values) (find_from (place + 1) id fields) ≡ cell_at values (find_from place id fields)
unfolding find_from
moved [] values value id place = refl
moved (field ∷ fields) values value id place = by_this (is_this id (out-Field field).id) (moved fields values value id (place + 1))
  where
    by_this : (this : Bool) → cell_at (value ∷ values) (find_from (place + 1 + 1) id fields) ≡ cell_at values (find_from (place + 1) id fields)
        → cell_at (value ∷ values) (if this then Some (place + 1, (out-Field field).schema) else find_from (place + 1 + 1) id fields) ≡ cell_at values (if this then Some (place, (out-Field field).schema) else find_from (place + 1) id fields)
    by_this true later = ap cell_of (rw add-one refl)
    by_this false later = later

-- a field's value stands where the field does
cell_here : (field : Field) (fields : List Field) (value : Datum) (values : List Datum) (id : ℤ) → is_this id (out-Field field).id ≡ true → cell_with (field ∷ fields) (value ∷ values) id ≡ cell_of (Some value)
unfolding find_from
cell_here field fields value values id this = rw this refl

-- another field is passed over with its value
cell_behind : (field : Field) (fields : List Field) (value : Datum) (values : List Datum) (id : ℤ) → is_this id (out-Field field).id ≡ false → cell_with (field ∷ fields) (value ∷ values) id ≡ cell_with fields values id
unfolding find_from
cell_behind field fields value values id other = rw other (moved fields values value id 0)

-- the values of columns are passed over in the search for another id
cell_behind_columns : (plain : Bool) (columns : List Column) (row : List Cell) (more : List Field) (values : List Datum) (id : ℤ) → fits_row columns row ≡ true → All (λ (column : Column). column.id ≢ id) columns
    → cell_with (map (column_field plain) columns ++ more) (cell_data columns row ++ values) id ≡ cell_with more values id
unfolding fits_row
cell_behind_columns plain [] [] more values id fit others = refl
cell_behind_columns plain [] (cell ∷ row) more values id fit others = absurd cc
cell_behind_columns plain (column ∷ columns) [] more values id fit others = absurd cc
cell_behind_columns plain (column ∷ columns) (cell ∷ row) more values id fit others =
    cell_behind (column_field plain column) (map (column_field plain) columns ++ more) _ (cell_data columns row ++ values) id (other_id id column.id (All-head (λ (column : Column). column.id ≢ id) column columns others))
    ∙ cell_behind_columns plain columns row more values id (both_true (cell_fits column cell) (fits_row columns row) fit).1 (All-tail (λ (column : Column). column.id ≢ id) column columns others)

-- the cells of columns are those of the row
cells_stored : (plain : Bool) (columns : List Column) (row : List Cell) (more : List Field) (values : List Datum) → fits_row columns row ≡ true → AllPairs (λ (a b : Column). a.id ≢ b.id) columns
    → map (λ (column : Column). cell_with (map (column_field plain) columns ++ more) (cell_data columns row ++ values) column.id) columns ≡ row
unfolding fits_row
cells_stored plain [] [] more values fit distinct = refl
cells_stored plain [] (cell ∷ row) more values fit distinct = absurd cc
cells_stored plain (column ∷ columns) [] more values fit distinct = absurd cc
cells_stored plain (column ∷ columns) (cell ∷ row) more values fit distinct =
    let fields : List Field = map (column_field plain) columns ++ more in
    let held : List Datum = cell_data columns row ++ values in
    let value : Datum = if column.required then cell_datum cell else optional_datum cell in
    let others = first_id column columns distinct in
    ap₂ (λ (x : Cell) (xs : List Cell). x ∷ xs)
    (cell_here (column_field plain column) fields value held column.id (this_id column.id) ∙ datum_is_cell column.required cell)
    (maps_alike (λ (other : Column). cell_with (column_field plain column ∷ fields) (value ∷ held) other.id) (λ (other : Column). cell_with fields held other.id) columns (λ k d within.
    let other = get_or columns k d in
    cell_behind (column_field plain column) fields value held other.id (other_id other.id column.id (others k d within)))
    ∙ cells_stored plain columns row more values (both_true (cell_fits column cell) (fits_row columns row) fit).1 (later_ids column columns distinct))

-- ---- the row that is stored

-- the id of the row, and its last change, where they are written
record AreKept (lineage : Bool) (row : StoredRow) : Type 0 where
  id : number_of (cell_with (lineage_fields lineage) (lineage_data lineage row) row_id_field) ≡ (kept lineage row).id
  last : number_of (cell_with (lineage_fields lineage) (lineage_data lineage row) last_updated_field) ≡ (kept lineage row).last

-- they are kept
lineage_kept : (lineage : Bool) (row : StoredRow) → AreKept lineage row
unfolding find_from
lineage_kept false row = record { id = refl; last = refl }
lineage_kept true row = record { id = datum_is_number row.id; last = datum_is_number row.last }

-- a row is its parts
row_of_parts : (lineage : Bool) (row : StoredRow) (id last : Option ℤ) (cells : List Cell) → id ≡ (kept lineage row).id → last ≡ (kept lineage row).last → cells ≡ row.cells → record { id = id; last = last; cells = cells } ≡ kept lineage row
row_of_parts false row id last cells id_is last_is cells_are = rw (id_is, last_is, cells_are) refl
row_of_parts true row id last cells id_is last_is cells_are = rw (id_is, last_is, cells_are) refl

-- the values of a row's value
row_values : (columns : List Column) (lineage : Bool) (row : StoredRow) → values_of (row_datum columns lineage row) ≡ cell_data columns row.cells ++ lineage_data lineage row
row_values columns lineage row =
    ap values_of_level (out_record (cell_data columns row.cells ++ lineage_data lineage row))

-- a row's value stores the row, as it is kept
pub row_stored : (columns : List Column) (lineage : Bool) (row : StoredRow) → IsColumns columns → fits_row columns row.cells ≡ true → stored_row columns (fields_of (file_schema columns lineage)) (values_of (row_datum columns lineage row)) ≡ kept lineage row
row_stored columns lineage row are fit =
    let plain = are_plain_names columns in
    let fields : List Field = map (column_field plain) columns ++ lineage_fields lineage in
    let values : List Datum = cell_data columns row.cells ++ lineage_data lineage row in
    let keeps = lineage_kept lineage row in
    let behind = λ (id : ℤ) (reserved : pos 2147483448 ≤ℤ id). ap number_of (cell_behind_columns plain columns row.cells (lineage_fields lineage) (lineage_data lineage row) id fit (no_column id reserved columns are)) in
    ap₂ (λ (fields : List Field) (values : List Datum). stored_row columns fields values) (written_fields columns lineage) (row_values columns lineage row)
    ∙ row_of_parts lineage row (number_of (cell_with fields values row_id_field)) (number_of (cell_with fields values last_updated_field)) (map (λ (column : Column). cell_with fields values column.id) columns)
    (behind row_id_field (omega (arith, ints)) ∙ keeps.id)
    (behind last_updated_field (omega (arith, ints)) ∙ keeps.last)
    (cells_stored plain columns row.cells (lineage_fields lineage) (lineage_data lineage row) fit are.distinct_ids)

-- what fits a required column is no null
not_null : (column : Column) (cell : Cell) → cell_fits column cell ≡ true → column.required ≡ true → is_null cell ≡ false
not_null column cells.Null fit required = let no : not column.required ≡ false = rw required refl in absurd cc
not_null column (cells.Flag flag) fit required = refl
not_null column (cells.Num number) fit required = refl
not_null column (cells.Text text) fit required = refl
not_null column (cells.Bytes bytes) fit required = refl

-- a row that fits has no null in a required column
pub no_null : (columns : List Column) (row : List Cell) → fits_row columns row ≡ true → HasNoNull columns row
unfolding fits_row
no_null [] row fit = tt
no_null (column ∷ columns) [] fit = tt
no_null (column ∷ columns) (cell ∷ row) fit =
    let passed = both_true (cell_fits column cell) (fits_row columns row) fit in
    (not_null column cell passed.0, no_null columns row passed.1)
