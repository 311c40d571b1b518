-- The data file that is written of rows.
-- Iceberg spec, "Appendix A: Format-specific Requirements", "Avro"; Avro 1.11, "Object Container Files".
use Rattle.std.specs.Prelude.{ℕ, zero, suc, ℤ, pos, Bool, true, false, not, ◌&&◌, List, [], ◌∷◌, ◌++◌, length, map}
use Rattle.std.specs.Prelude.{take, drop, Option, Some, None, Result, Ok, Err, nat_lt, codes, if◌then◌else◌}
use Rattle.std.specs.Fmt.{signed_decimal}
use Rattle.std.specs.List.{flat_map, list_all}
use Rattle.std.specs.Str.{bytes_eq}
use Rattle.row_types.specs.declared.cell.Cell.{Cell}
use Rattle.row_types.specs.declared.cell.Cell.TheVariants as cells
use Rattle.row_types.specs.declared.column.Column.{Column}
use Rattle.row_types.specs.declared.row.StoredRow.{StoredRow}
use Rattle.limits.specs.declared.which.Which.TheVariants.{FileRows, Object}
use Rattle.schema_tree.specs.declared.schema.Schema.{Schema}
use Rattle.schema_tree.specs.declared.schema.Schema.TheVariants as schemas
use Rattle.schema_tree.specs.declared.schema.Field.{Field, roll-Field}
use Rattle.schema_tree.specs.declared.logical.Logical.TheVariants.{Plain}
use Rattle.avro_schema.specs.Printing.{schema_text}
use Rattle.avro_schema.specs.Printable.{is_avro_name}
use Rattle.avro_cells.specs.Kind.{written_type, optional_type}
use Rattle.datum_tree.specs.declared.datum.Datum.{Datum}
use Rattle.datum_tree.specs.declared.datum.Datum.TheVariants as datums
use Rattle.datum_writing.specs.Canonical.{canonical}
use Rattle.avro_container.specs.declared.container.Block.{Block}
use Rattle.avro_container.specs.declared.container.Container.{Container}
use Rattle.avro_container.specs.Header.{schema_key, codec_key}
use Rattle.avro_container.specs.Container.{most_bytes}
use Rattle.avro_container.specs.Writing.{container_text}
use Rattle.stored_rows.specs.declared.refusal.RowRefusal.{RowRefusal}
use Rattle.stored_rows.specs.declared.refusal.RowRefusal.TheVariants.{Limit}
use Rattle.stored_rows.specs.Field.{row_id_field, last_updated_field}
use Rattle.limits.specs.Limits.{most_rows}

-- a field of this name and id
abbrev pub field_of : List ℕ → ℤ → Schema → Field
field_of name id schema = roll-Field (record { name = name; id = Some id; schema = schema })

-- the names of the lineage columns
abbrev pub row_id_name : List ℕ
row_id_name = codes "_row_id"

abbrev pub last_updated_name : List ℕ
last_updated_name = codes "_last_updated_sequence_number"

-- the name can stand in a schema as it is
abbrev pub is_plain_name : List ℕ → Bool
is_plain_name name = is_avro_name name && not (bytes_eq name row_id_name) && not (bytes_eq name last_updated_name)

abbrev pub are_plain_names : List Column → Bool
are_plain_names columns = list_all (λ (column : Column). is_plain_name column.name) columns

-- the name of a column's field: its own where all names are plain, else `f` and the column's id
abbrev pub field_name : Bool → Column → List ℕ
field_name true column = column.name
field_name false column = codes "f" ++ signed_decimal column.id

-- a column's field
abbrev pub column_field : Bool → Column → Field
column_field plain column =
    field_of (field_name plain column) column.id
    (if column.required then written_type column.kind else optional_type (written_type column.kind))

-- the fields of the lineage columns, where they are written
abbrev pub lineage_fields : Bool → List Field
lineage_fields false = []
lineage_fields true =
    field_of row_id_name row_id_field (optional_type (schemas.Long Plain)) ∷ field_of last_updated_name
    last_updated_field (optional_type (schemas.Long Plain)) ∷ []

-- the schema of a file of rows
abbrev pub file_schema : List Column → Bool → Schema
file_schema columns lineage =
    schemas.Rec (codes "row") (map (column_field (are_plain_names columns)) columns ++ lineage_fields lineage)

-- ---- rows as values

-- the value of a cell
abbrev pub cell_datum : Cell → Datum
cell_datum cells.Null = datums.Null
cell_datum (cells.Flag flag) = datums.Flag flag
cell_datum (cells.Num number) = datums.Num number
cell_datum (cells.Text text) = datums.Str text
cell_datum (cells.Bytes bytes) = datums.Raw bytes

-- the value of a cell where null may stand
abbrev pub optional_datum : Cell → Datum
optional_datum cells.Null = datums.Branch 0 datums.Null
optional_datum (cells.Flag flag) = datums.Branch 1 (datums.Flag flag)
optional_datum (cells.Num number) = datums.Branch 1 (datums.Num number)
optional_datum (cells.Text text) = datums.Branch 1 (datums.Str text)
optional_datum (cells.Bytes bytes) = datums.Branch 1 (datums.Raw bytes)

-- the values of a row's cells, one for each column
abbrev pub cell_data : List Column → List Cell → List Datum
cell_data [] cells = []
cell_data (column ∷ columns) [] = []
cell_data (column ∷ columns) (cell ∷ cells) =
    (if column.required then cell_datum cell else optional_datum cell) ∷ cell_data columns cells

-- a number that may be absent
abbrev pub number_datum : Option ℤ → Datum
number_datum None = datums.Branch 0 datums.Null
number_datum (Some number) = datums.Branch 1 (datums.Num number)

abbrev pub lineage_data : Bool → StoredRow → List Datum
lineage_data false row = []
lineage_data true row = number_datum row.id ∷ number_datum row.last ∷ []

abbrev pub row_datum : List Column → Bool → StoredRow → Datum
row_datum columns lineage row = datums.Rec (cell_data columns row.cells ++ lineage_data lineage row)

-- the row as it is stored: without its id and its last change where these are not written
abbrev pub kept : Bool → StoredRow → StoredRow
kept true row = row
kept false row = record { id = None; last = None; cells = row.cells }

-- ---- the file

-- the most rows of a block that is written
abbrev pub block_size : ℕ
block_size = 1000

-- the block of these rows
abbrev pub block_of : List Column → Bool → List StoredRow → Block
block_of columns lineage rows = record {
  count = pos (length rows);
  bytes = flat_map (λ row. canonical (file_schema columns lineage) (row_datum columns lineage row)) rows;
}

-- rows in blocks: full ones, and the rest in a last one
unfoldable pub blocks_of : ℕ → List Column → Bool → List StoredRow → List Block
blocks_of zero columns lineage rows = []
blocks_of (suc tries) columns lineage [] = []
blocks_of (suc tries) columns lineage (row ∷ rows) =
    block_of columns lineage (take block_size (row ∷ rows)) ∷ blocks_of tries columns lineage
    (drop block_size (row ∷ rows))

-- the container of a file of rows
abbrev pub file_container : List Column → List ℕ → Bool → List StoredRow → Container
file_container columns sync lineage rows = record {
  meta = (schema_key, schema_text (file_schema columns lineage)) ∷ (codec_key, codes "null") ∷ [];
  sync = sync;
  blocks = blocks_of (length rows) columns lineage rows;
}

-- the bytes, where they are no more than an object may have
abbrev pub within_limit : List ℕ → Result (List ℕ) RowRefusal
within_limit bytes = if nat_lt most_bytes (length bytes) then Err (Limit Object (length bytes)) else Ok bytes

-- the file of rows: there are not too many of them, and not too many bytes
unfoldable pub file_of : List Column → List ℕ → Bool → List StoredRow → Result (List ℕ) RowRefusal
file_of columns sync lineage rows =
    if nat_lt most_rows (length rows) then Err (Limit FileRows (length rows))
    else within_limit (container_text (file_container columns sync lineage rows))
