-- The file that is written of rows stores them.
use Rattle.std.proofs.Common.{◌≡◌, ℕ, Bool, true, List, map, refl}
use Rattle.std.specs.List.{All}
use Rattle.row_types.specs.declared.column.Column.{Column}
use Rattle.row_types.specs.declared.row.StoredRow.{StoredRow}
use Rattle.row_types.specs.Columns.{IsColumns}
use Rattle.row_types.specs.Fits.{fits_row}
use Rattle.avro_schema.specs.Meaning.{IsSchemaText}
use Rattle.avro_schema.specs.Printing.{schema_text}
use Rattle.datum_tree.specs.Spelling.{IsEncoding}
use Rattle.datum_writing.specs.Canonical.{canonical}
use Rattle.avro_container.specs.Format.{IsContainer}
use Rattle.stored_rows.specs.Stored.{StoresRows}
use Rattle.row_writing.specs.Writing.{file_schema, row_datum, kept, file_container}
use Rattle.row_writing.proofs.WrittenSchema.{readable}
use Rattle.row_writing.proofs.WrittenBlocks.{blocks_stored}

-- a file of the container of rows stores the rows, as they are kept
pub file_stores : (bytes : List ℕ) (columns : List Column) (sync : List ℕ) (lineage : Bool) (rows : List StoredRow) → IsContainer bytes (file_container columns sync lineage rows)
    → IsSchemaText (schema_text (file_schema columns lineage)) (file_schema columns lineage) → IsColumns columns → All (λ (row : StoredRow). fits_row columns row.cells ≡ true) rows
    → All (λ (row : StoredRow). IsEncoding (file_schema columns lineage) (row_datum columns lineage row) (canonical (file_schema columns lineage) (row_datum columns lineage row))) rows
    → StoresRows bytes columns (map (kept lineage) rows)
file_stores bytes columns sync lineage rows framed written are fit encoded = record {
  container = file_container columns sync lineage rows;
  schema = file_schema columns lineage;
  text = schema_text (file_schema columns lineage);
  framed = framed;
  bound = refl;
  written = written;
  readable = readable columns lineage are;
  blocks = blocks_stored columns lineage rows are fit encoded;
}
