-- What is known of the schema and of each row that is written.
use Rattle.std.specs.Prelude.{◌≡◌, ℕ, ℤ, Bool, true, List, Option, IfSome, Ok}
use Rattle.row_types.specs.Fits.{is_long}
use Rattle.row_types.specs.declared.cell.Cell.{Cell}
use Rattle.row_types.specs.declared.cell.Cell.TheVariants as cells
use Rattle.row_types.specs.declared.column.Column.{Column}
use Rattle.row_types.specs.declared.row.StoredRow.{StoredRow}
use Rattle.avro_schema.specs.Printing.{schema_text}
use Rattle.avro_schema.specs.Reading.{schema_of}
use Rattle.datum_writing.specs.Canonical.{canonical}
use Rattle.datum_writing.specs.Spelled.{IsSized, IsSizedText}
use Rattle.datum_tree.specs.Spelling.{IsEncoding}
use Rattle.row_writing.specs.Writing.{file_schema, row_datum}

-- a number of 64 bits, or none
abbrev pub IsLong : Option ℤ → Type 0
IsLong number = IfSome number (λ number. is_long number ≡ true)

-- the numbers beside a row's cells are of 64 bits
abbrev pub HasLongs : StoredRow → Type 0
HasLongs row = IsLong row.id × IsLong row.last

-- a text is UTF-8, and a long says how many bytes it has, or how many there are of bytes
abbrev pub IsSizedCell : Cell → Type 0
IsSizedCell cells.Null = Unit {0}
IsSizedCell (cells.Flag flag) = Unit {0}
IsSizedCell (cells.Num number) = Unit {0}
IsSizedCell (cells.Text text) = IsSizedText text
IsSizedCell (cells.Bytes bytes) = IsSized bytes

-- the bytes that are written of a row
abbrev pub row_text : List Column → Bool → StoredRow → List ℕ
row_text columns lineage row = canonical (file_schema columns lineage) (row_datum columns lineage row)

-- they are an encoding of the row's value
abbrev pub IsEncodedRow : List Column → Bool → StoredRow → Type 0
IsEncodedRow columns lineage row =
    IsEncoding (file_schema columns lineage) (row_datum columns lineage row) (row_text columns lineage row)

-- the text of a file's schema is read as the schema
abbrev pub IsPrinted : List Column → Bool → Type 0
IsPrinted columns lineage = schema_of (schema_text (file_schema columns lineage)) ≡ Ok (file_schema columns lineage)
