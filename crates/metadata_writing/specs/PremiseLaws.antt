-- Metadata whose printed text is read as it: what a caller may ask for in place of `IsTable`.
use Rattle.std.proofs.Common.{◌≡◌, Ok}
use Rattle.metadata_reading.specs.declared.meta.TableMeta.{TableMeta}
use Rattle.metadata_reading.specs.Reading.{meta_of_text}
use Rattle.metadata_reading.specs.Table.{IsTable}
use Rattle.metadata_reading.specs.TableLaws.{text_table}
use Rattle.metadata_reading.specs.TextLaws.{text_found}
use Rattle.metadata_writing.specs.Printing.{meta_text}

-- metadata whose text is read as it is the metadata of a table
pub read_table : (m : TableMeta) → meta_of_text (meta_text m) ≡ Ok m → IsTable m
read_table m is = text_table (meta_text m) m (text_found (meta_text m) m is)
