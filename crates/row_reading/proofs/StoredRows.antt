-- A row of a file by the relation: what is read is stored so, and what is stored so is read.
use Rattle.std.proofs.Common.{◌≡◌, ℕ, List, [], ◌∷◌, refl, sym, ap, subst, ◌∙◌}
use Rattle.std.specs.Prelude.{drop, map}
use Rattle.words.specs.Parts.{took_as}
use Rattle.row_types.specs.declared.cell.Cell.{Cell}
use Rattle.row_types.specs.declared.column.Column.{Column}
use Rattle.row_types.specs.declared.row.StoredRow.{StoredRow}
use Rattle.schema_tree.specs.declared.schema.Schema.{Schema}
use Rattle.objects.specs.Object.{Agrees}
use Rattle.fields.specs.Wanted.{fields_of, wanted_of}
use Rattle.fields.specs.Record.{RecordAgrees}
use Rattle.fields.specs.Record.{HasNoNull as WantsNoNull}
use Rattle.stored_rows.specs.Stored.{AreReadable, HasNoNull, StoresRow}
use Rattle.records.specs.Record.{Means}
use Rattle.records.specs.MeansLaws.{means}
use Rattle.row_reading.specs.Wanted.{column_wanted, row_wanted, row_of_cells, field_refusal}
use Rattle.row_reading.specs.File.{row_at}
use Rattle.row_reading.proofs.RowLaws.{cells_make}

-- ---- nulls

-- cells with no null in a wanted field have none in a column
nulls_stay : (columns : List Column) (cells : List Cell) → WantsNoNull (map column_wanted columns) cells → HasNoNull columns cells
nulls_stay [] cells none = tt
nulls_stay (column ∷ columns) [] none = tt
nulls_stay (column ∷ columns) (cell ∷ cells) none = (none.0, nulls_stay columns cells none.1)

nulls_again : (columns : List Column) (cells : List Cell) → HasNoNull columns cells → WantsNoNull (map column_wanted columns) cells
nulls_again [] cells none = tt
nulls_again (column ∷ columns) [] none = tt
nulls_again (column ∷ columns) (cell ∷ cells) none = (none.0, nulls_again columns cells none.1)

no_cells : (columns : List Column) → HasNoNull columns []
no_cells [] = tt
no_cells (column ∷ columns) = tt

-- the cells of columns stand behind the two of lineage
row_nulls : (columns : List Column) (cells : List Cell) → WantsNoNull (row_wanted columns) cells → HasNoNull columns (drop 2 cells)
row_nulls columns [] none = no_cells columns
row_nulls columns (id ∷ []) none = no_cells columns
row_nulls columns (id ∷ last ∷ cells) none = nulls_stay columns cells none.1.1

-- ---- a row

module _ (schema : Schema) (columns : List Column) (readable : AreReadable columns (fields_of schema)) where
  -- a row that a record means is stored
  row_meant : (row : StoredRow) (bytes : List ℕ) → Means row_of_cells schema (row_wanted columns) row bytes
      → StoresRow columns schema row bytes
  row_meant row bytes means =
      let stores = means.stored in
      let same : row ≡ row_of_cells means.cells = means.value_is in
      record {
        datum = stores.datum;
        encoded = stores.encoded;
        stored = same ∙ (ap row_of_cells stores.stored ∙ cells_make columns schema stores.datum readable);
        nulls = subst (λ (r : StoredRow). HasNoNull columns r.cells) (sym same) (row_nulls columns means.cells stores.nulls);
      }

  -- and back
  row_means : (row : StoredRow) (bytes : List ℕ) → StoresRow columns schema row bytes
      → Means row_of_cells schema (row_wanted columns) row bytes
  row_means row bytes stores =
      let same = stores.stored ∙ sym (cells_make columns schema stores.datum readable) in
      let cells = wanted_of (row_wanted columns) schema stores.datum in
      let none : HasNoNull columns (drop 2 cells) = subst (λ (r : StoredRow). HasNoNull columns r.cells) same stores.nulls in
      record {
        cells = cells;
        value_is = same;
        stored = record {
          datum = stores.datum;
          encoded = stores.encoded;
          stored = refl;
          nulls = ((λ required. absurd cc), ((λ required. absurd cc), nulls_again columns (drop 2 cells) none));
        };
      }

  -- the reading of a row agrees with what a row's bytes store
  pub rows_agree : RecordAgrees schema (row_wanted columns) → Agrees (row_at schema columns) (StoresRow columns schema)
  rows_agree agrees =
      let read = means row_of_cells field_refusal schema (row_wanted columns) agrees in
      record {
        sound = λ input place taken is.
            took_as input place taken.1 (λ bytes stored. row_meant taken.0 bytes stored) (read.sound input place taken is);
        complete = λ input place after row bytes stores stand.
            read.complete input place after row bytes (row_means row bytes stores) stand;
      }
