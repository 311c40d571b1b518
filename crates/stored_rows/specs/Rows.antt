-- The rows of a data file, as they are read at their positions.
-- Iceberg spec, "Row Lineage".
use Rattle.std.specs.Prelude.{ℕ, ◌+◌, ℤ, List, [], ◌∷◌, Option}
use Rattle.row_types.specs.declared.row.Row.{Row}
use Rattle.row_types.specs.declared.row.StoredRow.{StoredRow}
use Rattle.stored_rows.specs.Row.{read_row}

-- the rows that are read at each position, in order
unfoldable pub rows_from : Option ℤ → ℤ → ℕ → List StoredRow → List Row
rows_from first sequence position [] = []
rows_from first sequence position (stored ∷ others) =
    read_row first sequence position stored ∷ rows_from first sequence (position + 1) others
