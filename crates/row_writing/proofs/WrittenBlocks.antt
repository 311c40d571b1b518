-- The blocks of rows that are written store the rows, and a container of them has a file.
use Rattle.std.proofs.Common.{◌≡◌, ℕ, zero, suc, ◌<◌, ◌≤◌, Bool, true, false, List, [], ◌∷◌, ◌++◌, length, map, take}
use Rattle.std.proofs.Common.{drop, refl, sym, ap, ◌∙◌, arith}
use Rattle.std.specs.Prelude.{pos, ◌≤ℤ◌}
use Rattle.std.specs.List.{All, flat_map}
use Rattle.std.proofs.lemmas.Int.{ints}
use Rattle.std.proofs.lemmas.List.{length-map, length-drop, take-append-drop}
use Rattle.std.proofs.lemmas.List.Elements.{All-nil, All-cons, All-head, All-tail, All-take, All-drop}
use Rattle.row_types.specs.declared.column.Column.{Column}
use Rattle.row_types.specs.declared.row.StoredRow.{StoredRow}
use Rattle.row_types.specs.Columns.{IsColumns}
use Rattle.row_types.specs.Fits.{fits_row}
use Rattle.avro_wire.specs.Blocks.{SpellsItems}
use Rattle.datum_tree.specs.Spelling.{IsEncoding}
use Rattle.datum_writing.specs.Canonical.{canonical}
use Rattle.avro_container.specs.declared.container.Block.{Block}
use Rattle.avro_container.specs.Writing.{IsWritable}
use Rattle.objects.specs.Held.{HoldsBlock, Hold}
use Rattle.stored_rows.specs.Stored.{StoresRow}
use Rattle.row_writing.specs.Writing.{file_schema, row_datum, kept, block_size, block_of, blocks_of, file_container}
use Rattle.row_writing.proofs.WrittenRows.{row_stored, no_null}

-- a row that fits, whose value can be encoded
pub record IsRight (columns : List Column) (lineage : Bool) (row : StoredRow) : Type 0 where
  pub fit : fits_row columns row.cells ≡ true
  pub encoded : IsEncoding (file_schema columns lineage) (row_datum columns lineage row) (canonical (file_schema columns lineage) (row_datum columns lineage row))

-- the row as it is kept has the row's cells
kept_cells : (lineage : Bool) (row : StoredRow) → (kept lineage row).cells ≡ row.cells
kept_cells true row = refl
kept_cells false row = refl

-- a map over two lists, one behind the other
map_append : {A B : Type 0} (f : A → B) (front rest : List A) → map f (front ++ rest) ≡ map f front ++ map f rest
map_append f [] rest = refl
map_append f (x ∷ front) rest = ap (λ ys. f x ∷ ys) (map_append f front rest)

-- a list without so many of its items is shorter
shorter : {A : Type 0} (size tries : ℕ) (x : A) (xs : List A) → 0 < size → length (x ∷ xs) ≤ suc tries → length (drop size (x ∷ xs)) ≤ tries
shorter size tries x xs some few = omega (arith, length-drop size (x ∷ xs))

-- ---- what is stored

module _ (columns : List Column) (lineage : Bool) (are : IsColumns columns) where
  -- the bytes of a row's value store the row
  row_bytes : (row : StoredRow) → IsRight columns lineage row → StoresRow columns (file_schema columns lineage) (kept lineage row) (canonical (file_schema columns lineage) (row_datum columns lineage row))
  row_bytes row right = record {
    datum = row_datum columns lineage row;
    encoded = right.encoded;
    stored = sym (row_stored columns lineage row are right.fit);
    nulls = rw (kept_cells lineage row) (no_null columns row.cells right.fit);
  }

  -- the bytes of rows, one behind the other
  rows_bytes : (rows : List StoredRow) → All (IsRight columns lineage) rows
      → SpellsItems (StoresRow columns (file_schema columns lineage)) (map (kept lineage) rows) (flat_map (λ row. canonical (file_schema columns lineage) (row_datum columns lineage row)) rows)
  rows_bytes [] right = refl
  rows_bytes (row ∷ rows) right = record {
    front = canonical (file_schema columns lineage) (row_datum columns lineage row);
    rest = flat_map (λ row. canonical (file_schema columns lineage) (row_datum columns lineage row)) rows;
    parts = refl;
    first = row_bytes row (All-head (IsRight columns lineage) row rows right);
    second = rows_bytes rows (All-tail (IsRight columns lineage) row rows right);
  }

  -- a block stores its rows
  block_stored : (rows : List StoredRow) → All (IsRight columns lineage) rows → HoldsBlock (StoresRow columns (file_schema columns lineage)) (map (kept lineage) rows) (block_of columns lineage rows)
  block_stored rows right = record { many = sym (length-map rows (kept lineage)); spelled = rows_bytes rows right }

  -- and blocks theirs
  blocks_from : (tries : ℕ) (rows : List StoredRow) → length rows ≤ tries → All (IsRight columns lineage) rows → Hold (StoresRow columns (file_schema columns lineage)) (blocks_of tries columns lineage rows) (map (kept lineage) rows)
  unfolding blocks_of
  blocks_from zero [] few right = refl
  blocks_from zero (row ∷ rows) few right = absurd (omega arith)
  blocks_from (suc tries) [] few right = refl
  blocks_from (suc tries) (row ∷ rows) few right = record {
    front = map (kept lineage) (take block_size (row ∷ rows));
    rest = map (kept lineage) (drop block_size (row ∷ rows));
    parts = ap (map (kept lineage)) (sym (take-append-drop block_size (row ∷ rows))) ∙ map_append (kept lineage) (take block_size (row ∷ rows)) (drop block_size (row ∷ rows));
    first = block_stored (take block_size (row ∷ rows)) (All-take (IsRight columns lineage) block_size (row ∷ rows) right);
    others = blocks_from tries (drop block_size (row ∷ rows)) (shorter block_size tries row rows (omega arith) few) (All-drop (IsRight columns lineage) block_size (row ∷ rows) right);
  }

-- the blocks that are written store the rows, as they are kept
pub blocks_stored : (columns : List Column) (lineage : Bool) (rows : List StoredRow) → IsColumns columns → All (λ (row : StoredRow). fits_row columns row.cells ≡ true) rows
    → All (λ (row : StoredRow). IsEncoding (file_schema columns lineage) (row_datum columns lineage row) (canonical (file_schema columns lineage) (row_datum columns lineage row))) rows
    → Hold (StoresRow columns (file_schema columns lineage)) (blocks_of (length rows) columns lineage rows) (map (kept lineage) rows)
blocks_stored columns lineage rows are fit encoded =
    blocks_from columns lineage are (length rows) rows (omega arith) (λ k d within. record { fit = fit k d within; encoded = encoded k d within })

-- ---- what can be written

-- no count is below 0
counts_right : (tries : ℕ) (columns : List Column) (lineage : Bool) (rows : List StoredRow) → All (λ (block : Block). pos 0 ≤ℤ block.count) (blocks_of tries columns lineage rows)
unfolding blocks_of
counts_right zero columns lineage rows = All-nil (λ (block : Block). pos 0 ≤ℤ block.count)
counts_right (suc tries) columns lineage [] = All-nil (λ (block : Block). pos 0 ≤ℤ block.count)
counts_right (suc tries) columns lineage (row ∷ rows) =
    All-cons (λ (block : Block). pos 0 ≤ℤ block.count) (block_of columns lineage (take block_size (row ∷ rows))) (blocks_of tries columns lineage (drop block_size (row ∷ rows)))
    (omega (arith, ints)) (counts_right tries columns lineage (drop block_size (row ∷ rows)))

-- the container of rows has a file
pub writable : (columns : List Column) (sync : List ℕ) (lineage : Bool) (rows : List StoredRow) → IsWritable (file_container columns sync lineage rows)
writable columns sync lineage rows = record {
  few = omega arith;
  distinct = (refl, (refl, tt));
  schema = refl;
  codec = refl;
  counts = counts_right (length rows) columns lineage rows;
}
