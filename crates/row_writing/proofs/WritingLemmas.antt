-- Rows, put into blocks, and the file of them.
use Rattle.std.proofs.Common.{◌≡◌, ℕ, zero, suc, ◌≤◌, Bool, true, false, List, [], ◌∷◌, ◌++◌, length, take, drop, min}
use Rattle.std.proofs.Common.{All, map, codes, Result, Ok, Err, IfOk, refl, sym, ap, subst, ◌∙◌, append_assoc, arith}
use Rattle.std.proofs.Common.{length-drop}
use Rattle.std.specs.Prelude.{◌==◌}
use Rattle.std.specs.declared.alloc.AllocError.{AllocError}
use Rattle.std.proofs.lemmas.Bool.{eqb-true}
use Rattle.std.proofs.lemmas.List.{nil_from_length, append-nil, take-append-drop, take_min, drop_min}
use Rattle.std.proofs.lemmas.List.Elements.{All-nil, All-append, All-drop}
use Rattle.row_types.specs.declared.column.Column.{Column}
use Rattle.row_types.specs.declared.row.StoredRow.{StoredRow}
use Rattle.row_types.specs.Columns.{IsColumns}
use Rattle.row_types.specs.Fits.{fits_row}
use Rattle.schema_tree.specs.declared.schema.Schema.{Schema}
use Rattle.avro_schema.specs.Printable.{IsPrintable}
use Rattle.avro_schema.specs.Printing.{schema_text}
use Rattle.avro_schema.specs.Reading.{schema_of}
use Rattle.avro_schema.specs.Meaning.{IsSchemaText}
use Rattle.avro_container.specs.declared.container.Block.{Block}
use Rattle.avro_container.specs.declared.container.Container.{Container}
use Rattle.avro_container.specs.Header.{schema_key, codec_key}
use Rattle.avro_container.specs.Format.{IsContainer}
use Rattle.avro_container.specs.Writing.{IsWritable}
use Rattle.stored_rows.specs.Stored.{StoresRows}
use Rattle.row_writing.specs.Writing.{file_schema, kept, block_size, block_of, blocks_of, file_container}
use Rattle.row_writing.specs.Written.{IsEncodedRow, IsPrinted}
use Rattle.row_writing.proofs.WrittenBlocks.{writable}
use Rattle.row_writing.proofs.WrittenPrinted.{printable}
use Rattle.row_writing.proofs.WrittenLaws.{file_stores}

-- ---- blocks

-- as many tries as there are rows are enough, and more of them change nothing
enough_tries : (tries other : ℕ) (columns : List Column) (lineage : Bool) (rows : List StoredRow) → length rows ≤ tries → length rows ≤ other → blocks_of tries columns lineage rows ≡ blocks_of other columns lineage rows
unfolding blocks_of
enough_tries zero zero columns lineage rows low also = refl
enough_tries zero (suc other) columns lineage [] low also = refl
enough_tries zero (suc other) columns lineage (row ∷ rows) low also = absurd (omega arith)
enough_tries (suc tries) zero columns lineage [] low also = refl
enough_tries (suc tries) zero columns lineage (row ∷ rows) low also = absurd (omega arith)
enough_tries (suc tries) (suc other) columns lineage [] low also = refl
enough_tries (suc tries) (suc other) columns lineage (row ∷ rows) low also =
    let less : length (drop block_size (row ∷ rows)) ≤ tries = omega (arith, length-drop block_size (row ∷ rows)) in
    let fewer : length (drop block_size (row ∷ rows)) ≤ other = omega (arith, length-drop block_size (row ∷ rows)) in
    ap (λ (blocks : List Block). block_of columns lineage (take block_size (row ∷ rows)) ∷ blocks) (enough_tries tries other columns lineage (drop block_size (row ∷ rows)) less fewer)

-- the blocks of rows
abbrev pub all_blocks : List Column → Bool → List StoredRow → List Block
all_blocks columns lineage rows = blocks_of (length rows) columns lineage rows

-- some rows have a first block, and those of the rows behind it
first_block : (columns : List Column) (lineage : Bool) (rows : List StoredRow) → (length rows == 0) ≡ false → all_blocks columns lineage rows ≡ block_of columns lineage (take block_size rows) ∷ all_blocks columns lineage (drop block_size rows)
unfolding blocks_of
first_block columns lineage [] some = absurd cc
first_block columns lineage (row ∷ rows) some =
    let rest : List StoredRow = drop block_size (row ∷ rows) in
    let less : length rest ≤ length rows = omega (arith, length-drop block_size (row ∷ rows)) in
    ap (λ (blocks : List Block). block_of columns lineage (take block_size (row ∷ rows)) ∷ blocks) (enough_tries (length rows) (length rest) columns lineage rest less (omega arith))

-- these blocks and those of the rest are all blocks; the rest fits, and where each row of it is an encoding each row is
pub record AreInBlocks (columns : List Column) (lineage : Bool) (rows : List StoredRow) (blocks : List Block) (rest : List StoredRow) : Type 0 where
  pub so_far : blocks ++ all_blocks columns lineage rest ≡ all_blocks columns lineage rows
  pub fits : All (λ (row : StoredRow). fits_row columns row.cells ≡ true) rest
  pub encoded : All (IsEncodedRow columns lineage) rest → All (IsEncodedRow columns lineage) rows

-- no row is in a block yet
pub blocks_begin : (columns : List Column) (lineage : Bool) (rows : List StoredRow) → All (λ (row : StoredRow). fits_row columns row.cells ≡ true) rows → AreInBlocks columns lineage rows [] rows
blocks_begin columns lineage rows fit = record { so_far = refl; fits = fit; encoded = λ each. each }

-- one block more
pub block_more : (columns : List Column) (lineage : Bool) (rows : List StoredRow) (blocks after : List Block) (rest front behind : List StoredRow) (many : ℕ) (block : Block) → (length rest == 0) ≡ false → many ≡ min block_size (length rest)
    → front ≡ take many rest → behind ≡ drop many rest → block ≡ block_of columns lineage front → All (IsEncodedRow columns lineage) front → after ≡ blocks ++ block ∷ []
    → AreInBlocks columns lineage rows blocks rest → AreInBlocks columns lineage rows after behind
block_more columns lineage rows blocks after rest front behind many block some few first others is each more before =
    let front_is : front ≡ take block_size rest = first ∙ ap (λ (n : ℕ). take n rest) few ∙ take_min block_size rest in
    let behind_is : behind ≡ drop block_size rest = others ∙ ap (λ (n : ℕ). drop n rest) few ∙ drop_min block_size rest in
    let Each = IsEncodedRow columns lineage in
    let step : block ∷ all_blocks columns lineage behind ≡ all_blocks columns lineage rest = rw (is, front_is, behind_is) (sym (first_block columns lineage rest some)) in
    record {
      so_far = rw more (append_assoc blocks (block ∷ []) (all_blocks columns lineage behind) ∙ ap (λ (x : List Block). blocks ++ x) step ∙ before.so_far);
      fits = subst (All (λ (row : StoredRow). fits_row columns row.cells ≡ true)) (sym behind_is) (All-drop (λ (row : StoredRow). fits_row columns row.cells ≡ true) block_size rest before.fits);
      encoded = λ later. before.encoded (subst (All Each) (take-append-drop block_size rest) (All-append Each (take block_size rest) (drop block_size rest) (subst (All Each) front_is each) (subst (All Each) behind_is later)));
    }

-- no row is left
pub blocks_end : (columns : List Column) (lineage : Bool) (rows : List StoredRow) (blocks : List Block) (rest : List StoredRow) → (length rest == 0) ≡ true → AreInBlocks columns lineage rows blocks rest
    → (blocks ≡ all_blocks columns lineage rows) × All (IsEncodedRow columns lineage) rows
unfolding blocks_of
blocks_end columns lineage rows blocks rest none before =
    let empty : rest ≡ [] = nil_from_length rest (eqb-true (length rest) 0 none) in
    let Each = IsEncodedRow columns lineage in
    (sym (append-nil blocks) ∙ (rw empty at before.so_far), before.encoded (subst (All Each) (sym empty) (All-nil Each)))

-- ---- the file

-- the container of its header and its blocks
pub container_made : (columns : List Column) (sync : List ℕ) (lineage : Bool) (rows : List StoredRow) (meta : List (List ℕ × List ℕ)) (blocks : List Block)
    → meta ≡ (schema_key, schema_text (file_schema columns lineage)) ∷ (codec_key, codes "null") ∷ [] → blocks ≡ all_blocks columns lineage rows
    → record { meta = meta; sync = sync; blocks = blocks } ≡ file_container columns sync lineage rows
container_made columns sync lineage rows meta blocks meta_is blocks_are = rw (meta_is, blocks_are) refl

-- the schema of a file can be printed, so its text is read as it
pub printed_back : (columns : List Column) (lineage : Bool) (schema : Schema) → IsColumns columns → schema ≡ file_schema columns lineage → (IsPrintable schema → schema_of (schema_text schema) ≡ Ok schema) → IsPrinted columns lineage
printed_back columns lineage schema are schema_is printed = (rw schema_is at printed) (printable columns lineage are)

-- what is written of the container stores the rows
pub file_right : ((text : List ℕ) (schema : Schema) → schema_of text ≡ Ok schema → IsSchemaText text schema)
    → (result : Result (List ℕ) AllocError) (columns : List Column) (sync : List ℕ) (lineage : Bool) (rows : List StoredRow) (container : Container) → IsColumns columns → All (λ (row : StoredRow). fits_row columns row.cells ≡ true) rows
    → container ≡ file_container columns sync lineage rows → IsPrinted columns lineage → All (IsEncodedRow columns lineage) rows → IfOk result (λ bytes. IsWritable container → IsContainer bytes container)
    → IfOk result (λ bytes. StoresRows bytes columns (map (kept lineage) rows))
file_right found (Ok bytes) columns sync lineage rows container are fit container_is printed encoded framed =
    let here : IsContainer bytes (file_container columns sync lineage rows) = (rw container_is at framed) (writable columns sync lineage rows) in
    let schema = file_schema columns lineage in
    file_stores bytes columns sync lineage rows here (found (schema_text schema) schema printed) are fit encoded
file_right found (Err refused) columns sync lineage rows container are fit container_is printed encoded framed = tt
