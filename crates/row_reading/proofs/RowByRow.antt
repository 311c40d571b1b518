-- Rows that are read one after the other.
use Rattle.std.proofs.Common.{◌≡◌, ℕ, zero, suc, ◌+◌, ◌≤◌, true, false, List, [], ◌∷◌, ◌++◌, length, Ok, Err, refl, sym, ap}
use Rattle.std.proofs.Common.{◌∙◌, arith, append_assoc, length-append}
use Rattle.std.specs.Prelude.{◌==◌, ℤ, Bool, Option, Some, None, Result, if◌then◌else◌}
use Rattle.std.proofs.lemmas.List.{append-nil}
use Rattle.words.specs.Reading.{map_value}
use Rattle.row_types.specs.declared.row.Row.{Row}
use Rattle.row_types.specs.declared.row.StoredRow.{StoredRow}
use Rattle.avro_container.specs.declared.container.Block.{Block}
use Rattle.objects.specs.Object.{Reader}
use Rattle.objects.specs.Stream.{Stream, ended, refused, before, with_first, unless, all}
use Rattle.objects.specs.Blocks.{block_from, count_of, count_all, blocks_from}
use Rattle.objects.specs.Left.{IsStep}
use Rattle.stored_rows.specs.declared.refusal.RowRefusal.{RowRefusal}
use Rattle.stored_rows.specs.Row.{read_row}
use Rattle.stored_rows.specs.Rows.{rows_from}
use Rattle.row_reading.specs.Checking.{Rows}

-- ---- the list of rows that were read

-- the rows that were read, and behind them those that are left, at their positions
abbrev pub rows_behind : Option ℤ → ℤ → List Row → Rows → Result (List Row) RowRefusal
rows_behind first sequence list left = map_value (λ stored. list ++ rows_from first sequence (length list) stored) (all left)

one_as : (first : Option ℤ) (sequence : ℤ) (list : List Row) (row : Row) (stored : StoredRow) (fault : Option RowRefusal) (others : List StoredRow)
    → row ≡ read_row first sequence (length list) stored
    → map_value (λ rows. (list ++ row ∷ []) ++ rows_from first sequence (length (list ++ row ∷ [])) rows) (unless fault others)
    ≡ map_value (λ rows. list ++ rows_from first sequence (length list) rows) (unless fault (stored ∷ others))
unfolding rows_from
one_as first sequence list row stored None others is =
    let rest = rows_from first sequence (length list + 1) others in
    ap (λ (n : ℕ). Ok ((list ++ row ∷ []) ++ rows_from first sequence n others)) (length-append list (row ∷ []))
    ∙ (ap (λ (rows : List Row). Ok rows) (append_assoc list (row ∷ []) rest) ∙ ap (λ (r : Row). Ok (list ++ r ∷ rest)) is)
one_as first sequence list row stored (Some e) others is = refl

-- one row more is read
pub row_on : (first : Option ℤ) (sequence : ℤ) (list : List Row) (row : Row) (stored : StoredRow) (old new : Rows) (total : Result (List Row) RowRefusal)
    → old ≡ before stored new → row ≡ read_row first sequence (length list) stored
    → rows_behind first sequence list old ≡ total → rows_behind first sequence (list ++ row ∷ []) new ≡ total
row_on first sequence list row stored old new total step is so_far =
    one_as first sequence list row stored new.fault new.objects is ∙ (ap (rows_behind first sequence list) (sym step) ∙ so_far)

-- no row is left
pub rows_end : (first : Option ℤ) (sequence : ℤ) (list : List Row) (old : Rows) (total : Result (List Row) RowRefusal)
    → old ≡ ended → rows_behind first sequence list old ≡ total → total ≡ Ok list
unfolding rows_from
rows_end first sequence list old total step so_far =
    sym so_far ∙ (ap (rows_behind first sequence list) step ∙ ap (λ (rows : List Row). Ok rows) (append-nil list))

-- the next row is refused
pub rows_fail : (first : Option ℤ) (sequence : ℤ) (list : List Row) (old : Rows) (e : RowRefusal) (total : Result (List Row) RowRefusal)
    → old ≡ refused e → rows_behind first sequence list old ≡ total → total ≡ Err e
rows_fail first sequence list old e total step so_far = sym so_far ∙ ap (rows_behind first sequence list) step

-- a row was read, or none was left
pub one_more : (more : Bool) (old new : Rows) (stored : StoredRow) → more ≡ true → IsStep old (Ok more) stored new → old ≡ before stored new
one_more true old new stored is step = step
one_more false old new stored is step = absurd cc

pub none_more : (more : Bool) (old new : Rows) (stored : StoredRow) → more ≡ false → IsStep old (Ok more) stored new → old ≡ ended
none_more true old new stored is step = absurd cc
none_more false old new stored is step = step.0

-- as many rows as before were read or are left
pub count_on : (list : List Row) (row : Row) (stored : StoredRow) (old new : Rows) (many : ℕ) → old ≡ before stored new
    → length list + length old.objects ≡ many → length (list ++ row ∷ []) + length new.objects ≡ many
count_on list row stored old new many step so_far =
    omega (arith, so_far, ap (λ (rows : Rows). length rows.objects) step, length-append list (row ∷ []))

-- ---- how many there are

end_few : {V E : Type 0} (ends : Bool) (rest : E) (behind : Stream V E)
    → length (if ends then behind else refused rest).objects ≤ 0 + length behind.objects
end_few true rest behind = omega arith
end_few false rest behind = omega arith

step_few : {V E : Type 0} (taken : Result (V × ℕ) E) (others : ℕ → Stream V E) (left : ℕ) (behind : Stream V E)
    → ((after : ℕ) → length (others after).objects ≤ left + length behind.objects)
    → length (with_first taken others).objects ≤ suc left + length behind.objects
step_few (Ok taken) others left behind each = omega (arith, each taken.1)
step_few (Err e) others left behind each = omega arith

block_few : {V E : Type 0} (read : Reader V E) (rest : E) (input : List ℕ) (behind : Stream V E) (left place : ℕ)
    → length (block_from read rest input behind left place).objects ≤ left + length behind.objects
unfolding block_from
block_few read rest input behind zero place = end_few (place == length input) rest behind
block_few read rest input behind (suc left) place =
    step_few (read input place) (block_from read rest input behind left) left behind (block_few read rest input behind left)

-- objects up to the first refusal are no more than the counts of the blocks say together
pub objects_few : {V E : Type 0} (read : Reader V E) (rest : ℕ → E) (blocks : List Block) (number : ℕ)
    → length (blocks_from read rest number blocks).objects ≤ count_all blocks
unfolding blocks_from
objects_few read rest [] number = omega arith
objects_few read rest (block ∷ blocks) number =
    let behind = blocks_from read rest (number + 1) blocks in
    let here = block_few read (rest number) block.bytes behind (count_of block) 0 in
    omega (arith, here, objects_few read rest blocks (number + 1))
