-- Whether required fields have no null, as a loop does.
use Rattle.std.proofs.Common.{◌≡◌, ℕ, ◌+◌, ◌<◌, ◌≤◌, List, [], ◌∷◌, length, map, get_or, drop, Ok, Err, refl}
use Rattle.std.proofs.Common.{ap, arith, inl, inr}
use Rattle.std.specs.Prelude.{◌&&◌}
use Rattle.std.proofs.lemmas.Bool.{cases_Bool}
use Rattle.std.proofs.lemmas.List.{drop_more, drop_all}
use Rattle.row_types.specs.declared.cell.Cell.TheVariants as cells
use Rattle.fields.specs.declared.wanted.Wanted.{Wanted}
use Rattle.row_types.specs.declared.cell_ref.CellRef.{CellRef}
use Rattle.fields.specs.declared.refusal.FieldRefusal.{FieldRefusal}
use Rattle.row_types.specs.CellRef.{lent_cell}
use Rattle.row_types.specs.CellRef.{is_null}
use Rattle.fields.specs.Wanted.{check_nulls}

-- a null in a required w
refused_first : (w : Wanted) (cell : cells.the_data) (wanted : List Wanted) (others : List cells.the_data) (refusal : FieldRefusal) → check_nulls (w ∷ []) (cell ∷ []) ≡ Err refusal → check_nulls (w ∷ wanted) (cell ∷ others) ≡ Err refusal
unfolding check_nulls
refused_first w cell wanted others refusal refused =
    elim (cases_Bool (w.required && is_null cell)) [
      | inl wrong ↦ rw wrong (rw wrong at refused)
      | inr right ↦ absurd cc (rw right at refused)
    ]

-- none in the first w
passed_first : (w : Wanted) (cell : cells.the_data) (wanted : List Wanted) (others : List cells.the_data) (done : Unit {0}) → check_nulls (w ∷ []) (cell ∷ []) ≡ Ok done → check_nulls (w ∷ wanted) (cell ∷ others) ≡ check_nulls wanted others
unfolding check_nulls
passed_first w cell wanted others done passed =
    elim (cases_Bool (w.required && is_null cell)) [
      | inl wrong ↦ absurd cc (rw wrong at passed)
      | inr right ↦ rw right refl
    ]

-- the cells from a place on are the one there, and those behind it
cells_from : (cells : List CellRef) (place : ℕ) (d : CellRef) → place < length cells → map lent_cell (drop place cells) ≡ lent_cell (get_or cells place d) ∷ map lent_cell (drop (place + 1) cells)
cells_from cells place d within = ap (map lent_cell) (drop_more cells place d within)

-- a null where something is required
pub null_here : (wanted : List Wanted) (cells : List CellRef) (place : ℕ) (w : Wanted) (d : CellRef) (refusal : FieldRefusal) → place < length wanted → length cells ≡ length wanted
    → check_nulls (get_or wanted place w ∷ []) (lent_cell (get_or cells place d) ∷ []) ≡ Err refusal → check_nulls (drop place wanted) (map lent_cell (drop place cells)) ≡ Err refusal
null_here wanted cells place w d refusal within each refused =
    rw (drop_more wanted place w within, cells_from cells place d (omega (arith, within, each))) (refused_first (get_or wanted place w) (lent_cell (get_or cells place d)) (drop (place + 1) wanted) (map lent_cell (drop (place + 1) cells)) refusal refused)

-- none there
pub no_null_here : (wanted : List Wanted) (cells : List CellRef) (place : ℕ) (w : Wanted) (d : CellRef) (done : Unit {0}) → place < length wanted → length cells ≡ length wanted
    → check_nulls (get_or wanted place w ∷ []) (lent_cell (get_or cells place d) ∷ []) ≡ Ok done → check_nulls (drop place wanted) (map lent_cell (drop place cells)) ≡ check_nulls (drop (place + 1) wanted) (map lent_cell (drop (place + 1) cells))
no_null_here wanted cells place w d done within each passed =
    rw (drop_more wanted place w within, cells_from cells place d (omega (arith, within, each))) (passed_first (get_or wanted place w) (lent_cell (get_or cells place d)) (drop (place + 1) wanted) (map lent_cell (drop (place + 1) cells)) done passed)

-- no w is left
pub no_null_left : (wanted : List Wanted) (cells : List cells.the_data) (place : ℕ) → length wanted ≤ place → check_nulls (drop place wanted) cells ≡ Ok tt
unfolding check_nulls
no_null_left wanted cells place all = rw (drop_all place wanted all) refl

-- these steps
pub ruleset null_steps = (null_here, no_null_here, no_null_left)
