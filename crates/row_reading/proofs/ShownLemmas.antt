-- What is seen of the rows of a file that was checked.
use Rattle.std.proofs.Common.{◌≡◌, ℕ, ◌+◌, ◌≤◌, List, [], ◌∷◌, length, refl, sym, ap, ap₂, subst, ◌∙◌, arith}
use Rattle.std.specs.Prelude.{ℤ, Option}
use Rattle.std.proofs.lemmas.List.{length-map}
use Rattle.row_types.specs.declared.row.StoredRow.{StoredRow}
use Rattle.stored_rows.specs.Row.{row_id_of, row_last_of}
use Rattle.stored_rows.specs.Rows.{rows_from}
use Rattle.objects.specs.declared.blocks.Rest.{Rest as TheRest}
use Rattle.fields.specs.declared.taking.Cells.{Cells}
use Rattle.fields.specs.declared.layout.Layout.{Layout}
use Rattle.row_reading.specs.Checking.{HaveIds}
use Rattle.row_reading.specs.Checked.{Shown, rows_left, row_in, shown_of, AreReady}

-- no row is left to be seen
pub none_shown : (first : Option ℤ) (sequence : ℤ) (position : ℕ) (left : List StoredRow) → left ≡ []
    → rows_from first sequence position left ≡ []
unfolding rows_from
none_shown first sequence position left none = rw none refl

-- a row is seen with its id and its last change, and those behind it are left
pub row_shown : (first : Option ℤ) (sequence : ℤ) (position : ℕ) (left : List StoredRow) (row : StoredRow)
    (others : List StoredRow) (id : Option ℤ) (last : ℤ) → left ≡ row ∷ others
    → id ≡ row_id_of first row.id position → last ≡ row_last_of row.last sequence
    → rows_from first sequence position left
    ≡ record { id = id; last = last; cells = row.cells } ∷ rows_from first sequence (position + 1) others
unfolding rows_from
row_shown first sequence position left row others id last is id_is last_is = rw (is, id_is, last_is) refl

-- one row less is left
pub one_less : (position : ℕ) (left : List StoredRow) (row : StoredRow) (others : List StoredRow) → left ≡ row ∷ others
    → position + length left ≡ position + 1 + length others
one_less position left row others is = omega (arith, ap length is)

-- so the ids end where they did
pub ids_stay : (first : Option ℤ) (position : ℕ) (left : List StoredRow) (row : StoredRow) (others : List StoredRow)
    → left ≡ row ∷ others → HaveIds first (position + length left) → HaveIds first (position + 1 + length others)
ids_stay first position left row others is ids = subst (HaveIds first) (one_less position left row others is) ids

-- if no row is left, none was before, and what is seen stays
pub none_seen : (layout other : Layout) (rest after : TheRest) (slot same : Cells) (first : Option ℤ) (sequence : ℤ)
    (position : ℕ) (id : Option ℤ) (last : ℤ) (seen : Shown)
    → shown_of layout rest slot first sequence position id last ≡ seen
    → (rows_left layout rest).objects ≡ [] → (rows_left other after).objects ≡ [] → same ≡ slot
    → (seen.left ≡ []) × (shown_of other after same first sequence position id last ≡ seen)
none_seen layout other rest after slot same first sequence position id last seen is none none_after slot_is = (
  ap (λ (s : Shown). s.left) (sym is) ∙ none_shown first sequence position (rows_left layout rest).objects none,
  ap₂ (λ (cells : Cells) (left : List StoredRow). record {
    row = record { id = id; last = last; cells = (row_in cells).cells };
    left = rows_from first sequence position left;
  }) slot_is (none_after ∙ sym none) ∙ is,
)

-- a slot has a cell for the id and one for the last change
pub has_lineage : (layout : Layout) (rest : TheRest) (slot : Cells) → AreReady layout rest slot → 2 ≤ length slot.wanted.items
has_lineage layout rest slot ready =
    let sources = ready.slot_wide.each ∙ (ap length ready.layout_right.sources ∙ length-map layout.wanted.items _) in
    omega (arith, sources, ready.lineage)
