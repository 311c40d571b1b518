-- A text that is put piece by piece: row by row, cell by cell, part by part.
use Rattle.std.proofs.Common.{◌≡◌, ℕ, ℤ, ◌+◌, ◌<◌, ◌≤◌, List, [], ◌∷◌, ◌++◌, length, get_or, drop, map, Option, refl}
use Rattle.std.proofs.Common.{sym, ap, ◌∙◌, subst, arith, append_assoc}
use Rattle.std.specs.List.{flat_map}
use Rattle.std.specs.Fmt.{signed_decimal}
use Rattle.std.proofs.lemmas.List.{append-nil, drop_more, drop_all}
use Rattle.std.proofs.lemmas.Grind.{flat_map-append}
use Rattle.hex.specs.Hex.{encode_lower, encode_with}
use Rattle.row_types.specs.declared.row.Row.{Row}
use Rattle.pieces.specs.Number.{optional_text}
use Rattle.row_pred.specs.Cells.{spaced_text, cells_text}
use Rattle.row_types.specs.declared.cell_ref.CellRef.{CellRef}
use Rattle.row_types.specs.CellRef.{lent_cell}
use Rattle.lineage_cli.specs.Output.{Gains, AppendsFront}
use Rattle.cell_text.specs.Cell.{cell_text, most_bytes}
use Rattle.lineage_cli.specs.RowLine.{most_cells}
use Rattle.pieces.specs.Literal.{escape}
use Rattle.lineage_cli.specs.declared.output.Form.{Form}
use Rattle.lineage_cli.specs.declared.output.Form.TheVariants.{Plain, Escaped, Digits}
use Rattle.lineage_cli.specs.Text.{spaced, row_line, lines, part_text}
use Rattle.lineage_cli.proofs.OutputLemmas.{gains_then, front_more, front_then, shows_none}

-- what was put so far, and what is still to put, are the text
pub record IsBegun (start : Option (List ℕ)) (waiting : List ℕ) (now : Option (List ℕ)) (waits rest text : List ℕ) : Type 0 where
  pub before : List ℕ
  pub whole : before ++ rest ≡ text
  pub so_far : Gains start now (waiting ++ before) waits

-- nothing was put
pub begun_none : (start : Option (List ℕ)) (waiting text : List ℕ) → IsBegun start waiting start waiting text text
begun_none start waiting text = record { before = []; whole = refl; so_far = shows_none start waiting }

-- a piece is put
pub begun_more : (start mid now : Option (List ℕ)) (waiting v u rest piece others text : List ℕ) → rest ≡ piece ++ others → IsBegun start waiting mid v rest text → Gains mid now (v ++ piece) u → IsBegun start waiting now u others text
begun_more start mid now waiting v u rest piece others text is begun more = record {
  before = begun.before ++ piece;
  whole = append_assoc begun.before piece others ∙ (ap (λ (l : List ℕ). begun.before ++ l) (sym is) ∙ begun.whole);
  so_far = subst (λ (l : List ℕ). Gains start now l u) (append_assoc waiting begun.before piece) (gains_then start mid now (waiting ++ begun.before) piece v u begun.so_far more);
}

-- a front of a piece is put
pub begun_stops : (start mid now : Option (List ℕ)) (waiting v rest piece others text : List ℕ) → rest ≡ piece ++ others → IsBegun start waiting mid v rest text → AppendsFront mid now (v ++ piece) → AppendsFront start now (waiting ++ text)
begun_stops start mid now waiting v rest piece others text is begun front =
    let some = front_then start mid now (waiting ++ begun.before) piece v begun.so_far front in
    let parts : ((waiting ++ begun.before) ++ piece) ++ others ≡ waiting ++ text =
    append_assoc (waiting ++ begun.before) piece others ∙ (append_assoc waiting begun.before (piece ++ others) ∙ ap (λ (l : List ℕ). waiting ++ l) (ap (λ (l : List ℕ). begun.before ++ l) (sym is) ∙ begun.whole)) in
    subst (λ (l : List ℕ). AppendsFront start now l) parts (front_more start now ((waiting ++ begun.before) ++ piece) others some)

-- nothing is left to put
pub begun_whole : (start now : Option (List ℕ)) (waiting waits rest text : List ℕ) → rest ≡ [] → IsBegun start waiting now waits rest text → Gains start now (waiting ++ text) waits
begun_whole start now waiting waits rest text none begun =
    subst (λ (l : List ℕ). Gains start now (waiting ++ l) waits) (sym (append-nil begun.before) ∙ (ap (λ (l : List ℕ). begun.before ++ l) (sym none) ∙ begun.whole)) begun.so_far

-- ---- part by part

-- the digits of bytes, and those of the bytes behind them
digits_more : (part behind : List ℕ) → encode_lower (part ++ behind) ≡ encode_lower part ++ encode_lower behind
unfolding encode_with
digits_more [] behind = refl
digits_more (byte ∷ part) behind = rw (digits_more part behind) refl

-- a part, and those behind it
pub parts_next : (form : Form) (rest part behind : List ℕ) → rest ≡ part ++ behind → part_text form rest ≡ part_text form part ++ part_text form behind
parts_next Plain rest part behind is = is
parts_next Escaped rest part behind is = rw is (flat_map-append escape part behind)
parts_next Digits rest part behind is = rw is (digits_more part behind)

-- no part is left
pub parts_end : (form : Form) (rest : List ℕ) → length rest ≤ 0 → part_text form rest ≡ []
unfolding encode_with
parts_end Plain [] none = refl
parts_end Escaped [] none = refl
parts_end Digits [] none = refl
parts_end form (byte ∷ rest) none = absurd (omega (arith, none))

-- ---- cell by cell

-- a cell behind another one, and those behind it
pub cells_next : (cells : List CellRef) (at : ℕ) (none : CellRef) → at < length cells → flat_map spaced_text (map lent_cell (drop at cells)) ≡ spaced_text (lent_cell (get_or cells at none)) ++ flat_map spaced_text (map lent_cell (drop (at + 1) cells))
cells_next cells at none lt = ap (λ (l : List CellRef). flat_map spaced_text (map lent_cell l)) (drop_more cells at none lt)

-- no cell is left
pub cells_end : (cells : List CellRef) (at : ℕ) → length cells ≤ at → flat_map spaced_text (map lent_cell (drop at cells)) ≡ []
cells_end cells at le = ap (λ (l : List CellRef). flat_map spaced_text (map lent_cell l)) (drop_all at cells le)

-- a cell is put, with a space before it, and those behind it are still to put
pub cell_put : (cells : List CellRef) (at : ℕ) (none : CellRef) (before mid after total : List ℕ) → at < length cells
    → before ++ flat_map spaced_text (map lent_cell (drop at cells)) ≡ total → mid ≡ before ++ 32 ∷ [] → after ≡ mid ++ cell_text (lent_cell (get_or cells at none))
    → after ++ flat_map spaced_text (map lent_cell (drop (at + 1) cells)) ≡ total
cell_put cells at none before mid after total lt so_far space put =
    let text = cell_text (lent_cell (get_or cells at none)) in
    let rest = flat_map spaced_text (map lent_cell (drop (at + 1) cells)) in
    ap (λ (l : List ℕ). l ++ rest) (put ∙ ap (λ (l : List ℕ). l ++ text) space)
    ∙ (append_assoc (before ++ 32 ∷ []) text rest ∙ (append_assoc before (32 ∷ []) (text ++ rest)
    ∙ (ap (λ (l : List ℕ). before ++ l) (sym (cells_next cells at none lt)) ∙ so_far)))

-- all cells were put
pub cells_put : (cells : List CellRef) (at : ℕ) (now total : List ℕ) → length cells ≤ at → now ++ flat_map spaced_text (map lent_cell (drop at cells)) ≡ total → now ≡ total
cells_put cells at now total le so_far = sym (append-nil now) ∙ (ap (λ (l : List ℕ). now ++ l) (sym (cells_end cells at le)) ∙ so_far)

-- how many bytes a cell and those behind it take at most
pub most_next : (cells : List CellRef) (at : ℕ) (none : CellRef) → at < length cells
    → most_cells (map lent_cell (drop at cells)) ≡ most_bytes (lent_cell (get_or cells at none)) + 1 + most_cells (map lent_cell (drop (at + 1) cells))
most_next cells at none lt = ap (λ (l : List CellRef). most_cells (map lent_cell l)) (drop_more cells at none lt)

-- none are left
pub most_end : (cells : List CellRef) (at : ℕ) → length cells ≤ at → most_cells (map lent_cell (drop at cells)) ≡ 0
most_end cells at le = ap (λ (l : List CellRef). most_cells (map lent_cell l)) (drop_all at cells le)

-- ---- row by row

-- what stands before the cells of a row
abbrev pub front_text : Option ℤ → ℤ → List ℕ
front_text id last = spaced (optional_text id) ++ spaced (signed_decimal last)

-- a row's line: what stands before its cells, these, and the end of the line
pub line_of : (row : Row) (id : Option ℤ) (last : ℤ) → id ≡ row.id → last ≡ row.last
    → row_line row ≡ front_text id last ++ (cells_text row.cells ++ 10 ∷ [])
line_of row id last id-is last-is =
    rw (id-is, last-is) (sym (append_assoc (spaced (optional_text row.id)) (spaced (signed_decimal row.last)) (cells_text row.cells ++ 10 ∷ [])))

-- a row's line, and those of the rows behind it
pub lines_next : (left : List Row) (row : Row) (others : List Row) → left ≡ row ∷ others → lines left ≡ row_line row ++ lines others
lines_next left row others is = ap lines is

-- no row is left
pub lines_end : (left : List Row) → left ≡ [] → lines left ≡ []
lines_end left none = ap lines none

pub ruleset cell_by_cell = (begun_none, begun_whole, cells_end)

pub ruleset row_by_row = (begun_none, begun_whole, lines_end)
