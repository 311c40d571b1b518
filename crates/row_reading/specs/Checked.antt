-- The rows of a file that were checked, one after the other.
use Rattle.std.specs.Prelude.{◌≡◌, ℕ, ◌+◌, ◌<◌, ◌≤◌, ◌^◌, ℤ, List, length, map, Option, None}
use Rattle.row_types.specs.CellRef.{lent_cell}
use Rattle.row_types.specs.declared.row.Row.{Row}
use Rattle.row_types.specs.declared.row.StoredRow.{StoredRow}
use Rattle.objects.specs.declared.blocks.Rest.{Rest as TheRest}
use Rattle.objects.specs.Object.{Reader}
use Rattle.objects.specs.Blocks.{count_all}
use Rattle.objects.specs.Left.{left_of, IsWithin}
use Rattle.fields.specs.declared.layout.Layout.{Layout}
use Rattle.fields.specs.declared.taking.Cells.{Cells}
use Rattle.fields.specs.Record.{IsLayout, IsWide}
use Rattle.stored_rows.specs.declared.refusal.RowRefusal.{RowRefusal}
use Rattle.stored_rows.specs.declared.refusal.RowRefusal.TheVariants.{Rest}
use Rattle.limits.specs.Limits.{most_rows}
use Rattle.stored_rows.specs.Rows.{rows_from}
use Rattle.row_reading.specs.Wanted.{row_of_cells, row_in_record}
use Rattle.row_reading.specs.Checking.{Rows, rows_in_blocks, HaveIds}

-- the row that is shown, and those after it
pub record Shown : Type 0 where
  pub row : Row
  pub left : List Row

-- how a layout reads a row
abbrev pub row_by : Layout → Reader StoredRow RowRefusal
row_by layout = row_in_record layout.schema layout.wanted.items

-- the rows that are left of a file, up to the first refusal
abbrev pub rows_left : Layout → TheRest → Rows
rows_left layout rest = left_of (row_by layout) Rest rest

-- the row that is in the slot
abbrev pub row_in : Cells → StoredRow
row_in slot = row_of_cells (map lent_cell slot.wanted.items)

-- what is seen of rows of which so many were shown
abbrev pub shown_of : Layout → TheRest → Cells → Option ℤ → ℤ → ℕ → Option ℤ → ℤ → Shown
shown_of layout rest slot first sequence position id last = record {
  row = record { id = id; last = last; cells = (row_in slot).cells };
  left = rows_from first sequence position (rows_left layout rest).objects;
}

-- rows can be read: the layout is right, the slot has room for the cells, and the id and the last change are among what
-- is wanted
pub record AreReady (layout : Layout) (rest : TheRest) (slot : Cells) : Type 0 where
  pub within : IsWithin rest
  pub layout_right : IsLayout layout
  pub slot_wide : IsWide layout slot.all.items slot.wanted.items
  pub lineage : 2 ≤ length layout.wanted.items

-- the rows that are left are those of all blocks, which say that they have so many
pub record AreUnchecked (layout : Layout) (rest : TheRest) (slot : Cells) (many : ℕ) : Type 0 where
  pub ready : AreReady layout rest slot
  pub whole : rows_left layout rest ≡ rows_in_blocks (row_by layout) rest.walk.whole.blocks
  pub count : many ≡ count_all rest.walk.whole.blocks
  pub few : many ≤ most_rows
  pub fits : length rest.walk.whole.blocks < 2 ^ 63

-- the rows that are left were checked, and have ids that are longs if the file has a first one
pub record IsChecked (layout : Layout) (rest : TheRest) (slot : Cells) (first : Option ℤ) (position : ℕ)
    : Type 0 where
  pub ready : AreReady layout rest slot
  pub right : (rows_left layout rest).fault ≡ None
  pub few : position + length (rows_left layout rest).objects ≤ most_rows
  pub ids : HaveIds first (position + length (rows_left layout rest).objects)
