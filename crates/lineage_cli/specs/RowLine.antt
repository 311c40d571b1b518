-- How many bytes the line of a row takes at most.
use Rattle.std.specs.Prelude.{ℕ, ◌+◌, List, [], ◌∷◌}
use Rattle.row_types.specs.declared.cell.Cell.{Cell}
use Rattle.cell_text.specs.Cell.{most_bytes}

-- cells, each with a space before or after it
abbrev pub most_cells : List Cell → ℕ
most_cells [] = 0
most_cells (cell ∷ cells) = most_bytes cell + 1 + most_cells cells

-- a line: two numbers of at most 20 bytes, each with a space after it, the cells, and the end of the line
abbrev pub most_line : List Cell → ℕ
most_line cells = 43 + most_cells cells
