-- The id that a fault of columns tells.
use Rattle.std.specs.Prelude.{ℤ, pos, Option, Some, None}
use Rattle.row_types.specs.declared.column.Column.{Column}

-- the column's id; 0 if there is none
abbrev pub id_of : Option Column → ℤ
id_of None = pos 0
id_of (Some column) = column.id
