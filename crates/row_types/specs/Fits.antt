-- Which cells fit the columns of a table.
use Rattle.std.specs.Prelude.{nat_lt, ℕ, ◌^◌, ◌-◌, ℤ, pos, negsuc, int_lt, Bool, true, false, not, ◌&&◌, List, []}
use Rattle.std.specs.Prelude.{◌∷◌, ◌≡◌}
use Rattle.std.specs.List.{list_all}
use Rattle.row_types.specs.declared.cell.Cell.{Cell}
use Rattle.row_types.specs.declared.cell.Cell.TheVariants.{Null, Flag, Num, Text, Bytes}
use Rattle.row_types.specs.declared.column.Column.{Column}
use Rattle.row_types.specs.declared.column.Kind.{Kind}
use Rattle.row_types.specs.declared.column.Kind.TheVariants as kinds

-- a number of `count` bits besides its sign
abbrev pub is_signed : ℕ → ℤ → Bool
is_signed bits number = not (int_lt number (negsuc (2 ^ bits - 1))) && int_lt number (pos (2 ^ bits))

-- a number of 32 bits
abbrev pub is_int : ℤ → Bool
is_int number = is_signed 31 number

-- a number of 64 bits
abbrev pub is_long : ℤ → Bool
is_long number = is_signed 63 number

-- a kind has this number; an int and a date are of 32 bits, the other numbers of 64
abbrev pub has_number : Kind → ℤ → Bool
has_number kinds.Int number = is_int number
has_number kinds.Date number = is_int number
has_number kinds.Long number = is_long number
has_number kinds.Time number = is_long number
has_number kinds.Timestamp number = is_long number
has_number kinds.Timestamptz number = is_long number
has_number kinds.Boolean number = false
has_number kinds.Text number = false
has_number kinds.Bytes number = false

-- a kind has booleans
abbrev pub has_flags : Kind → Bool
has_flags kinds.Boolean = true
has_flags kinds.Int = false
has_flags kinds.Date = false
has_flags kinds.Long = false
has_flags kinds.Time = false
has_flags kinds.Timestamp = false
has_flags kinds.Timestamptz = false
has_flags kinds.Text = false
has_flags kinds.Bytes = false

-- a kind has texts
abbrev pub has_texts : Kind → Bool
has_texts kinds.Text = true
has_texts kinds.Boolean = false
has_texts kinds.Int = false
has_texts kinds.Date = false
has_texts kinds.Long = false
has_texts kinds.Time = false
has_texts kinds.Timestamp = false
has_texts kinds.Timestamptz = false
has_texts kinds.Bytes = false

-- a kind has bytes
abbrev pub has_bytes : Kind → Bool
has_bytes kinds.Bytes = true
has_bytes kinds.Boolean = false
has_bytes kinds.Int = false
has_bytes kinds.Date = false
has_bytes kinds.Long = false
has_bytes kinds.Time = false
has_bytes kinds.Timestamp = false
has_bytes kinds.Timestamptz = false
has_bytes kinds.Text = false

-- the cell may stand in the column: it is of the column's kind and range, or null where the column is not required
abbrev pub fits : Column → Cell → Bool
fits column Null = not column.required
fits column (Flag flag) = has_flags column.kind
fits column (Num number) = has_number column.kind number
fits column (Text text) = has_texts column.kind
fits column (Bytes bytes) = has_bytes column.kind

-- the cells may stand in the columns, one in each
unfoldable pub fits_row : List Column → List Cell → Bool
fits_row [] [] = true
fits_row [] (cell ∷ cells) = false
fits_row (column ∷ columns) [] = false
fits_row (column ∷ columns) (cell ∷ cells) = fits column cell && fits_row columns cells

-- the bytes of a cell are numbers below 256, as they are in memory
abbrev pub has_real_bytes : Cell → Bool
has_real_bytes (Bytes bytes) = list_all (λ byte. nat_lt byte 256) bytes
has_real_bytes Null = true
has_real_bytes (Flag flag) = true
has_real_bytes (Num number) = true
has_real_bytes (Text text) = true

-- the cells may be written: one in each column, that fits it
abbrev pub IsRow : List Column → List Cell → Type 0
IsRow columns cells = (fits_row columns cells ≡ true) × (list_all has_real_bytes cells ≡ true)
