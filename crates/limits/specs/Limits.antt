-- The limits as numbers, and what stays within them. docs/FORMATS.md, "Limits".
use Rattle.std.specs.Prelude.{ℕ, ◌≤◌}

-- the most bytes of one object
abbrev pub most_object : ℕ
most_object = 67108864

-- the most rows of a data file
abbrev pub most_rows : ℕ
most_rows = 1048576

-- what of a data file has a limit: how many bytes and rows it has
pub record FileSize : Type 0 where
  pub bytes : ℕ
  pub rows : ℕ

-- a data file of this size is within the limits
pub record IsWithinLimits (size : FileSize) : Type 0 where
  pub bytes : size.bytes ≤ most_object
  pub rows : size.rows ≤ most_rows
