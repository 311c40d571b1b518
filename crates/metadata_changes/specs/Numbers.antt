-- The larger of two numbers.
use Rattle.std.specs.Prelude.{ℤ, int_lt, if◌then◌else◌}

-- the larger number
abbrev pub larger : ℤ → ℤ → ℤ
larger a b = if int_lt a b then b else a
