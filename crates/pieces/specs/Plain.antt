-- The bytes of a literal that stand for themselves.
use Rattle.std.specs.Prelude.{ℕ, ◌==◌, Bool, not, ◌||◌}
use Rattle.pieces.specs.Literal.{is_never_raw}

-- neither the closing quote nor a backslash, and never raw
abbrev pub is_plain : ℕ → Bool
is_plain byte = not (byte == 34 || byte == 92 || is_never_raw byte)
