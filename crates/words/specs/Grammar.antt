-- Bytes in parts, for the grammars of the codecs.
use Rattle.std.specs.Prelude.{◌≡◌, ℕ, List, ◌++◌}

-- the bytes are a front that is one thing and a rest that is another
pub record Joined (First Second : List ℕ → Type 0) (bytes : List ℕ) : Type 0 where
  pub front : List ℕ
  pub rest : List ℕ
  pub parts : bytes ≡ front ++ rest
  pub first : First front
  pub second : Second rest
