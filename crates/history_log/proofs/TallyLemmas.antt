-- The rows of a state that is made of numbers.
use Rattle.std.proofs.Common.{◌≡◌, ℕ, zero, suc, ◌==◌, length, refl, sym, arith}
use Rattle.std.specs.Prelude.{replicate}
use Rattle.std.proofs.lemmas.Bool.{ne_eqb}
use Rattle.std.proofs.lemmas.List.{length-replicate}
use Rattle.lineage_model.specs.Opening.{is_empty}
use Rattle.lineage_model.specs.Tally.{blank_row}

-- they are none just where their number is 0
pub blank_rows : (n : ℕ) → is_empty (replicate n blank_row) ≡ (n == 0)
blank_rows zero = refl
blank_rows (suc n) = sym (ne_eqb (suc n) 0 (omega arith))

-- they are as many as their number
pub blank_count : (n : ℕ) → length (replicate n blank_row) ≡ n
blank_count n = length-replicate n blank_row
