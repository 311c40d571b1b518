-- The test of the last changes of rows.
use Rattle.std.proofs.Common.{◌≡◌, ℤ, pos, ◌≤ℤ◌, int_lt, Bool, true, false, not, ◌&&◌, List, All, arith}
use Rattle.std.specs.List.{list_all}
use Rattle.std.specs.Map.{values_of}
use Rattle.std.proofs.lemmas.Bool.{and_parts, and_from, not-true, not_from_false, false_from_ne_true}
use Rattle.std.proofs.lemmas.Int.{ints}
use Rattle.std.proofs.lemmas.List.Elements.{All-weaker}
use Rattle.std.proofs.lemmas.List.Folds.{list_all-map}
use Rattle.std.proofs.lemmas.List.Sums.{AllPass-from_list_all, list_all-from_AllPass}
use Rattle.row_types.specs.RowMap.{NamedRow, UnnamedRow}

-- a number is from 0 on
abbrev pub FromZero : ℤ → Type 0
FromZero number = pos 0 ≤ℤ number

-- a row changed last at a number from 0 to this one
abbrev pub IsLast : ℤ → UnnamedRow → Type 0
IsLast seq row = FromZero row.0 × (row.0 ≤ℤ seq)

-- a number that is not below another is from it on
pub from_not_below : (low number : ℤ) → not (int_lt number low) ≡ true → low ≤ℤ number
from_not_below low number test =
    let from : int_lt number low ≡ false = not-true _ test in
    omega (arith, ints)

-- and a number from another on is not below it
pub not_below : (low number : ℤ) → low ≤ℤ number → not (int_lt number low) ≡ true
not_below low number from = not_from_false _ (false_from_ne_true _ (λ below. absurd (omega (arith, ints))))

-- the test of one last change
abbrev pub passes : ℤ → UnnamedRow → Bool
passes seq row = not (int_lt row.0 (pos 0)) && not (int_lt seq row.0)

-- a last change that passes is one
last_from_test : (seq : ℤ) (row : UnnamedRow) → passes seq row ≡ true → IsLast seq row
last_from_test seq row test =
    let parts = and_parts _ _ test in
    (from_not_below (pos 0) row.0 parts.0, from_not_below row.0 seq parts.1)

-- one passes
test_from_last : (seq : ℤ) (row : UnnamedRow) → IsLast seq row → passes seq row ≡ true
test_from_last seq row last = and_from _ _ (not_below (pos 0) row.0 last.0) (not_below row.0 seq last.1)

-- so do all rows whose last changes pass
pub lasts_from_test : (seq : ℤ) (rows : List UnnamedRow) → list_all (passes seq) rows ≡ true → All (IsLast seq) rows
lasts_from_test seq rows test = All-weaker (λ row. passes seq row ≡ true) (IsLast seq) (last_from_test seq) rows (AllPass-from_list_all (passes seq) rows test)

-- and they pass
pub test_from_lasts : (seq : ℤ) (rows : List UnnamedRow) → All (IsLast seq) rows → list_all (passes seq) rows ≡ true
test_from_lasts seq rows lasts = list_all-from_AllPass (passes seq) rows (All-weaker (IsLast seq) (λ row. passes seq row ≡ true) (test_from_last seq) rows lasts)

-- the tests of the last changes of rows with ids, and of their values
pub lasts_as_values : (seq : ℤ) (rows : List NamedRow) → list_all (passes seq) (values_of rows) ≡ list_all (λ (row : NamedRow). passes seq row.1) rows
lasts_as_values seq rows = list_all-map (passes seq) (λ (row : NamedRow). row.1) rows
