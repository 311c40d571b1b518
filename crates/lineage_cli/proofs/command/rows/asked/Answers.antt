use Rattle.std.proofs.Common.{◌≡◌, ℕ, ◌<◌, ◌≤◌, List, [], ◌∷◌, length, get_or, sym, ◌∙◌, arith}
use Rattle.std.specs.Prelude.{codes}
use Rattle.std.proofs.lemmas.Slice.Eq.{bytes_eq-Decides}
use Rattle.lineage_cli.proofs.command.rows.asked.Goals as goal

-- three words
three : (xs : List (List ℕ)) (a b d : List ℕ) → 3 ≤ length xs → length xs < 4 → a ≡ get_or xs 0 a → b ≡ get_or xs 1 b → d ≡ get_or xs 2 d → xs ≡ a ∷ b ∷ d ∷ []
three [] a b d low high p q r = absurd (omega arith)
three (x ∷ []) a b d low high p q r = absurd (omega arith)
three (x ∷ y ∷ []) a b d low high p q r = absurd (omega arith)
three (x ∷ y ∷ z ∷ []) a b d low high p q r = cc
three (x ∷ y ∷ z ∷ w ∷ xs) a b d low high p q r = absurd (omega arith)

-- three words that are known
known : (xs : List (List ℕ)) (a b d x y z : List ℕ) → xs ≡ a ∷ b ∷ d ∷ [] → a ≡ x → b ≡ y → d ≡ z → xs ≡ x ∷ y ∷ z ∷ []
known xs a b d x y z e p q r = cc

pub returns-in_ok-sequence-in-len3 : goal.returns-in_ok-sequence-in-len3
returns-in_ok-sequence-in-len3 c =
    let first = c.in_ok-first-in-len3.ensures in
    let sequence = c.in_ok-sequence-in-len3.ensures in
    let name = sym c.as_str.ensures ∙ (bytes_eq-Decides c.as_str.result.now (codes "rows")).0 (sym c.eq.ensures ∙ c.if-eq.true) in
    let words = three c.args.words.now c.name-item.result c.first-item.result c.sequence-item.result c.in-len3.len_at_least c.in-len3.len_below c.name-item.is c.first-item.is c.sequence-item.is in
    (first.0, sequence.0, known c.args.words.now c.name-item.result c.first-item.result c.sequence-item.result (codes "rows") _ _ words name (sym c.as_str-in-len3.ensures ∙ first.1) (sym c.as_str-in-len3-2.ensures ∙ sequence.1))
