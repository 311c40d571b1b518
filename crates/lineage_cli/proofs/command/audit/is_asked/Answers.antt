use Rattle.std.proofs.Common.{◌≡◌, ℕ, ◌<◌, ◌≤◌, List, [], ◌∷◌, length, get_or, sym, ap, ◌∙◌, arith}
use Rattle.std.specs.Prelude.{codes}
use Rattle.std.proofs.lemmas.Slice.Eq.{bytes_eq-Decides}
use Rattle.lineage_cli.proofs.command.audit.is_asked.Goals as goal

-- one word
one : (xs : List (List ℕ)) (a x : List ℕ) → 1 ≤ length xs → length xs < 2 → a ≡ get_or xs 0 a → a ≡ x → xs ≡ x ∷ []
one [] a x low high p q = absurd (omega arith)
one (y ∷ []) a x low high p q = cc
one (y ∷ z ∷ xs) a x low high p q = absurd (omega arith)

pub returns-in-len1 : goal.returns-in-len1
returns-in-len1 c =
    let word = codes "audit" in
    let same = bytes_eq-Decides c.as_str.result.now word in (
      λ yes. one c.args.words.now c.name-item.result word c.in-len1.len_at_least c.in-len1.len_below c.name-item.is (sym c.as_str.ensures ∙ same.0 (sym c.eq.ensures ∙ yes)),
      λ words. c.eq.ensures ∙ same.1 (c.as_str.ensures ∙ (c.name-item.is ∙ ap (λ (xs : List (List ℕ)). get_or xs 0 c.name-item.result) words)),
    )
