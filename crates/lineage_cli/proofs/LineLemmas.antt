-- Texts with a space before them.
use Rattle.std.proofs.Common.{◌≡◌, ℕ, ◌<◌, ◌==◌, arith, true, false, List, [], ◌∷◌, ◌++◌, length, refl}
use Rattle.std.proofs.lemmas.Bool.{eqb-true}
use Rattle.std.specs.Prelude.{codes}
use Rattle.refusal_text.specs.Told.{spaced}

-- a text that isn't empty has a space before it
pub spaced_some : (text : List ℕ) → 0 < length text → spaced text ≡ codes " " ++ text
spaced_some [] some = absurd (omega (arith, some))
spaced_some (byte ∷ text) some = refl

-- the same by a test
pub spaced_word : (word : List ℕ) → (length word == 0) ≡ false → spaced word ≡ codes " " ++ word
spaced_word [] some = absurd (cc some)
spaced_word (byte ∷ word) some = refl

-- a text that is empty has none
pub spaced_none : (word : List ℕ) → (length word == 0) ≡ true → spaced word ≡ []
spaced_none [] none = refl
spaced_none (byte ∷ word) none = absurd (omega (arith, eqb-true (length (byte ∷ word)) 0 none))
