-- The word of a refusal with what follows it.
use Rattle.std.specs.Prelude.{ℕ, List, [], ◌∷◌, ◌++◌, codes}
use Rattle.refusal_text.specs.declared.told.Told.{Told}
use Rattle.refusal_text.specs.Detail.{detail_text}

-- a text that isn't empty has a space before it
abbrev pub spaced : List ℕ → List ℕ
spaced [] = []
spaced (byte ∷ text) = codes " " ++ (byte ∷ text)

-- a refusal's text, each part with a space before it
abbrev pub told_text : Told → List ℕ
told_text told = spaced told.word.now ++ detail_text told.detail
