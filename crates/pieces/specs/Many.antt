-- Items, in order, as long as there are more.
use Rattle.std.specs.Prelude.{ℕ, zero, suc, List, [], ◌∷◌, ◌++◌, Option, Some, None, Result, Ok}
use Rattle.words.specs.Reading.{◌>>=◌}

-- an item after those that were read: its value, and the place after it
abbrev pub Item : Type 0 → Type 0 → Type 0
Item X E = List X → ℕ → Result (X × ℕ) E

-- whether there are more, and where the next one begins
abbrev pub More : Type 0 → Type 0
More E = ℕ → Result (Option ℕ) E

-- the items after those that were read, and the place after the last one; fuel is more than the bytes that are left
unfoldable pub many : {X E : Type 0} → Item X E → More E → ℕ → List X → ℕ → Result (List X × ℕ) E
many item more zero read place = Ok (read, place)
many item more (suc fuel) read place =
    item read place >>= λ one. more one.1 >>= λ next.
    go_on (read ++ one.0 ∷ []) one.1 next (λ items start. many item more fuel items start) where
      go_on : {X E : Type 0} → List X → ℕ → Option ℕ → (List X → ℕ → Result (List X × ℕ) E) → Result (List X × ℕ) E
      go_on items after None rest = Ok (items, after)
      go_on items after (Some start) rest = rest items start
