-- What a call that prints a text does to the bytes of a sink.
use Rattle.std.specs.Prelude.{◌≡◌, ℕ, List, ◌++◌, Option, Result, MatchResult}
use Rattle.std.specs.Io.KnownBytes.{Appends}

-- the sink gained a part of the text, and this is the rest of the text
pub record Gains (before now : Option (List ℕ)) (text rest : List ℕ) : Type 0 where
  pub part : List ℕ
  pub gained : Appends before now part
  pub whole : part ++ rest ≡ text

-- the sink gained a front of the text, and nothing else
abbrev pub AppendsFront : Option (List ℕ) → Option (List ℕ) → List ℕ → Type 0
AppendsFront before now text = (rest : List ℕ) × Gains before now text rest

-- the sink gained the text, or a front of it if the call failed
abbrev pub Puts : {E : Type 0} → Option (List ℕ) → Option (List ℕ) → Result (Unit {0}) E → List ℕ → Type 0
Puts before now result text = MatchResult result (λ _. Appends before now text) (λ _. AppendsFront before now text)

-- the sink gained the text but for what waits in a buffer now, or a front of it if the call failed
abbrev pub Moves : {E : Type 0} → Option (List ℕ) → Option (List ℕ) → List ℕ → Result (Unit {0}) E → List ℕ → Type 0
Moves before now waits result text =
    MatchResult result (λ _. Gains before now text waits) (λ _. AppendsFront before now text)

-- the same of what waited in the buffer, and a text after it
abbrev pub Shows : {E : Type 0} → Option (List ℕ) → List ℕ → Option (List ℕ) → List ℕ → Result (Unit {0}) E → List ℕ
    → Type 0
Shows before waiting now waits result text = Moves before now waits result (waiting ++ text)
