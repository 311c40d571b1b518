-- What reading a source to its end does to the bytes that it has left, and to its count.
use Rattle.std.specs.Prelude.{◌≡◌, ℕ, ◌+◌, ◌≤◌, ◌++◌, List, length, Option, Result, Err}
use Rattle.std.specs.Io.KnownBytes.{Consumes, IsAtEnd}
use Rattle.lt_port.specs.Streams.{one_more}
use Rattle.lineage_cli.specs.declared.ending.Ending.{Ending}
use Rattle.lineage_cli.specs.declared.ending.Ending.TheVariants as endings
use Rattle.lineage_cli.specs.declared.input.InputRefusal.{InputRefusal}
use Rattle.lineage_cli.specs.declared.input.InputRefusal.TheVariants.{Fault, Limit, Memory}

-- these bytes were taken, no more than most, and none is left now
pub record IsAll (most : ℕ) (before now : Option (List ℕ)) (bytes : List ℕ) : Type 0 where
  pub taken : Consumes before now bytes
  pub few : length bytes ≤ most
  pub end : IsAtEnd now

-- bytes from the beginning of those that were left came after those before, at most so many
pub record Reads (left leaves : Option (List ℕ)) (before now : List ℕ) (most : ℕ) : Type 0 where
  pub piece : List ℕ
  pub parts : now ≡ before ++ piece
  pub taken : Consumes left leaves piece
  pub few : length piece ≤ most

-- ---- an input that is not read whole

-- how many bytes of it were taken: no more than most before a fault, and one byte above it at the limit
abbrev pub Stops : ℕ → ℕ → InputRefusal → Type 0
Stops most count Fault = count ≤ most
Stops most count Limit = count ≡ most + 1
Stops most count Memory = count ≤ most + 1

-- so many bytes were taken, where the reading stopped
abbrev pub StopsBy : ℕ → Option (List ℕ) → Option (List ℕ) → InputRefusal → Type 0
StopsBy most before now refusal = (piece : List ℕ) × Consumes before now piece × Stops most (length piece) refusal

-- the count of faults: one more if the source failed
abbrev pub read_faults : {A : Type 0} → Result A InputRefusal → ℕ → ℕ
read_faults (Err Fault) faults = one_more faults
read_faults _ faults = faults

-- how many bytes were taken where a run ended so
abbrev pub StopsRun : ℕ → ℕ → Ending → Type 0
StopsRun most count endings.InputFault = count ≤ most
StopsRun most count (endings.InputLimit found) = (count ≡ most + 1) × (found ≡ most + 1)
StopsRun most count endings.Memory = count ≤ most + 1
StopsRun most count _ = ⊥

-- the input was not read whole: it failed, one byte above the limit came, or memory ran out
pub record IsUnread (most : ℕ) (before now : Option (List ℕ)) (ending : Ending) : Type 0 where
  pub bytes : List ℕ
  pub taken : Consumes before now bytes
  pub stops : StopsRun most (length bytes) ending
