-- What a run of the program does to the outside.
use Rattle.std.specs.Prelude.{◌≡◌, ℕ, Bool, true, false, ◌⊎◌, List, Result, Ok, Err}
use Rattle.lt_port.specs.Streams.{Outgoing, counts_after}
use Rattle.lt_port.specs.declared.failure.PortError.{PortError}
use Rattle.lineage_cli.specs.declared.command.Command.{Command}
use Rattle.lineage_cli.specs.declared.ending.Ending.{Ending}
use Rattle.lineage_cli.specs.declared.ending.Ending.TheVariants.{Usage, Memory}
use Rattle.lineage_cli.specs.Command.{Asks, Serves}
use Rattle.lineage_cli.specs.Ending.{status_of, line_of}
use Rattle.lineage_cli.specs.Leaves.{Leaves, ended_class}
use Rattle.lineage_cli.specs.Outside.{Outside}
use Rattle.lineage_cli.specs.Output.{Puts}

-- memory ran out, the one free ending
abbrev pub is_memory : Ending → Bool
is_memory Memory = true
is_memory _ = false

-- ---- the command

-- the words ask for this command, which was served
pub record IsAsked (words : List (List ℕ)) (before after : Outside) (ended : Result (Unit {0}) Ending) : Type 0 where
  pub command : Command
  pub asks : Asks words command
  pub serves : Serves command before after ended

-- the words ask for no command
pub record IsUnasked (words : List (List ℕ)) (ended : Result (Unit {0}) Ending) : Type 0 where
  pub none : (command : Command) → Asks words command → ⊥
  pub usage : ended ≡ Err Usage

-- what the words ask for was done, or they ask for nothing; and the outside is left as every run leaves it
pub record IsServed (words : List (List ℕ)) (before after : Outside) (ended : Result (Unit {0}) Ending) : Type 0 where
  pub asked : IsAsked words before after ended ⊎ IsUnasked words ended
  pub leaves : Leaves (ended_class ended) before after

-- ---- how it ended

-- the line was written; or a front of it, if standard error failed or wanted memory, as its counts tell
pub record IsTold (line : List ℕ) (before after : Outgoing) : Type 0 where
  pub result : Result (Unit {0}) PortError
  pub gained : Puts before.written after.written result line
  pub counted : after.counts ≡ counts_after result before.counts

-- the status tells how the command ended; unless it answered, so does its one line, and nothing else is touched
abbrev pub IsEnded : Result (Unit {0}) Ending → Outside → Outside → ℕ → Type 0
IsEnded (Ok done) before after status = (status ≡ 0) × (after ≡ before)
IsEnded (Err ending) before after status =
    (status ≡ status_of ending) × (after.input ≡ before.input) × (after.output ≡ before.output)
    × IsTold (line_of ending) before.error after.error

-- ---- the run

-- a run served its words, and then told how that ended
pub record IsRun (words : List (List ℕ)) (before after : Outside) (status : ℕ) : Type 0 where
  pub ended : Result (Unit {0}) Ending
  pub served : Outside
  pub serves : IsServed words before served ended
  pub tells : IsEnded ended served after status
