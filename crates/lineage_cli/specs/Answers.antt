-- What a command does that reads its whole input and prints one answer.
use Rattle.std.specs.Prelude.{◌≡◌, ℕ, ◌⊎◌, List, Option, Result, Ok, Err}
use Rattle.std.specs.Io.KnownBytes.{Appends, Keeps}
use Rattle.lineage_cli.specs.declared.class.Class.{Class}
use Rattle.lineage_cli.specs.declared.class.Class.TheVariants as classes
use Rattle.lineage_cli.specs.declared.ending.Ending.{Ending}
use Rattle.lineage_cli.specs.Ending.{class_of}
use Rattle.lineage_cli.specs.Input.{IsAll, IsUnread}
use Rattle.lineage_cli.specs.Outside.{Outside}
use Rattle.lineage_cli.specs.Output.{AppendsFront}

-- which answers some bytes have: the text that is printed for them, or the ending
abbrev pub Answer : Type 1
Answer = Result (List ℕ) Ending → Type 0

-- the output gained the text that is the answer
pub record IsPrinted (Is : Answer) (before now : Option (List ℕ)) : Type 0 where
  pub text : List ℕ
  pub answer : Is (Ok text)
  pub gained : Appends before now text

-- the output gained a front of it
pub record IsCut (Is : Answer) (before now : Option (List ℕ)) : Type 0 where
  pub text : List ℕ
  pub answer : Is (Ok text)
  pub gained : AppendsFront before now text

-- what was printed if there was an ending: nothing if it is the answer, a front of the answer if the output failed, and
-- nothing or a front if memory ran out
abbrev pub PrintsBy : Class → Answer → Option (List ℕ) → Option (List ℕ) → Ending → Type 0
PrintsBy (classes.Refused refusal) Is before now ending = Is (Err ending)
PrintsBy classes.OutFault Is before now ending = IsCut Is before now
PrintsBy classes.Memory Is before now ending = Keeps before now ⊎ IsCut Is before now
PrintsBy _ Is before now ending = ⊥

-- what was printed, by how the run ended
abbrev pub Prints : Answer → Option (List ℕ) → Option (List ℕ) → Result (Unit {0}) Ending → Type 0
Prints Is before now (Ok done) = IsPrinted Is before now
Prints Is before now (Err ending) = PrintsBy (class_of ending) Is before now ending

-- ---- the command

-- the input was read whole, and its answer was printed, or is how the run ended, unless the output failed or memory ran
-- out
pub record IsAnswered (most : ℕ) (Has : List ℕ → Answer) (before after : Outside) (ended : Result (Unit {0}) Ending)
    : Type 0 where
  pub bytes : List ℕ
  pub all : IsAll most before.input.left after.input.left bytes
  pub prints : Prints (Has bytes) before.output.written after.output.written ended

-- the input was not read whole, and nothing was printed
pub record IsUnanswered (most : ℕ) (before after : Outside) (ended : Result (Unit {0}) Ending) : Type 0 where
  pub ending : Ending
  pub so : ended ≡ Err ending
  pub unread : IsUnread most before.input.left after.input.left ending
  pub kept : after.output ≡ before.output

-- one of both
abbrev pub Answers : ℕ → (List ℕ → Answer) → Outside → Outside → Result (Unit {0}) Ending → Type 0
Answers most Has before after ended = IsAnswered most Has before after ended ⊎ IsUnanswered most before after ended
