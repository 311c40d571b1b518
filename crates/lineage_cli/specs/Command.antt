-- What the words of a command line ask for, and what each command does. A new command has a line in both definitions,
-- and what it does in a file of its own.
pub mod Rows
pub mod Audit
use Rattle.std.specs.Prelude.{ℕ, List, Result}
use Rattle.lineage_cli.specs.declared.command.Command.{Command}
use Rattle.lineage_cli.specs.declared.command.Command.TheVariants as commands
use Rattle.lineage_cli.specs.declared.ending.Ending.{Ending}
use Rattle.lineage_cli.specs.Outside.{Outside}
use Rattle.lineage_cli.specs.Command.Rows.{AsksRows, ServesRows}
use Rattle.lineage_cli.specs.Command.Audit.{AsksAudit, ServesAudit}

-- the words have the form of this command
abbrev pub Asks : List (List ℕ) → Command → Type 0
Asks words (commands.Rows first sequence) = AsksRows words first sequence
Asks words commands.Audit = AsksAudit words

-- what a command does to the outside, and how its run ends
abbrev pub Serves : Command → Outside → Outside → Result (Unit {0}) Ending → Type 0
Serves (commands.Rows first sequence) = ServesRows first sequence
Serves commands.Audit = ServesAudit
