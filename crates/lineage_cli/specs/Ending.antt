-- How a run ends that doesn't answer: its class, its status, and its one line.
use Rattle.std.specs.Prelude.{ℕ, List, [], ◌++◌, Result, Ok, Err, codes, decimal}
use Rattle.limits.specs.Which.{name_of as name_of_limit}
use Rattle.limits.specs.declared.which.Which.TheVariants as limits
use Rattle.lineage_model.specs.RuleName.{name_of}
use Rattle.lt_port.specs.declared.failure.PortError.{PortError}
use Rattle.lt_port.specs.declared.failure.PortError.TheVariants as ports
use Rattle.refusal_text.specs.Told.{spaced}
use Rattle.stored_rows.specs.RefusalText.{refusal_text}
use Rattle.stored_rows.specs.declared.refusal.RowRefusal.{RowRefusal}
use Rattle.stored_rows.specs.declared.refusal.RowRefusal.TheVariants as refusals
use Rattle.lineage_cli.specs.declared.class.RefusalClass.{RefusalClass}
use Rattle.lineage_cli.specs.declared.class.RefusalClass.TheVariants as about
use Rattle.lineage_cli.specs.declared.class.Class.{Class}
use Rattle.lineage_cli.specs.declared.class.Class.TheVariants as classes
use Rattle.lineage_cli.specs.declared.ending.Ending.{Ending}
use Rattle.lineage_cli.specs.declared.ending.Ending.TheVariants.{Usage, InputFault, InputLimit, Input, Table, Illegal}
use Rattle.lineage_cli.specs.declared.ending.Ending.TheVariants.{OutFault, Memory}
use Rattle.lineage_cli.specs.Class.{class_status, class_word}

-- ---- a file that is refused

-- the class of a file that is refused: a limit, memory, or else a table; its parts tell neither a limit nor memory,
-- since a file's refusal has variants of its own for these
abbrev pub table_class : RowRefusal → RefusalClass
table_class (refusals.Limit which found) = about.Limit
table_class refusals.Memory = about.Memory
table_class _ = about.Table

-- ---- an ending

-- the class of an ending
abbrev pub class_of : Ending → Class
class_of Usage = classes.Usage
class_of (Table refusal) = classes.Refused (table_class refusal)
class_of InputFault = classes.InputFault
class_of OutFault = classes.OutFault
class_of Memory = classes.Memory
class_of (InputLimit found) = classes.Refused about.Limit
class_of (Input line) = classes.Refused about.Input
class_of (Illegal entry rule) = classes.Refused about.Rule

-- the status of an ending
abbrev pub status_of : Ending → ℕ
status_of ending = class_status (class_of ending)

-- what the line has after the word of the class, if anything
abbrev pub ending_text : Ending → List ℕ
ending_text Usage = []
ending_text (Table refusal) = refusal_text refusal
ending_text InputFault = codes "InputFault"
ending_text OutFault = codes "OutFault"
ending_text Memory = []
ending_text (InputLimit found) = name_of_limit limits.Input ++ (codes " " ++ decimal found)
ending_text (Input line) = decimal line
ending_text (Illegal entry rule) = codes "Illegal " ++ (decimal entry ++ (codes " " ++ name_of rule))

-- the line of an ending: the word of its class, and its text, if it has one
abbrev pub line_of : Ending → List ℕ
line_of ending =
    codes "rowline: " ++ (class_word (class_of ending) ++ (spaced (ending_text ending) ++ codes "\n"))

-- how a run ended whose answer was printed so
abbrev pub printed_so : Result (Unit {0}) PortError → Result (Unit {0}) Ending
printed_so (Ok done) = Ok done
printed_so (Err ports.Failed) = Err OutFault
printed_so (Err ports.Memory) = Err Memory
