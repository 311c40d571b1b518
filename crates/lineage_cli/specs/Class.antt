-- Classes of endings. The class decides the status of a run, the first word of its line, and what its contract says
-- of the input and the output.
use Rattle.std.specs.Prelude.{ℕ, List, codes}
use Rattle.lineage_cli.specs.declared.class.RefusalClass.{RefusalClass}
use Rattle.lineage_cli.specs.declared.class.RefusalClass.TheVariants.{Input, Table, Rule, Memory, Limit}
use Rattle.lineage_cli.specs.declared.class.Class.{Class}
use Rattle.lineage_cli.specs.declared.class.Class.TheVariants as classes

-- the status of a refusal
abbrev pub refusal_status : RefusalClass → ℕ
refusal_status Input = 2
refusal_status Table = 3
refusal_status Rule = 4
refusal_status Memory = 6
refusal_status Limit = 7

-- the status of an ending
abbrev pub class_status : Class → ℕ
class_status (classes.Refused refusal) = refusal_status refusal
class_status classes.Usage = 1
class_status classes.InputFault = 5
class_status classes.OutFault = 5
class_status classes.Memory = 6

-- the word of a refusal
abbrev pub refusal_word : RefusalClass → List ℕ
refusal_word Input = codes "input"
refusal_word Table = codes "table"
refusal_word Rule = codes "refused"
refusal_word Memory = codes "memory"
refusal_word Limit = codes "limit"

-- the word of an ending
abbrev pub class_word : Class → List ℕ
class_word (classes.Refused refusal) = refusal_word refusal
class_word classes.Usage = codes "usage"
class_word classes.InputFault = codes "fault"
class_word classes.OutFault = codes "fault"
class_word classes.Memory = codes "memory"
