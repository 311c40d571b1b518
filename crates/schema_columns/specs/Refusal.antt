-- Which refusal may come at any time, and the fault of a member as a refusal.
use Rattle.std.specs.Prelude.{Bool, true, false}
use Rattle.json_members.specs.declared.fault.Fault.{Fault}
use Rattle.json_members.specs.declared.fault.Fault.TheVariants as fault
use Rattle.schema_columns.specs.declared.refusal.ColumnRefusal.{ColumnRefusal}
use Rattle.schema_columns.specs.declared.refusal.ColumnRefusal.TheVariants.{Fields, Memory}

-- memory ran out, which may happen at any time
abbrev pub is_memory : ColumnRefusal → Bool
is_memory Memory = true
is_memory _ = false

-- the fault of a member of a column
abbrev pub of_fault : Fault → ColumnRefusal
of_fault (fault.Missing name) = Fields
of_fault (fault.Wrong name) = Fields
of_fault fault.Memory = Memory
