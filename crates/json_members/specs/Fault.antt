-- Why a member is refused.
use Rattle.std.specs.Prelude.{Bool, true, false}
use Rattle.json_members.specs.declared.fault.Fault.{Fault}
use Rattle.json_members.specs.declared.fault.Fault.TheVariants.{Missing, Wrong, Memory}

-- memory ran out, which may happen at any time
abbrev pub is_memory : Fault → Bool
is_memory (Missing name) = false
is_memory (Wrong name) = false
is_memory Memory = true
