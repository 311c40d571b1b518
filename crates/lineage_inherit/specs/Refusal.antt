-- Which refusal may come at any time.
use Rattle.std.specs.Prelude.{Bool, true, false}
use Rattle.lineage_inherit.specs.declared.refusal.InheritRefusal.{InheritRefusal}
use Rattle.lineage_inherit.specs.declared.refusal.InheritRefusal.TheVariants.{Memory}

-- memory ran out, which may happen at any time
abbrev pub is_memory : InheritRefusal → Bool
is_memory Memory = true
is_memory _ = false
