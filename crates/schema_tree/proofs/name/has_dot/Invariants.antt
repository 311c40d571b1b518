use Rattle.std.proofs.Common.{◌≡◌, drop}
use Rattle.schema_tree.specs.Names.{has_dot}
use Rattle.schema_tree.proofs.name.has_dot.Given as goal

abbrev pub invariant-loop-byte : goal.invariant-loop-byte
invariant-loop-byte l = has_dot (drop l.byte-index l.byte-items) ≡ has_dot l.byte-items
