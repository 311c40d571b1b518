use Rattle.std.proofs.Common.{◌≡◌, drop}
use Rattle.schema_columns.specs.Kind.{kind_among}
use Rattle.schema_columns.proofs.kind.kind_among.Given as goal

-- the others decide
abbrev pub invariant-loop-kind : goal.invariant-loop-kind
invariant-loop-kind l = kind_among (drop l.kind-index l.kinds) l.word ≡ kind_among l.kinds l.word
