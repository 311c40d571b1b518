use Rattle.std.proofs.Common.{◌≡◌, drop}
use Rattle.fields.specs.Kept.{are_empty}
use Rattle.fields.proofs.empty.+empty.Given as goal

abbrev pub invariant-are_empty-loop-field : goal.invariant-are_empty-loop-field
invariant-are_empty-loop-field l = are_empty (drop l.field-index l.field-items) ≡ are_empty l.field-items
