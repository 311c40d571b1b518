use Rattle.std.proofs.Common.{take}
use Rattle.datum_reading.specs.Compact.{ArePassedAs, EachIsPassedAs}
use Rattle.datum_reading.proofs.compact.+compact.Given as goal

abbrev pub invariant-compact_union-loop-branch : goal.invariant-compact_union-loop-branch
invariant-compact_union-loop-branch l = EachIsPassedAs (take l.branch-index l.branch-items) l.found.items

abbrev pub invariant-compact_fields-loop-field : goal.invariant-compact_fields-loop-field
invariant-compact_fields-loop-field l = ArePassedAs l.found.items (take l.field-index l.field-items)
