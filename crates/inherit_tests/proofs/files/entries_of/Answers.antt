use Rattle.std.proofs.Common.{sym, subst}
use Rattle.lineage_inherit.specs.FirstRowId.{AreCounted}
use Rattle.lineage_inherit.specs.FirstRowIdLaws.{counted_more}
use Rattle.inherit_tests.proofs.files.entries_of.Goals as goal

pub loop-told-preserved : goal.loop-told-preserved
loop-told-preserved c =
    subst AreCounted (sym c.in_ok-push.ensures.ok)
    (counted_more c.loop-told.entries c.in_ok-entry.field-0 c.loop-told.invariant c.in_ok-entry.ensures.natural)
