use Rattle.std.proofs.Common.{arith, sym, subst}
use Rattle.words.specs.Reading.{Gives, never}
use Rattle.snapshot_entries.proofs.ListSteps.{many_refused, few_checked}
use Rattle.snapshot_entries.proofs.list.check_limits.Goals as goal

pub returns-then-count-gt-MOST_SNAPSHOTS : goal.returns-then-count-gt-MOST_SNAPSHOTS
returns-then-count-gt-MOST_SNAPSHOTS c = record { exact = many_refused c.args.items.now (omega arith) }

pub returns : goal.returns
returns c =
    let few = few_checked c.args.items.now (omega arith) in
    record { exact = subst (Gives never (λ _. tt) c.check_paths.result) (sym few) c.check_paths.ensures.exact }
