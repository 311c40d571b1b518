use Rattle.std.proofs.Common.{[], ◌∷◌, codes, sym, subst}
use Rattle.metadata_reading.specs.Table.{IsTable}
use Rattle.metadata_changes.specs.CommitLaws.{table_with}
use Rattle.metadata_changes.specs.Others.{KeepsOthers, KeepsIn}
use Rattle.metadata_changes.specs.OthersLaws.{commit_keeps, commit_keeps_refs, commit_keeps_main}
use Rattle.metadata_reading.specs.declared.meta.TableMeta.{TableMeta}
use Rattle.metadata_changes.proofs.commit.with_snapshot.Goals as goal

pub returns-clause-table : goal.returns-clause-table
returns-clause-table c =
    λ h may. subst IsTable (sym c.in_ok-after.ensures) (table_with c.args.meta.now c.args.path.now c.args.snapshot c.args.next_row_id h may)

pub returns-clause-others : goal.returns-clause-others
returns-clause-others c =
    subst (λ (m : TableMeta). KeepsOthers (codes "snapshot-log" ∷ codes "metadata-log" ∷ codes "refs" ∷ []) c.args.meta.now.rest m.rest) (sym c.in_ok-after.ensures)
    (commit_keeps c.args.meta.now.rest c.args.path.now c.args.meta.now.last_updated c.args.snapshot.id c.args.snapshot.time)

pub returns-clause-refs : goal.returns-clause-refs
returns-clause-refs c =
    subst (λ (m : TableMeta). KeepsIn (codes "refs") (KeepsOthers (codes "main" ∷ [])) c.args.meta.now.rest m.rest) (sym c.in_ok-after.ensures)
    (commit_keeps_refs c.args.meta.now.rest c.args.path.now c.args.meta.now.last_updated c.args.snapshot.id c.args.snapshot.time)

pub returns-clause-main : goal.returns-clause-main
returns-clause-main c =
    subst (λ (m : TableMeta). KeepsIn (codes "refs") (KeepsIn (codes "main") (KeepsOthers (codes "snapshot-id" ∷ []))) c.args.meta.now.rest m.rest) (sym c.in_ok-after.ensures)
    (commit_keeps_main c.args.meta.now.rest c.args.path.now c.args.meta.now.last_updated c.args.snapshot.id c.args.snapshot.time)
