use Rattle.std.proofs.Common.{◌≡◌, [], ◌∷◌, codes, sym, subst, true, arith, w64, rules, FitsSigned}
use Rattle.std.specs.Prelude.{◌≤ℤ◌}
use Rattle.std.proofs.lemmas.Int.{ints, to_z-of_z}
use Rattle.json_members.specs.Form.{is_long}
use Rattle.metadata_reading.specs.Table.{IsTable}
use Rattle.metadata_changes.specs.NumberLaws.{first_below, second_below}
use Rattle.metadata_changes.specs.Others.{KeepsOthers, SnapshotsKeepOthers}
use Rattle.metadata_changes.specs.OthersLaws.{upgrade_keeps, upgrade_keeps_snapshots}
use Rattle.metadata_changes.specs.UpgradeLaws.{table_still}
use Rattle.metadata_reading.specs.declared.meta.TableMeta.{TableMeta}
use Rattle.metadata_changes.proofs.upgrade.upgraded.Goals as goal

pub returns-clause-table : goal.returns-clause-table
returns-clause-table c =
    let fits : FitsSigned w64 c.args.now = search rules in
    let value = simp to_z-of_z at c.in_ok-after.ensures in
    let long : is_long c.args.now ≡ true = grind (arith, ints, c.ranges.now) in
    λ h two. subst IsTable (sym value) (table_still c.args.meta.now c.args.path.now c.args.now long h two)

pub returns-clause-others : goal.returns-clause-others
returns-clause-others c =
    subst (λ (m : TableMeta). KeepsOthers (codes "metadata-log" ∷ codes "next-row-id" ∷ []) c.args.meta.now.rest m.rest) (sym c.in_ok-after.ensures)
    (upgrade_keeps c.args.meta.now.rest c.args.path.now c.args.meta.now.last_updated)

pub returns-clause-snapshots : goal.returns-clause-snapshots
returns-clause-snapshots c =
    subst (λ (m : TableMeta). SnapshotsKeepOthers (codes "first-row-id" ∷ codes "added-rows" ∷ []) c.args.meta.now.snapshots m.snapshots) (sym c.in_ok-after.ensures)
    (upgrade_keeps_snapshots c.args.meta.now.snapshots)

pub returns-clause-not_before : goal.returns-clause-not_before
returns-clause-not_before c =
    let fits : FitsSigned w64 c.args.now = search rules in
    subst (λ (m : TableMeta). c.args.meta.now.last_updated ≤ℤ m.last_updated) (sym (simp to_z-of_z at c.in_ok-after.ensures)) (first_below c.args.meta.now.last_updated c.args.now)

pub returns-clause-reached : goal.returns-clause-reached
returns-clause-reached c =
    let fits : FitsSigned w64 c.args.now = search rules in
    subst (λ (m : TableMeta). c.args.now ≤ℤ m.last_updated) (sym (simp to_z-of_z at c.in_ok-after.ensures)) (second_below c.args.meta.now.last_updated c.args.now)
