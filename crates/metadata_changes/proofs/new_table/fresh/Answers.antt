use Rattle.std.proofs.Common.{◌≡◌, codes, sym, subst, true, arith, w64, rules, FitsSigned}
use Rattle.std.proofs.lemmas.Int.{ints, to_z-of_z}
use Rattle.json_members.specs.Form.{is_long}
use Rattle.metadata_reading.specs.Table.{IsTable}
use Rattle.metadata_changes.specs.FreshLaws.{table_fresh}
use Rattle.metadata_changes.specs.LastColumn.{IsLastColumnId}
use Rattle.metadata_changes.specs.LastColumnLaws.{last_column_is}
use Rattle.metadata_reading.specs.declared.meta.TableMeta.{TableMeta}
use Rattle.serde_json.specs.Find.{get_member}
use Rattle.metadata_changes.proofs.new_table.fresh.Goals as goal

pub returns-clause-table : goal.returns-clause-table
returns-clause-table c =
    let fits : FitsSigned w64 c.args.now = search rules in
    let value = simp to_z-of_z at c.in_ok-meta.ensures.value in
    let long : is_long c.args.now ≡ true = grind (arith, ints, c.ranges.now) in
    subst IsTable (sym value) (table_fresh c.args.uuid c.args.version c.args.location.now c.args.columns.now c.args.now c.requires.version long c.in_ok-meta.ensures.columns)

pub returns-clause-last_column_id : goal.returns-clause-last_column_id
returns-clause-last_column_id c =
    subst (λ (m : TableMeta). IsLastColumnId c.args.columns.now (get_member (codes "last-column-id") m.rest)) (sym c.in_ok-meta.ensures.value)
    (last_column_is c.args.columns.now)
