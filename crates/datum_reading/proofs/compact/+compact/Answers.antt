use Rattle.std.proofs.Common.{List, sym, subst}
use Rattle.schema_tree.specs.declared.schema.Field.{Field}
use Rattle.schema_tree.specs.declared.schema.Schema.{Schema}
use Rattle.schema_tree.specs.declared.schema.Schema.TheVariants.{Rec, Array, Map}
use Rattle.datum_reading.specs.Compact.{IsPassedAs}
use Rattle.datum_reading.proofs.Compacting.{rec_same, array_same, map_same, fields_next, union_next, union_done}
use Rattle.datum_reading.proofs.compact.+compact.Goals as goal

pub compact_record-returns : goal.compact_record-returns
compact_record-returns t c =
    let same = rec_same c.in_ok-copy.field-0 c.args.name.now c.in_ok-fields.fields c.args.fields.now c.in_ok-fields.ensures in
    subst (λ (fields : List Field). IsPassedAs (Rec c.in_ok-copy.field-0 fields) (Rec c.args.name.now c.args.fields.now)) (sym c.in_ok-new.ensures) same

pub compact_array-returns : goal.compact_array-returns
compact_array-returns t c =
    let same = array_same c.in_ok-items.items c.args.items.now c.args.element_id c.args.keyed c.in_ok-items.ensures in
    subst (λ (s : Schema). IsPassedAs (Array s c.args.element_id c.args.keyed) (Array c.args.items.now c.args.element_id c.args.keyed)) (sym c.in_ok-new.ensures) same

pub compact_map-returns : goal.compact_map-returns
compact_map-returns t c =
    let same = map_same c.in_ok-values.values c.args.values.now c.args.key_id c.args.value_id c.in_ok-values.ensures in
    subst (λ (s : Schema). IsPassedAs (Map s c.args.key_id c.args.value_id) (Map c.args.values.now c.args.key_id c.args.value_id)) (sym c.in_ok-new.ensures) same

pub compact_union-loop-branch-preserved : goal.compact_union-loop-branch-preserved
compact_union-loop-branch-preserved t c =
    union_next c.as_slice-branch-items.result.now c.loop-branch.found.items c.push.new.self.items c.loop-branch.branch-index c.branch-item.result c.in_ok-compact_schema.field-0
    c.loop-branch-test.true c.branch-item.is c.loop-branch.invariant c.in_ok-compact_schema.ensures c.in_ok-push.ensures.items

pub compact_union-returns : goal.compact_union-returns
compact_union-returns t c =
    union_done c.as_slice-branch-items.result.now c.args.branches.now c.loop-branch.found.items c.from_vec.result c.loop-branch.branch-index
    c.loop-branch-test.false c.as_slice-branch-items.ensures c.from_vec.ensures c.loop-branch.invariant

pub compact_fields-loop-field-preserved : goal.compact_fields-loop-field-preserved
compact_fields-loop-field-preserved t c =
    fields_next c.loop-field.found.items c.push_field.new.found.items c.as_slice-field-items.result.now c.loop-field.field-index c.field-item.result c.in_ok-compact_field.field-0.schema
    c.loop-field-test.true c.field-item.is c.loop-field.invariant c.in_ok-compact_field.ensures c.in_ok-push_field.ensures
