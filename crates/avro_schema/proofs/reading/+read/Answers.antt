use Rattle.std.proofs.Common.{◌≡◌, ℕ, suc, ◌+◌, ◌-◌, sym, ap, subst, arith}
use Rattle.std.proofs.lemmas.Result.{err_from_is_err_and}
use Rattle.std.specs.Fmt.{decimal}
use Rattle.words.specs.Laws.{refused_so}
use Rattle.words.specs.Reading.{Gives}
use Rattle.serde_json.specs.View.{view}
use Rattle.schema_tree.specs.declared.schema.Schema.{Schema}
use Rattle.schema_tree.specs.declared.schema.Field.{Field}
use Rattle.avro_schema.specs.Parts.{schema_below}
use Rattle.avro_schema.specs.Reading.{Reader}
use Rattle.avro_schema.specs.Refusal.{is_memory}
use Rattle.avro_schema.proofs.PartLaws.{below_layer, below_none, layer_array}
use Rattle.avro_schema.proofs.ItemLaws.{under_gives, under_refuses, fields_on, fields_fail, fields_end, branches_on}
use Rattle.avro_schema.proofs.ItemLaws.{branches_fail, branches_end}
use Rattle.avro_schema.proofs.reading.+read.Goals as goal

pub branches_of-returns-in_err-branch : goal.branches_of-returns-in_err-branch
branches_of-returns-in_err-branch t c =
    let p = err_from_is_err_and c.from_residual.result c.from_residual.ensures.1 in
    let l = c.loop-value in
    let e = c.in_err-branch.field-0.0 in
    let refused = under_refuses (decimal l.place) (λ (branch : Schema). (branch, c.branch_of.new.seen)) c.branch_of.result _ e c.branch_of.ensures.exact c.in_err-branch.ensures in
    record { exact = rw (p.1, p.2) (refused_so (is_memory e) (λ is. branches_fail (schema_below c.args.room c.args.scope.now) l.place l.branches l.seen c.args.values.now l.value-index _ c.value-item.result e c.loop-value-test.true c.value-item.is l.invariant.so_far is) refused) }

pub branches_of-loop-value-preserved : goal.branches_of-loop-value-preserved
branches_of-loop-value-preserved t c =
    let l = c.loop-value in
    let read = under_gives (decimal l.place) (λ (branch : Schema). (branch, c.branch_of.new.seen)) c.branch_of.result _ c.in_ok-branch.branch c.branch_of.ensures.exact c.in_ok-branch.ensures in
    record {
      place = ap (λ (n : ℕ). n + 1) l.invariant.place;
      so_far = rw (c.in_ok-push.ensures.ok) (branches_on (schema_below c.args.room c.args.scope.now) l.place l.branches l.seen c.args.values.now l.value-index _ c.value-item.result c.in_ok-branch.branch c.branch_of.new.seen c.loop-value-test.true c.value-item.is l.invariant.so_far read);
    }

pub branches_of-returns : goal.branches_of-returns
branches_of-returns t c =
    let l = c.loop-value in
    record { exact = branches_end (schema_below c.args.room c.args.scope.now) l.place l.branches l.seen c.args.values.now l.value-index _ c.loop-value-test.false l.invariant.so_far }

pub fields_of-returns-in_err-field : goal.fields_of-returns-in_err-field
fields_of-returns-in_err-field t c =
    let p = err_from_is_err_and c.from_residual.result c.from_residual.ensures.1 in
    let l = c.loop-value in
    let e = c.in_err-field.field-0.0 in
    let refused = under_refuses (decimal l.place) (λ (field : Field). (field, c.field_of.new.seen)) c.field_of.result _ e c.field_of.ensures.exact c.in_err-field.ensures in
    record { exact = rw (p.1, p.2) (refused_so (is_memory e) (λ is. fields_fail (schema_below c.args.room c.args.scope.now) l.place l.fields l.seen c.args.values.now l.value-index _ c.value-item.result e c.loop-value-test.true c.value-item.is l.invariant.so_far is) refused) }

pub fields_of-loop-value-preserved : goal.fields_of-loop-value-preserved
fields_of-loop-value-preserved t c =
    let l = c.loop-value in
    let read = under_gives (decimal l.place) (λ (field : Field). (field, c.field_of.new.seen)) c.field_of.result _ c.in_ok-field.field c.field_of.ensures.exact c.in_ok-field.ensures in
    record {
      place = ap (λ (n : ℕ). n + 1) l.invariant.place;
      so_far = rw (c.in_ok-push.ensures.ok) (fields_on (schema_below c.args.room c.args.scope.now) l.place l.fields l.seen c.args.values.now l.value-index _ c.value-item.result c.in_ok-field.field c.field_of.new.seen c.loop-value-test.true c.value-item.is l.invariant.so_far read);
    }

pub fields_of-returns : goal.fields_of-returns
fields_of-returns t c =
    let l = c.loop-value in
    record { exact = rw c.into_list.ensures.value (fields_end (schema_below c.args.room c.args.scope.now) l.place l.fields l.seen c.args.values.now l.value-index _ c.loop-value-test.false l.invariant.so_far) }

pub layer_of-returns-in-Array : goal.layer_of-returns-in-Array
layer_of-returns-in-Array t c =
    let law = layer_array (schema_below c.args.room) c.args.room c.args.scope.now c.args.seen.now c.args.value.now c.in-Array.values c.as_slice.result.now c.in-Array.is c.as_slice.ensures.value in
    record { exact = subst (λ r. Gives is_memory (λ (schema : Schema). (schema, c.union_of.new.seen)) c.union_of.result r) (sym law) c.union_of.ensures.exact }

pub schema_of-returns-then-levels-eq0 : goal.schema_of-returns-then-levels-eq0
schema_of-returns-then-levels-eq0 t c = record { exact = below_none c.args.levels c.args.scope.now c.args.seen.now (view c.args.value.now) c.if-levels-eq0.true }

pub schema_of-returns : goal.schema_of-returns
schema_of-returns t c =
    let some : c.args.levels ≡ suc (c.args.levels - 1) = omega (arith, c.if-levels-eq0.false) in
    let law = below_layer c.args.levels (c.args.levels - 1) some in
    record { exact = subst (λ (r : Reader). Gives is_memory (λ (schema : Schema). (schema, c.layer_of.new.seen)) c.layer_of.result (r c.args.scope.now c.args.seen.now (view c.args.value.now))) (sym law) c.layer_of.ensures.exact }
