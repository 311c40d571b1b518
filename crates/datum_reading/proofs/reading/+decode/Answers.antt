use Rattle.std.proofs.Common.{◌+◌, length, ap, arith}
use Rattle.std.proofs.lemmas.Result.{err_from_is_err_and}
use Rattle.words.specs.Reading.{map_value}
use Rattle.words.specs.Laws.{refused_so, refused_for_certain}
use Rattle.datum_reading.specs.Refusal.{is_memory}
use Rattle.datum_reading.specs.Reading.{pair_at, datum_at}
use Rattle.datum_reading.proofs.BlockSteps.{head_fails, blocks_end, items_fail, size_fails, blocks_on, blocks_stop}
use Rattle.datum_reading.specs.FieldSteps.{field_fails, fields_on, fields_end}
use Rattle.datum_reading.proofs.BranchSteps.{Chose, union_is}
use Rattle.datum_reading.proofs.ItemSteps.{item_fails, items_on, items_end}
use Rattle.datum_reading.proofs.reading.+decode.Goals as goal

-- ---- read_array

pub read_array-returns-in_err-head-clause-exact : goal.read_array-returns-in_err-head-clause-exact
read_array-returns-in_err-head-clause-exact t c =
    let p = err_from_is_err_and c.from_residual.result c.from_residual.ensures.1 in
    rw (p.1, p.2) (refused_for_certain (is_memory c.in_err-head.field-0.0) (ap (map_value _)
    (head_fails (datum_at c.args.schema.now) (length c.args.input.now + 1) c.loop.counter c.loop.items c.args.input.now c.loop.at
    c.in_err-head.field-0.0 _ c.loop-test.true c.in_err-head.ensures.exact c.loop.invariant.so_far)))

pub read_array-returns-then-head-eq0-clause-exact : goal.read_array-returns-then-head-eq0-clause-exact
read_array-returns-then-head-eq0-clause-exact t c =
    ap (map_value _)
    (blocks_end (datum_at c.args.schema.now) (length c.args.input.now + 1) c.loop.counter c.loop.items c.args.input.now c.loop.at c.in_ok-head.head _ c.loop-test.true c.in_ok-head.ensures.exact c.if-head-eq0.true c.loop.invariant.so_far)

pub read_array-returns-in_err-after-clause-exact : goal.read_array-returns-in_err-after-clause-exact
read_array-returns-in_err-after-clause-exact t c =
    let p = err_from_is_err_and c.from_residual-in_err-after.result c.from_residual-in_err-after.ensures.1 in
    rw (p.1, p.2) (refused_so (is_memory c.in_err-after.field-0.0) (λ e. ap (map_value _)
    (items_fail (datum_at c.args.schema.now) (length c.args.input.now + 1) c.loop.counter c.loop.items c.args.input.now c.loop.at
    c.in_ok-head.head c.in_err-after.field-0.0 _ c.loop-test.true c.in_ok-head.ensures.exact c.if-head-eq0.false e c.loop.invariant.so_far))
    c.in_err-after.ensures.exact)

pub read_array-returns-in_err-check_size-clause-exact : goal.read_array-returns-in_err-check_size-clause-exact
read_array-returns-in_err-check_size-clause-exact t c =
    let p = err_from_is_err_and c.from_residual-in_err-check_size.result c.from_residual-in_err-check_size.ensures.1 in
    rw (p.1, p.2) (refused_for_certain (is_memory c.in_err-check_size.field-0.0) (ap (map_value _)
    (size_fails (datum_at c.args.schema.now) (length c.args.input.now + 1) c.loop.counter c.loop.items c.read_items.new.items c.args.input.now
    c.loop.at c.in_ok-head.head c.in_ok-after.after c.in_err-check_size.field-0.0 _ c.loop-test.true c.in_ok-head.ensures.exact
    c.if-head-eq0.false c.in_ok-after.ensures.exact c.in_err-check_size.ensures c.loop.invariant.so_far)))

pub read_array-loop-preserved : goal.read_array-loop-preserved
read_array-loop-preserved t c = record {
  start = omega (arith, c.in_ok-after.ensures.within, c.in_ok-head.ensures.within);
  within = omega (arith, c.in_ok-after.ensures.within);
  so_far =
      blocks_on (datum_at c.args.schema.now) (length c.args.input.now + 1) c.loop.counter c.loop.items c.read_items.new.items c.args.input.now c.loop.at
      c.in_ok-head.head c.in_ok-after.after _ c.loop-test.true c.in_ok-head.ensures.exact c.if-head-eq0.false c.in_ok-after.ensures.exact
      c.in_ok-check_size.ensures c.loop.invariant.so_far;
}

pub read_array-returns-clause-exact : goal.read_array-returns-clause-exact
read_array-returns-clause-exact t c = ap (map_value _) (blocks_stop (datum_at c.args.schema.now) (length c.args.input.now + 1) c.loop.counter c.loop.items c.args.input.now c.loop.at _ c.loop-test.false c.loop.invariant.so_far)

-- ---- read_items

pub read_items-returns-in_err-item-clause-exact : goal.read_items-returns-in_err-item-clause-exact
read_items-returns-in_err-item-clause-exact t c =
    let p = err_from_is_err_and c.from_residual.result c.from_residual.ensures.1 in
    rw (p.1, p.2) (refused_so (is_memory c.in_err-item.field-0.0) (λ e. item_fails (datum_at c.args.schema.now) c.args.count c.loop.counter c.loop.items c.args.input.now c.loop.at c.in_err-item.field-0.0 _ c.loop-test.true e c.loop.invariant.so_far) c.in_err-item.ensures.exact)

pub read_items-loop-preserved : goal.read_items-loop-preserved
read_items-loop-preserved t c = record {
  start = omega (arith, c.in_ok-item.ensures.within);
  within = omega (arith, c.in_ok-item.ensures.within);
  so_far = items_on (datum_at c.args.schema.now) c.args.count c.loop.counter c.loop.items c.push.new.self c.args.input.now c.loop.at c.in_ok-item.item c.in_ok-item.after _ c.loop-test.true c.in_ok-item.ensures.exact c.in_ok-push.ensures.ok c.loop.invariant.so_far;
}

pub read_items-returns-clause-exact : goal.read_items-returns-clause-exact
read_items-returns-clause-exact t c = items_end (datum_at c.args.schema.now) c.args.count c.loop.counter c.loop.items c.args.input.now c.loop.at _ c.loop-test.false c.loop.invariant.so_far

-- ---- read_map

pub read_map-returns-in_err-head-clause-exact : goal.read_map-returns-in_err-head-clause-exact
read_map-returns-in_err-head-clause-exact t c =
    let p = err_from_is_err_and c.from_residual.result c.from_residual.ensures.1 in
    rw (p.1, p.2) (refused_for_certain (is_memory c.in_err-head.field-0.0) (ap (map_value _)
    (head_fails (pair_at (datum_at c.args.schema.now)) (length c.args.input.now + 1) c.loop.counter c.loop.pairs c.args.input.now c.loop.at
    c.in_err-head.field-0.0 _ c.loop-test.true c.in_err-head.ensures.exact c.loop.invariant.so_far)))

pub read_map-returns-then-head-eq0-clause-exact : goal.read_map-returns-then-head-eq0-clause-exact
read_map-returns-then-head-eq0-clause-exact t c =
    ap (map_value _)
    (blocks_end (pair_at (datum_at c.args.schema.now)) (length c.args.input.now + 1) c.loop.counter c.loop.pairs c.args.input.now c.loop.at c.in_ok-head.head _ c.loop-test.true c.in_ok-head.ensures.exact c.if-head-eq0.true c.loop.invariant.so_far)

pub read_map-returns-in_err-after-clause-exact : goal.read_map-returns-in_err-after-clause-exact
read_map-returns-in_err-after-clause-exact t c =
    let p = err_from_is_err_and c.from_residual-in_err-after.result c.from_residual-in_err-after.ensures.1 in
    rw (p.1, p.2) (refused_so (is_memory c.in_err-after.field-0.0) (λ e. ap (map_value _)
    (items_fail (pair_at (datum_at c.args.schema.now)) (length c.args.input.now + 1) c.loop.counter c.loop.pairs c.args.input.now c.loop.at
    c.in_ok-head.head c.in_err-after.field-0.0 _ c.loop-test.true c.in_ok-head.ensures.exact c.if-head-eq0.false e c.loop.invariant.so_far))
    c.in_err-after.ensures.exact)

pub read_map-returns-in_err-check_size-clause-exact : goal.read_map-returns-in_err-check_size-clause-exact
read_map-returns-in_err-check_size-clause-exact t c =
    let p = err_from_is_err_and c.from_residual-in_err-check_size.result c.from_residual-in_err-check_size.ensures.1 in
    rw (p.1, p.2) (refused_for_certain (is_memory c.in_err-check_size.field-0.0) (ap (map_value _)
    (size_fails (pair_at (datum_at c.args.schema.now)) (length c.args.input.now + 1) c.loop.counter c.loop.pairs c.read_pairs.new.pairs
    c.args.input.now c.loop.at c.in_ok-head.head c.in_ok-after.after c.in_err-check_size.field-0.0 _ c.loop-test.true c.in_ok-head.ensures.exact
    c.if-head-eq0.false c.in_ok-after.ensures.exact c.in_err-check_size.ensures c.loop.invariant.so_far)))

pub read_map-loop-preserved : goal.read_map-loop-preserved
read_map-loop-preserved t c = record {
  start = omega (arith, c.in_ok-after.ensures.within, c.in_ok-head.ensures.within);
  within = omega (arith, c.in_ok-after.ensures.within);
  so_far =
      blocks_on (pair_at (datum_at c.args.schema.now)) (length c.args.input.now + 1) c.loop.counter c.loop.pairs c.read_pairs.new.pairs c.args.input.now
      c.loop.at c.in_ok-head.head c.in_ok-after.after _ c.loop-test.true c.in_ok-head.ensures.exact c.if-head-eq0.false c.in_ok-after.ensures.exact
      c.in_ok-check_size.ensures c.loop.invariant.so_far;
}

pub read_map-returns-clause-exact : goal.read_map-returns-clause-exact
read_map-returns-clause-exact t c = ap (map_value _) (blocks_stop (pair_at (datum_at c.args.schema.now)) (length c.args.input.now + 1) c.loop.counter c.loop.pairs c.args.input.now c.loop.at _ c.loop-test.false c.loop.invariant.so_far)

-- ---- read_pairs

pub read_pairs-returns-in_err-pair-clause-exact : goal.read_pairs-returns-in_err-pair-clause-exact
read_pairs-returns-in_err-pair-clause-exact t c =
    let p = err_from_is_err_and c.from_residual.result c.from_residual.ensures.1 in
    rw (p.1, p.2) (refused_so (is_memory c.in_err-pair.field-0.0) (λ e. item_fails (pair_at (datum_at c.args.schema.now)) c.args.count c.loop.counter c.loop.pairs c.args.input.now c.loop.at c.in_err-pair.field-0.0 _ c.loop-test.true e c.loop.invariant.so_far) c.in_err-pair.ensures.exact)

pub read_pairs-loop-preserved : goal.read_pairs-loop-preserved
read_pairs-loop-preserved t c = record {
  start = omega (arith, c.in_ok-pair.ensures.within);
  within = omega (arith, c.in_ok-pair.ensures.within);
  so_far = items_on (pair_at (datum_at c.args.schema.now)) c.args.count c.loop.counter c.loop.pairs c.push.new.self c.args.input.now c.loop.at c.in_ok-pair.pair c.in_ok-pair.after _ c.loop-test.true c.in_ok-pair.ensures.exact c.in_ok-push.ensures.ok c.loop.invariant.so_far;
}

pub read_pairs-returns-clause-exact : goal.read_pairs-returns-clause-exact
read_pairs-returns-clause-exact t c = items_end (pair_at (datum_at c.args.schema.now)) c.args.count c.loop.counter c.loop.pairs c.args.input.now c.loop.at _ c.loop-test.false c.loop.invariant.so_far

-- ---- read_record

pub read_record-returns-in_err-value-clause-exact : goal.read_record-returns-in_err-value-clause-exact
read_record-returns-in_err-value-clause-exact t c =
    let p = err_from_is_err_and c.from_residual.result c.from_residual.ensures.1 in
    rw (p.1, p.2) (refused_so (is_memory c.in_err-value.field-0.0) (λ e. ap (map_value _)
    (field_fails c.as_slice-field-items.result.now c.loop-field.field-index c.field-item.result c.loop-field.values c.args.input.now
    c.loop-field.at c.in_err-value.field-0.0 _ c.loop-field-test.true c.field-item.is e c.loop-field.invariant.so_far))
    c.in_err-value.ensures.exact)

pub read_record-loop-field-preserved : goal.read_record-loop-field-preserved
read_record-loop-field-preserved t c = record {
  start = omega (arith, c.in_ok-value.ensures.within);
  within = omega (arith, c.in_ok-value.ensures.within);
  so_far =
      fields_on c.as_slice-field-items.result.now c.loop-field.field-index c.field-item.result c.loop-field.values c.push.new.self c.args.input.now
      c.loop-field.at c.in_ok-value.value c.in_ok-value.after _ c.loop-field-test.true c.field-item.is c.in_ok-value.ensures.exact c.in_ok-push.ensures.ok
      c.loop-field.invariant.so_far;
}

pub read_record-returns-clause-exact : goal.read_record-returns-clause-exact
read_record-returns-clause-exact t c = ap (map_value _) (fields_end c.as_slice-field-items.result.now c.loop-field.field-index c.loop-field.values c.args.input.now c.loop-field.at _ c.loop-field-test.false c.loop-field.invariant.so_far)

-- ---- read_union

pub read_union-returns-in_err-value-clause-exact : goal.read_union-returns-in_err-value-clause-exact
read_union-returns-in_err-value-clause-exact t c =
    let p = err_from_is_err_and c.from_residual-in_err-value.result c.from_residual-in_err-value.ensures.1 in
    let chose : Chose c.args.branches.now c.args.input.now c.args.at c.in_ok-choice.choice c.in_ok-choice.behind c.index-as_slice-choice.result = record {
      read = rw c.len.ensures at c.in_ok-choice.ensures.exact;
      below = omega (arith, c.in_ok-choice.ensures.below, c.len.ensures);
      is = rw c.as_slice.ensures at c.index-as_slice-choice.is;
    } in
    rw (p.1, p.2) (refused_so (is_memory c.in_err-value.field-0.0) (union_is c.args.branches.now c.args.input.now c.args.at c.in_ok-choice.choice c.in_ok-choice.behind c.index-as_slice-choice.result _ chose) c.in_err-value.ensures.exact)

pub read_union-returns-clause-exact : goal.read_union-returns-clause-exact
read_union-returns-clause-exact t c =
    let chose : Chose c.args.branches.now c.args.input.now c.args.at c.in_ok-choice.choice c.in_ok-choice.behind c.index-as_slice-choice.result = record {
      read = rw c.len.ensures at c.in_ok-choice.ensures.exact;
      below = omega (arith, c.in_ok-choice.ensures.below, c.len.ensures);
      is = rw c.as_slice.ensures at c.index-as_slice-choice.is;
    } in
    let boxed = c.in_ok-new.ensures in
    rw boxed (union_is c.args.branches.now c.args.input.now c.args.at c.in_ok-choice.choice c.in_ok-choice.behind c.index-as_slice-choice.result _ chose c.in_ok-value.ensures.exact)
