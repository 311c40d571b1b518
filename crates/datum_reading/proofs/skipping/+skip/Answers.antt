use Rattle.std.proofs.Common.{◌+◌, ◌-◌, [], ◌∷◌, ◌++◌, length, refl, ap, ◌∙◌, arith}
use Rattle.std.proofs.lemmas.Result.{err_from_is_err_and}
use Rattle.datum_reading.specs.Readers.{passed}
use Rattle.datum_reading.specs.Reading.{pair_at, items_at, datum_at}
use Rattle.datum_reading.proofs.BlockSteps.{head_fails, blocks_end, items_fail, size_fails, blocks_on, blocks_stop}
use Rattle.datum_reading.specs.FieldSteps.{field_fails, fields_on, fields_end}
use Rattle.datum_reading.proofs.BranchSteps.{Chose}
use Rattle.datum_reading.proofs.ItemSteps.{item_fails, items_on, items_end}
use Rattle.datum_reading.proofs.Passing.{passed_ok, passed_err, items_pass, items_stand, branch_passes}
use Rattle.datum_reading.proofs.skipping.+skip.Goals as goal

-- ---- skip_array

pub skip_array-returns-in_err-head-clause-exact : goal.skip_array-returns-in_err-head-clause-exact
skip_array-returns-in_err-head-clause-exact t c =
    let p = err_from_is_err_and c.from_residual.result c.from_residual.ensures.1 in
    rw (p.1, p.2) (ap passed (head_fails (datum_at c.args.schema.now) (length c.args.input.now + 1) c.loop.counter c.loop.invariant.before c.args.input.now c.loop.at c.in_err-head.field-0.0 _ c.loop-test.true c.in_err-head.ensures.exact c.loop.invariant.so_far))

pub skip_array-returns-then-head-eq0-clause-exact : goal.skip_array-returns-then-head-eq0-clause-exact
skip_array-returns-then-head-eq0-clause-exact t c =
    ap passed
    (blocks_end (datum_at c.args.schema.now) (length c.args.input.now + 1) c.loop.counter c.loop.invariant.before c.args.input.now c.loop.at c.in_ok-head.head _ c.loop-test.true c.in_ok-head.ensures.exact c.if-head-eq0.true c.loop.invariant.so_far)

pub skip_array-returns-in_err-after-clause-exact : goal.skip_array-returns-in_err-after-clause-exact
skip_array-returns-in_err-after-clause-exact t c =
    let p = err_from_is_err_and c.from_residual-in_err-after.result c.from_residual-in_err-after.ensures.1 in
    let items =
    passed_err (items_at (datum_at c.args.schema.now) c.in_ok-head.head.count c.loop.invariant.before c.args.input.now c.in_ok-head.head.first)
    c.in_err-after.field-0.0
    (items_pass (datum_at c.args.schema.now) c.in_ok-head.head.count c.loop.invariant.before [] c.args.input.now c.in_ok-head.head.first ∙ c.in_err-after.ensures.exact) in
    rw (p.1, p.2) (ap passed (items_fail (datum_at c.args.schema.now) (length c.args.input.now + 1) c.loop.counter c.loop.invariant.before
    c.args.input.now c.loop.at c.in_ok-head.head c.in_err-after.field-0.0 _ c.loop-test.true c.in_ok-head.ensures.exact c.if-head-eq0.false items
    c.loop.invariant.so_far))

pub skip_array-returns-in_err-check_size-clause-exact : goal.skip_array-returns-in_err-check_size-clause-exact
skip_array-returns-in_err-check_size-clause-exact t c =
    let p = err_from_is_err_and c.from_residual-in_err-check_size.result c.from_residual-in_err-check_size.ensures.1 in
    let items =
    passed_ok (items_at (datum_at c.args.schema.now) c.in_ok-head.head.count c.loop.invariant.before c.args.input.now c.in_ok-head.head.first)
    c.in_ok-after.after
    (items_pass (datum_at c.args.schema.now) c.in_ok-head.head.count c.loop.invariant.before [] c.args.input.now c.in_ok-head.head.first ∙ c.in_ok-after.ensures.exact) in
    rw (p.1, p.2) (ap passed (size_fails (datum_at c.args.schema.now) (length c.args.input.now + 1) c.loop.counter c.loop.invariant.before items.0
    c.args.input.now c.loop.at c.in_ok-head.head c.in_ok-after.after c.in_err-check_size.field-0.0 _ c.loop-test.true c.in_ok-head.ensures.exact
    c.if-head-eq0.false items.1 c.in_err-check_size.ensures c.loop.invariant.so_far))

pub skip_array-loop-preserved : goal.skip_array-loop-preserved
skip_array-loop-preserved t c =
    let items =
    passed_ok (items_at (datum_at c.args.schema.now) c.in_ok-head.head.count c.loop.invariant.before c.args.input.now c.in_ok-head.head.first)
    c.in_ok-after.after
    (items_pass (datum_at c.args.schema.now) c.in_ok-head.head.count c.loop.invariant.before [] c.args.input.now c.in_ok-head.head.first ∙ c.in_ok-after.ensures.exact)
    in record {
      start = omega (arith, c.in_ok-after.ensures.within, c.in_ok-head.ensures.within);
      within = omega (arith, c.in_ok-after.ensures.within);
      before = items.0;
      so_far =
          blocks_on (datum_at c.args.schema.now) (length c.args.input.now + 1) c.loop.counter c.loop.invariant.before items.0 c.args.input.now c.loop.at
          c.in_ok-head.head c.in_ok-after.after _ c.loop-test.true c.in_ok-head.ensures.exact c.if-head-eq0.false items.1 c.in_ok-check_size.ensures
          c.loop.invariant.so_far;
    }

pub skip_array-returns-clause-exact : goal.skip_array-returns-clause-exact
skip_array-returns-clause-exact t c = ap passed (blocks_stop (datum_at c.args.schema.now) (length c.args.input.now + 1) c.loop.counter c.loop.invariant.before c.args.input.now c.loop.at _ c.loop-test.false c.loop.invariant.so_far)

-- ---- skip_items

pub skip_items-returns-in_err-after-clause-exact : goal.skip_items-returns-in_err-after-clause-exact
skip_items-returns-in_err-after-clause-exact t c =
    let p = err_from_is_err_and c.from_residual.result c.from_residual.ensures.1 in
    let item = passed_err (datum_at c.args.schema.now c.args.input.now c.loop.at) c.in_err-after.field-0.0 c.in_err-after.ensures.exact in
    rw (p.1, p.2) (ap passed (item_fails (datum_at c.args.schema.now) c.args.count c.loop.counter c.loop.invariant.before c.args.input.now c.loop.at c.in_err-after.field-0.0 _ c.loop-test.true item c.loop.invariant.so_far))

pub skip_items-returns-then-after-at-2-clause-exact : goal.skip_items-returns-then-after-at-2-clause-exact
skip_items-returns-then-after-at-2-clause-exact t c =
    let item = passed_ok (datum_at c.args.schema.now c.args.input.now c.loop.at) c.in_ok-after.after c.in_ok-after.ensures.exact in
    items_stand (datum_at c.args.schema.now) (c.args.count - c.loop.counter) c.loop.invariant.before c.args.input.now c.loop.at item.0 c.in_ok-after.after _ item.1 c.if-after-at.true c.if-after-at-2.true c.loop.invariant.so_far

pub skip_items-loop-preserved : goal.skip_items-loop-preserved
skip_items-loop-preserved t c =
    let item = passed_ok (datum_at c.args.schema.now c.args.input.now c.loop.at) c.in_ok-after.after c.in_ok-after.ensures.exact in record {
      start = omega (arith, c.in_ok-after.ensures.within);
      within = omega (arith, c.in_ok-after.ensures.within);
      before = c.loop.invariant.before ++ item.0 ∷ [];
      so_far = items_on (datum_at c.args.schema.now) c.args.count c.loop.counter c.loop.invariant.before (c.loop.invariant.before ++ item.0 ∷ []) c.args.input.now c.loop.at item.0 c.in_ok-after.after _ c.loop-test.true item.1 refl c.loop.invariant.so_far;
    }

pub skip_items-returns-clause-exact : goal.skip_items-returns-clause-exact
skip_items-returns-clause-exact t c = ap passed (items_end (datum_at c.args.schema.now) c.args.count c.loop.counter c.loop.invariant.before c.args.input.now c.loop.at _ c.loop-test.false c.loop.invariant.so_far)

-- ---- skip_map

pub skip_map-returns-in_err-head-clause-exact : goal.skip_map-returns-in_err-head-clause-exact
skip_map-returns-in_err-head-clause-exact t c =
    let p = err_from_is_err_and c.from_residual.result c.from_residual.ensures.1 in
    rw (p.1, p.2) (ap passed (head_fails (pair_at (datum_at c.args.schema.now)) (length c.args.input.now + 1) c.loop.counter c.loop.invariant.before c.args.input.now c.loop.at c.in_err-head.field-0.0 _ c.loop-test.true c.in_err-head.ensures.exact c.loop.invariant.so_far))

pub skip_map-returns-then-head-eq0-clause-exact : goal.skip_map-returns-then-head-eq0-clause-exact
skip_map-returns-then-head-eq0-clause-exact t c =
    ap passed
    (blocks_end (pair_at (datum_at c.args.schema.now)) (length c.args.input.now + 1) c.loop.counter c.loop.invariant.before c.args.input.now c.loop.at c.in_ok-head.head _ c.loop-test.true c.in_ok-head.ensures.exact c.if-head-eq0.true c.loop.invariant.so_far)

pub skip_map-returns-in_err-after-clause-exact : goal.skip_map-returns-in_err-after-clause-exact
skip_map-returns-in_err-after-clause-exact t c =
    let p = err_from_is_err_and c.from_residual-in_err-after.result c.from_residual-in_err-after.ensures.1 in
    let items =
    passed_err (items_at (pair_at (datum_at c.args.schema.now)) c.in_ok-head.head.count c.loop.invariant.before c.args.input.now c.in_ok-head.head.first)
    c.in_err-after.field-0.0
    (items_pass (pair_at (datum_at c.args.schema.now)) c.in_ok-head.head.count c.loop.invariant.before [] c.args.input.now c.in_ok-head.head.first ∙ c.in_err-after.ensures.exact) in
    rw (p.1, p.2) (ap passed (items_fail (pair_at (datum_at c.args.schema.now)) (length c.args.input.now + 1) c.loop.counter c.loop.invariant.before
    c.args.input.now c.loop.at c.in_ok-head.head c.in_err-after.field-0.0 _ c.loop-test.true c.in_ok-head.ensures.exact c.if-head-eq0.false items
    c.loop.invariant.so_far))

pub skip_map-returns-in_err-check_size-clause-exact : goal.skip_map-returns-in_err-check_size-clause-exact
skip_map-returns-in_err-check_size-clause-exact t c =
    let p = err_from_is_err_and c.from_residual-in_err-check_size.result c.from_residual-in_err-check_size.ensures.1 in
    let items =
    passed_ok (items_at (pair_at (datum_at c.args.schema.now)) c.in_ok-head.head.count c.loop.invariant.before c.args.input.now c.in_ok-head.head.first)
    c.in_ok-after.after
    (items_pass (pair_at (datum_at c.args.schema.now)) c.in_ok-head.head.count c.loop.invariant.before [] c.args.input.now c.in_ok-head.head.first ∙ c.in_ok-after.ensures.exact) in
    rw (p.1, p.2) (ap passed (size_fails (pair_at (datum_at c.args.schema.now)) (length c.args.input.now + 1) c.loop.counter c.loop.invariant.before
    items.0 c.args.input.now c.loop.at c.in_ok-head.head c.in_ok-after.after c.in_err-check_size.field-0.0 _ c.loop-test.true
    c.in_ok-head.ensures.exact c.if-head-eq0.false items.1 c.in_err-check_size.ensures c.loop.invariant.so_far))

pub skip_map-loop-preserved : goal.skip_map-loop-preserved
skip_map-loop-preserved t c =
    let items =
    passed_ok (items_at (pair_at (datum_at c.args.schema.now)) c.in_ok-head.head.count c.loop.invariant.before c.args.input.now c.in_ok-head.head.first)
    c.in_ok-after.after
    (items_pass (pair_at (datum_at c.args.schema.now)) c.in_ok-head.head.count c.loop.invariant.before [] c.args.input.now c.in_ok-head.head.first ∙ c.in_ok-after.ensures.exact)
    in record {
      start = omega (arith, c.in_ok-after.ensures.within, c.in_ok-head.ensures.within);
      within = omega (arith, c.in_ok-after.ensures.within);
      before = items.0;
      so_far =
          blocks_on (pair_at (datum_at c.args.schema.now)) (length c.args.input.now + 1) c.loop.counter c.loop.invariant.before items.0 c.args.input.now
          c.loop.at c.in_ok-head.head c.in_ok-after.after _ c.loop-test.true c.in_ok-head.ensures.exact c.if-head-eq0.false items.1
          c.in_ok-check_size.ensures c.loop.invariant.so_far;
    }

pub skip_map-returns-clause-exact : goal.skip_map-returns-clause-exact
skip_map-returns-clause-exact t c = ap passed (blocks_stop (pair_at (datum_at c.args.schema.now)) (length c.args.input.now + 1) c.loop.counter c.loop.invariant.before c.args.input.now c.loop.at _ c.loop-test.false c.loop.invariant.so_far)

-- ---- skip_pairs

pub skip_pairs-returns-in_err-at-clause-exact : goal.skip_pairs-returns-in_err-at-clause-exact
skip_pairs-returns-in_err-at-clause-exact t c =
    let p = err_from_is_err_and c.from_residual.result c.from_residual.ensures.1 in
    let item = passed_err (pair_at (datum_at c.args.schema.now) c.args.input.now c.loop.at) c.in_err-at.field-0.0 c.in_err-at.ensures.exact in
    rw (p.1, p.2) (ap passed (item_fails (pair_at (datum_at c.args.schema.now)) c.args.count c.loop.counter c.loop.invariant.before c.args.input.now c.loop.at c.in_err-at.field-0.0 _ c.loop-test.true item c.loop.invariant.so_far))

pub skip_pairs-loop-preserved : goal.skip_pairs-loop-preserved
skip_pairs-loop-preserved t c =
    let item = passed_ok (pair_at (datum_at c.args.schema.now) c.args.input.now c.loop.at) c.in_ok-at.at c.in_ok-at.ensures.exact in record {
      start = omega (arith, c.in_ok-at.ensures.within);
      within = omega (arith, c.in_ok-at.ensures.within);
      before = c.loop.invariant.before ++ item.0 ∷ [];
      so_far = items_on (pair_at (datum_at c.args.schema.now)) c.args.count c.loop.counter c.loop.invariant.before (c.loop.invariant.before ++ item.0 ∷ []) c.args.input.now c.loop.at item.0 c.in_ok-at.at _ c.loop-test.true item.1 refl c.loop.invariant.so_far;
    }

pub skip_pairs-returns-clause-exact : goal.skip_pairs-returns-clause-exact
skip_pairs-returns-clause-exact t c = ap passed (items_end (pair_at (datum_at c.args.schema.now)) c.args.count c.loop.counter c.loop.invariant.before c.args.input.now c.loop.at _ c.loop-test.false c.loop.invariant.so_far)

-- ---- skip_fields

pub skip_fields-returns-in_err-at-clause-exact : goal.skip_fields-returns-in_err-at-clause-exact
skip_fields-returns-in_err-at-clause-exact t c =
    let p = err_from_is_err_and c.from_residual.result c.from_residual.ensures.1 in
    let field = passed_err (datum_at c.field-item.result.schema c.args.input.now c.loop-field.at) c.in_err-at.field-0.0 c.in_err-at.ensures.exact in
    rw (p.1, p.2) (ap passed (field_fails c.as_slice-field-items.result.now c.loop-field.field-index c.field-item.result c.loop-field.invariant.before c.args.input.now c.loop-field.at c.in_err-at.field-0.0 _ c.loop-field-test.true c.field-item.is field c.loop-field.invariant.so_far))

pub skip_fields-loop-field-preserved : goal.skip_fields-loop-field-preserved
skip_fields-loop-field-preserved t c =
    let field = passed_ok (datum_at c.field-item.result.schema c.args.input.now c.loop-field.at) c.in_ok-at.at c.in_ok-at.ensures.exact in record {
      start = omega (arith, c.in_ok-at.ensures.within);
      within = omega (arith, c.in_ok-at.ensures.within);
      before = c.loop-field.invariant.before ++ field.0 ∷ [];
      so_far =
          fields_on c.as_slice-field-items.result.now c.loop-field.field-index c.field-item.result c.loop-field.invariant.before
          (c.loop-field.invariant.before ++ field.0 ∷ []) c.args.input.now c.loop-field.at field.0 c.in_ok-at.at _ c.loop-field-test.true c.field-item.is
          field.1 refl c.loop-field.invariant.so_far;
    }

pub skip_fields-returns-clause-exact : goal.skip_fields-returns-clause-exact
skip_fields-returns-clause-exact t c = ap passed (fields_end c.as_slice-field-items.result.now c.loop-field.field-index c.loop-field.invariant.before c.args.input.now c.loop-field.at _ c.loop-field-test.false c.loop-field.invariant.so_far)

-- ---- skip_branch

pub skip_branch-returns-clause-exact : goal.skip_branch-returns-clause-exact
skip_branch-returns-clause-exact t c =
    let chose : Chose c.args.branches.now c.args.input.now c.args.at c.in_ok-choice.choice c.in_ok-choice.behind c.index-as_slice-choice.result = record {
      read = rw c.len.ensures at c.in_ok-choice.ensures.exact;
      below = omega (arith, c.in_ok-choice.ensures.below, c.len.ensures);
      is = rw c.as_slice.ensures at c.index-as_slice-choice.is;
    } in
    rw (branch_passes c.args.branches.now c.args.input.now c.args.at c.in_ok-choice.choice c.in_ok-choice.behind c.index-as_slice-choice.result chose) c.skip_datum.ensures.exact
