use Rattle.std.proofs.Common.{◌≡◌, ◌∙◌, map, sym, subst, rules}
use Rattle.std.proofs.lemmas.List.{length-map}
use Rattle.datum_writing.specs.Canonical.{pair_text, canonical, field_canonical}
use Rattle.datum_writing.proofs.PutLemmas.{front_then, each_field, each_value, field_put, place_put, branch_put}
use Rattle.datum_writing.proofs.PutLemmas.{on_err, on_ok, on_err_then}
use Rattle.std.specs.Str.{IsUtf8}
use Rattle.datum_writing.specs.Spelled.{IsSpelled, IsSized, PairIsSpelled}
use Rattle.datum_writing.proofs.SpelledLemmas.{null_spelled, boolean_spelled, int_spelled, long_spelled}
use Rattle.datum_writing.proofs.SpelledLemmas.{float_spelled, double_spelled, fixed_spelled, bytes_spelled_so}
use Rattle.datum_writing.proofs.SpelledLemmas.{string_spelled, enum_spelled}
use Rattle.datum_writing.proofs.SpelledSteps.{each_spelled_more, each_spelled_field, each_spelled_value, all_spelled}
use Rattle.datum_writing.proofs.SpelledSteps.{branch_spelled, no_branch_spelled, always_ok, of_schema, item_put}
use Rattle.datum_writing.proofs.SpelledSteps.{item_spelled, pair_put, pair_spelled, record_at, array_at, map_at}
use Rattle.datum_writing.proofs.SpelledSteps.{union_at}
use Rattle.datum_writing.proofs.writing.+put.Goals as goal

pub put_fields-loop-place-preserved : goal.put_fields-loop-place-preserved
put_fields-loop-place-preserved t c = (
  field_put c.args.fields.now c.args.values.now c.loop-place.place c.index-fields-place.result c.index-values-place.result c.args.out.now.items c.loop-place.out.items c.put_value.new.out.items
      c.loop-place-test.true c.if-place-values.true c.index-fields-place.is c.index-values-place.is c.loop-place.invariant.0 c.in_ok-put_value.ensures.ok,
  each_spelled_more c.args.fields.now c.args.values.now c.loop-place.place c.index-fields-place.result c.index-values-place.result c.loop-place-test.true c.if-place-values.true c.index-values-place.is c.loop-place.invariant.1 c.in_ok-put_value.ensures.spelled,
)

pub put_fields-returns-else-place-values-clause-ok : goal.put_fields-returns-else-place-values-clause-ok
put_fields-returns-else-place-values-clause-ok t c =
    rw (← each_value (map field_canonical c.args.fields.now) c.args.values.now c.loop-place.place c.if-place-values.false) c.loop-place.invariant.0

pub put_fields-returns-after-loop-place-clause-ok : goal.put_fields-returns-after-loop-place-clause-ok
put_fields-returns-after-loop-place-clause-ok t c =
    rw (← each_field (map field_canonical c.args.fields.now) c.args.values.now c.loop-place.place (rw (length-map c.args.fields.now field_canonical) c.loop-place-test.false)) c.loop-place.invariant.0

pub put_array-returns-in_err-put_value-clause-front : goal.put_array-returns-in_err-put_value-clause-front
put_array-returns-in_err-put_value-clause-front t c =
    on_err c.from_residual-in_err-put_value.result _ (front_then c.args.out.now.items c.loop-value.out.items c.put_value.new.out.items _ c.loop-value.invariant.0 c.in_err-put_value.ensures.front)

pub put_map-returns-in_err-put_value-clause-front : goal.put_map-returns-in_err-put_value-clause-front
put_map-returns-in_err-put_value-clause-front t c =
    let inside = front_then c.loop-pair.out.items c.put_bytes.new.out.items c.put_value.new.out.items _ c.in_ok-put_bytes.ensures.ok c.in_err-put_value.ensures.front in
    on_err c.from_residual-in_err-put_value.result _ (front_then c.args.out.now.items c.loop-pair.out.items c.put_value.new.out.items _ c.loop-pair.invariant.0 inside)

pub put_branch-returns-then-place-branches-clause-ok : goal.put_branch-returns-then-place-branches-clause-ok
put_branch-returns-then-place-branches-clause-ok t c = place_put c.args.branches.now c.args.place c.args.inside.now c.args.out.now.items c.put_place.new.out.items c.if-place-branches.true c.in_ok-put_place.ensures.ok

pub put_branch-returns-clause-ok : goal.put_branch-returns-clause-ok
put_branch-returns-clause-ok t c =
    on_ok c.put_value.result _ _ (λ put. branch_put c.args.branches.now c.args.place c.args.inside.now c.index-branches-place.result c.args.out.now.items c.put_place.new.out.items c.put_value.new.out.items
    c.if-place-branches.false c.index-branches-place.is c.in_ok-put_place.ensures.ok put) c.put_value.ensures.ok

pub put_branch-returns-clause-front : goal.put_branch-returns-clause-front
put_branch-returns-clause-front t c =
    on_err_then c.put_value.result _ _ (front_then c.args.out.now.items c.put_place.new.out.items c.put_value.new.out.items _ c.in_ok-put_place.ensures.ok) c.put_value.ensures.front

pub put_fields-returns-else-place-values-clause-spelled : goal.put_fields-returns-else-place-values-clause-spelled
put_fields-returns-else-place-values-clause-spelled t c = each_spelled_value c.args.fields.now c.args.values.now c.loop-place.place c.if-place-values.false c.loop-place.invariant.1

pub put_fields-returns-after-loop-place-clause-spelled : goal.put_fields-returns-after-loop-place-clause-spelled
put_fields-returns-after-loop-place-clause-spelled t c = each_spelled_field c.args.fields.now c.args.values.now c.loop-place.place c.loop-place-test.false c.loop-place.invariant.1

pub put_array-loop-value-preserved : goal.put_array-loop-value-preserved
put_array-loop-value-preserved t c = (
  item_put (canonical c.args.items.now) c.args.values.now c.loop-value.value-index c.value-item.result c.args.out.now.items _ c.loop-value.out.items c.put_value.new.out.items c.loop-value-test.true c.value-item.is c.loop-value.invariant.0 c.in_ok-put_value.ensures.ok,
  item_spelled (IsSpelled c.args.items.now) c.args.values.now c.loop-value.value-index c.value-item.result c.loop-value-test.true c.value-item.is c.loop-value.invariant.1 c.in_ok-put_value.ensures.spelled,
)

pub put_array-returns-clause-spelled : goal.put_array-returns-clause-spelled
put_array-returns-clause-spelled t c = always_ok c.put_long-3.result _ (all_spelled (IsSpelled c.args.items.now) c.args.values.now c.loop-value.value-index c.loop-value-test.false (search rules) c.loop-value.invariant.1)

pub put_map-loop-pair-preserved : goal.put_map-loop-pair-preserved
put_map-loop-pair-preserved t c =
    let values = c.args.values.now in
    let pair = c.pair-item.result in
    let key = c.as_bytes.result.now in
    let is : key ≡ pair.0 = c.as_bytes.ensures.value ∙ c.as_str.ensures in
    let text : IsUtf8 key = subst IsUtf8 (sym c.as_bytes.ensures.value) c.as_str.utf8 in
    let sized : IsSized key = search rules in
    let put = pair_put values pair key c.loop-pair.out.items c.put_bytes.new.out.items c.put_value.new.out.items is c.in_ok-put_bytes.ensures.ok c.in_ok-put_value.ensures.ok in
    let spelled = pair_spelled values pair key is sized text c.in_ok-put_value.ensures.spelled in (
      item_put (pair_text (canonical values)) c.args.pairs.now c.loop-pair.pair-index pair c.args.out.now.items _ c.loop-pair.out.items c.put_value.new.out.items c.loop-pair-test.true c.pair-item.is c.loop-pair.invariant.0 put,
      item_spelled (PairIsSpelled values) c.args.pairs.now c.loop-pair.pair-index pair c.loop-pair-test.true c.pair-item.is c.loop-pair.invariant.1 spelled,
    )

pub put_map-returns-clause-spelled : goal.put_map-returns-clause-spelled
put_map-returns-clause-spelled t c = always_ok c.put_long-3.result _ (all_spelled (PairIsSpelled c.args.values.now) c.args.pairs.now c.loop-pair.pair-index c.loop-pair-test.false (search rules) c.loop-pair.invariant.1)

pub put_branch-returns-then-place-branches-clause-spelled : goal.put_branch-returns-then-place-branches-clause-spelled
put_branch-returns-then-place-branches-clause-spelled t c = no_branch_spelled c.args.branches.now c.args.place c.args.inside.now c.if-place-branches.true

pub put_branch-returns-clause-spelled : goal.put_branch-returns-clause-spelled
put_branch-returns-clause-spelled t c =
    on_ok c.put_value.result _ _ (branch_spelled c.args.branches.now c.args.place c.args.inside.now c.index-branches-place.result c.if-place-branches.false c.index-branches-place.is) c.put_value.ensures.spelled

pub put_value-returns-in-Null-clause-spelled : goal.put_value-returns-in-Null-clause-spelled
put_value-returns-in-Null-clause-spelled t c = of_schema _ _ _ c.in-Null.is (null_spelled c.args.datum.now)

pub put_value-returns-in-Boolean-clause-spelled : goal.put_value-returns-in-Boolean-clause-spelled
put_value-returns-in-Boolean-clause-spelled t c = always_ok c.put_flag.result _ (of_schema _ _ _ c.in-Boolean.is (boolean_spelled c.args.datum.now))

pub put_value-returns-in-Int-clause-spelled : goal.put_value-returns-in-Int-clause-spelled
put_value-returns-in-Int-clause-spelled t c = always_ok c.put_number.result _ (of_schema _ _ _ c.in-Int.is (int_spelled c.in-Int.field-0 c.args.datum.now))

pub put_value-returns-in-Long-clause-spelled : goal.put_value-returns-in-Long-clause-spelled
put_value-returns-in-Long-clause-spelled t c = always_ok c.put_number-in-Long.result _ (of_schema _ _ _ c.in-Long.is (long_spelled c.in-Long.field-0 c.args.datum.now))

pub put_value-returns-in-Enum-clause-spelled : goal.put_value-returns-in-Enum-clause-spelled
put_value-returns-in-Enum-clause-spelled t c = always_ok c.put_number-in-Enum.result _ (of_schema _ _ _ c.in-Enum.is (enum_spelled c.in-Enum.name c.in-Enum.symbols c.args.datum.now))

pub put_value-returns-in-Float-clause-spelled : goal.put_value-returns-in-Float-clause-spelled
put_value-returns-in-Float-clause-spelled t c = always_ok c.put_raw.result _ (of_schema _ _ _ c.in-Float.is (float_spelled c.args.datum.now))

pub put_value-returns-in-Double-clause-spelled : goal.put_value-returns-in-Double-clause-spelled
put_value-returns-in-Double-clause-spelled t c = always_ok c.put_raw-in-Double.result _ (of_schema _ _ _ c.in-Double.is (double_spelled c.args.datum.now))

pub put_value-returns-in-Fixed-clause-spelled : goal.put_value-returns-in-Fixed-clause-spelled
put_value-returns-in-Fixed-clause-spelled t c = always_ok c.put_raw-in-Fixed.result _ (of_schema _ _ _ c.in-Fixed.is (fixed_spelled c.in-Fixed.name c.in-Fixed.size c.args.datum.now))

pub put_value-returns-in-Raw-clause-spelled : goal.put_value-returns-in-Raw-clause-spelled
put_value-returns-in-Raw-clause-spelled t c = always_ok c.put_sized.result _ (of_schema _ _ _ c.in-Raw.is (bytes_spelled_so c.args.datum.now c.put_sized.ensures.sized))

pub put_value-returns-in-Str-clause-spelled : goal.put_value-returns-in-Str-clause-spelled
put_value-returns-in-Str-clause-spelled t c = always_ok c.put_text.result _ (of_schema _ _ _ c.in-Str.is (string_spelled c.args.datum.now c.put_text.ensures.sized))

pub put_value-returns-in-Some-clause-spelled : goal.put_value-returns-in-Some-clause-spelled
put_value-returns-in-Some-clause-spelled t c =
    on_ok c.put_fields.result _ _ (record_at c.args.schema.now c.in-Rec.name c.in-Rec.fields c.as_slice.result.now c.args.datum.now c.in-Some.values.now c.in-Rec.is (c.as_slice.ensures ∙ c.get.ensures) c.in-Some.ensures) c.put_fields.ensures.spelled

pub put_value-returns-in-Some-array_of-clause-spelled : goal.put_value-returns-in-Some-array_of-clause-spelled
put_value-returns-in-Some-array_of-clause-spelled t c =
    on_ok c.put_array.result _ _ (array_at c.args.schema.now c.in-Array.items c.get-in-Some-array_of.result.now c.in-Array.element_id c.in-Array.keyed c.args.datum.now c.in-Some-array_of.values.now c.in-Array.is c.get-in-Some-array_of.ensures c.in-Some-array_of.ensures) c.put_array.ensures.spelled

pub put_value-returns-in-Some-pairs_of-clause-spelled : goal.put_value-returns-in-Some-pairs_of-clause-spelled
put_value-returns-in-Some-pairs_of-clause-spelled t c =
    on_ok c.put_map.result _ _ (map_at c.args.schema.now c.in-Map.values c.get-in-Some-pairs_of.result.now c.in-Map.key_id c.in-Map.value_id c.args.datum.now c.in-Some-pairs_of.pairs.now c.in-Map.is c.get-in-Some-pairs_of.ensures c.in-Some-pairs_of.ensures) c.put_map.ensures.spelled

pub put_value-returns-in-Some-branch_of-clause-spelled : goal.put_value-returns-in-Some-branch_of-clause-spelled
put_value-returns-in-Some-branch_of-clause-spelled t c =
    on_ok c.put_branch.result _ _ (union_at c.args.schema.now c.in-Union.branches c.as_slice-in-Some-branch_of.result.now c.args.datum.now
    c.in-Some-branch_of.place c.in-Some-branch_of.inside.now c.in-Union.is c.as_slice-in-Some-branch_of.ensures c.in-Some-branch_of.ensures)
    c.put_branch.ensures.spelled
