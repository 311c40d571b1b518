use Rattle.std.proofs.Common.{◌<◌, get_or, length, length-append, refl, sym, ap, ◌∙◌, ◌∷◌, ◌++◌, []}
use Rattle.std.proofs.Common.{ℕ, Ok, arith}
use Rattle.std.proofs.lemmas.Result.{err_from_is_err_and}
use Rattle.std.specs.declared.option.Option.{Option}
use Rattle.std.specs.declared.option.Option.TheVariants.{None}
use Rattle.row_types.specs.CellRef.{is_null}
use Rattle.datum_reading.specs.Reading.{datum_at}
use Rattle.avro_cells.specs.declared.form.Form.{Form}
use Rattle.fields.specs.declared.leaf.Leaf.{Leaf}
use Rattle.fields.specs.Nulls.{with_nulls}
use Rattle.fields.specs.Record.{fields_as, first_as, read_as}
use Rattle.fields.proofs.LeafLemmas.{leaf_there}
use Rattle.fields.proofs.TakingLemmas.{leaf_fails, leaves_on, leaves_end, none_read, form_at}
use Rattle.fields.proofs.PassingLemmas.{no_nulls, null_on, was_passed, not_passed}
use Rattle.fields.proofs.passing.pass_fields.Goals as goal

pub loop-place-init : goal.loop-place-init
loop-place-init c = record {
  start = omega arith;
  within = c.requires.start;
  before = [];
  count = refl;
  nulls = sym (ap (with_nulls c.args.none c.args.needed.now) (none_read c.args.leaves.now) ∙ no_nulls c.args.none c.args.needed.now);
  so_far = refl;
}

pub pass_field-requires-clause-form : goal.pass_field-requires-clause-form
pass_field-requires-clause-form c =
    let leaf : Leaf = get_or c.args.leaves.now c.loop-place.place c.index-leaves-place.result in
    let within : c.loop-place.place < length c.args.leaves.now = omega (arith, c.loop-place-test.true) in
    form_at c.args.leaves.now c.args.forms.now c.loop-place.place leaf c.requires.forms within (leaf_there c.args.leaves.now c.loop-place.place c.index-leaves-place.result leaf c.loop-place-test.true)

pub returns-in_err-null-clause-exact : goal.returns-in_err-null-clause-exact
returns-in_err-null-clause-exact c =
    let p = err_from_is_err_and c.from_residual.result c.from_residual.ensures.1 in
    let leaf : Leaf = get_or c.args.leaves.now c.loop-place.place c.index-leaves-place.result in
    let within : c.loop-place.place < length c.args.leaves.now = omega (arith, c.loop-place-test.true) in
    let there = leaf_there c.args.leaves.now c.loop-place.place c.index-leaves-place.result leaf c.loop-place-test.true in
    let refused = not_passed (get_or c.args.forms.now c.loop-place.place None) (datum_at leaf.schema c.args.input.now c.loop-place.at) c.in_err-null.field-0.0 c.in_err-null.ensures.exact in
    let fails = leaf_fails c.args.leaves.now c.loop-place.place leaf c.loop-place.invariant.before c.args.input.now c.loop-place.at c.in_err-null.field-0.0 _ within there refused c.loop-place.invariant.so_far in
    rw (p.1, p.2) (ap (λ r. first_as c.args.none c.args.needed.now (fields_as c.args.leaves.now r)) fails)

pub loop-place-preserved : goal.loop-place-preserved
loop-place-preserved c =
    let leaf : Leaf = get_or c.args.leaves.now c.loop-place.place c.index-leaves-place.result in
    let within : c.loop-place.place < length c.args.leaves.now = omega (arith, c.loop-place-test.true) in
    let there = leaf_there c.args.leaves.now c.loop-place.place c.index-leaves-place.result leaf c.loop-place-test.true in
    let form_is = form_at c.args.leaves.now c.args.forms.now c.loop-place.place leaf c.requires.forms within there in
    let was = was_passed (get_or c.args.forms.now c.loop-place.place None) (datum_at leaf.schema c.args.input.now c.loop-place.at) c.in_ok-null.null c.in_ok-null.after c.in_ok-null.ensures.exact in
    let null_is = was.null_is ∙ ap (λ (f : Option Form). is_null (read_as f was.value)) form_is in
    record {
      start = omega (arith, c.in_ok-null.ensures.within);
      within = omega (arith, c.in_ok-null.ensures.within);
      before = c.loop-place.invariant.before ++ was.value ∷ [];
      count = omega (arith, c.loop-place.invariant.count, length-append c.loop-place.invariant.before (was.value ∷ []));
      nulls = c.with_null-first.ensures ∙ null_on c.args.leaves.now c.args.needed.now c.args.none c.loop-place.place c.loop-place.invariant.before was.value leaf c.in_ok-null.null c.loop-place.first 0 within (c.requires.needed) c.loop-place.invariant.count there null_is c.loop-place.invariant.nulls;
      so_far = leaves_on c.args.leaves.now c.loop-place.place leaf c.loop-place.invariant.before c.args.input.now c.loop-place.at was.value c.in_ok-null.after _ within there was.is c.loop-place.invariant.so_far;
    }

pub returns-clause-exact : goal.returns-clause-exact
returns-clause-exact c =
    let read = leaves_end c.args.leaves.now c.loop-place.place c.loop-place.invariant.before c.args.input.now c.loop-place.at _ (omega (arith, c.loop-place-test.false)) c.loop-place.invariant.so_far in
    ap (λ r. first_as c.args.none c.args.needed.now (fields_as c.args.leaves.now r)) read ∙ ap (λ (n : ℕ). Ok (n, c.loop-place.at)) (sym c.loop-place.invariant.nulls)
