use Rattle.std.proofs.Common.{◌<◌, get_or, length, length-append, refl, sym, ap, ◌∙◌, ◌∷◌, ◌++◌, [], arith}
use Rattle.std.proofs.lemmas.List.{length-set}
use Rattle.std.specs.declared.option.Option.{Option}
use Rattle.std.specs.declared.option.Option.TheVariants.{None}
use Rattle.datum_reading.specs.Reading.{datum_at}
use Rattle.avro_cells.specs.declared.form.Form.{Form}
use Rattle.row_types.specs.CellRef.{lent_cell}
use Rattle.fields.specs.declared.leaf.Leaf.{Leaf}
use Rattle.fields.specs.Record.{fields_as, read_as}
use Rattle.fields.proofs.LeafLemmas.{leaf_there}
use Rattle.fields.proofs.TakingLemmas.{leaf_known, leaves_on, leaves_end, was_read, none_read}
use Rattle.fields.proofs.TakingLemmas.{form_at, cells_on, cells_end, as_wide}
use Rattle.fields.proofs.taking.take_known_fields.Goals as goal

pub loop-place-init : goal.loop-place-init
loop-place-init c = record {
  start = omega arith;
  within = c.requires.start;
  width = refl;
  before = [];
  count = refl;
  cells = sym (none_read c.args.leaves.now);
  so_far = refl;
}

pub take_known_field-requires-clause-form : goal.take_known_field-requires-clause-form
take_known_field-requires-clause-form c =
    let leaf : Leaf = get_or c.args.leaves.now c.loop-place.place c.index-leaves-place.result in
    let within : c.loop-place.place < length c.args.leaves.now = omega (arith, c.loop-place-test.true) in
    form_at c.args.leaves.now c.args.forms.now c.loop-place.place leaf c.requires.forms within (leaf_there c.args.leaves.now c.loop-place.place c.index-leaves-place.result leaf c.loop-place-test.true)

pub take_known_field-requires-clause-known : goal.take_known_field-requires-clause-known
take_known_field-requires-clause-known c =
    let leaf : Leaf = get_or c.args.leaves.now c.loop-place.place c.index-leaves-place.result in
    let within : c.loop-place.place < length c.args.leaves.now = omega (arith, c.loop-place-test.true) in
    let there = leaf_there c.args.leaves.now c.loop-place.place c.index-leaves-place.result leaf c.loop-place-test.true in
    leaf_known c.args.leaves.now c.loop-place.place leaf c.loop-place.invariant.before c.args.input.now c.loop-place.at _ within there c.loop-place.invariant.so_far c.requires.known

pub loop-place-preserved : goal.loop-place-preserved
loop-place-preserved c =
    let leaf : Leaf = get_or c.args.leaves.now c.loop-place.place c.index-leaves-place.result in
    let within : c.loop-place.place < length c.args.leaves.now = omega (arith, c.loop-place-test.true) in
    let there = leaf_there c.args.leaves.now c.loop-place.place c.index-leaves-place.result leaf c.loop-place-test.true in
    let width = as_wide c.args.leaves.now c.args.forms.now c.args.all.now c.loop-place.all c.requires.forms c.requires.width c.loop-place.invariant.width in
    let form_is = form_at c.args.leaves.now c.args.forms.now c.loop-place.place leaf c.requires.forms within there in
    let was = was_read (get_or c.args.forms.now c.loop-place.place None) (datum_at leaf.schema c.args.input.now c.loop-place.at) (lent_cell c.take_known_field.result.0) c.take_known_field.result.1 c.take_known_field.ensures.exact in
    record {
      start = omega (arith, c.take_known_field.ensures.within);
      within = omega (arith, c.take_known_field.ensures.within);
      width = length-set _ _ _ ∙ c.loop-place.invariant.width;
      before = c.loop-place.invariant.before ++ was.value ∷ [];
      count = omega (arith, c.loop-place.invariant.count, length-append c.loop-place.invariant.before (was.value ∷ []));
      cells = cells_on c.args.leaves.now c.loop-place.all c.loop-place.place c.loop-place.invariant.before was.value leaf
          c.take_known_field.result.0 (omega (arith, width, within)) c.loop-place.invariant.count within there (was.cell_is ∙ ap (λ (f : Option Form). read_as f was.value) form_is) c.loop-place.invariant.cells;
      so_far = leaves_on c.args.leaves.now c.loop-place.place leaf c.loop-place.invariant.before c.args.input.now c.loop-place.at was.value c.take_known_field.result.1 _ within there was.is c.loop-place.invariant.so_far;
    }

pub returns-clause-exact : goal.returns-clause-exact
returns-clause-exact c =
    let width = as_wide c.args.leaves.now c.args.forms.now c.args.all.now c.loop-place.all c.requires.forms c.requires.width c.loop-place.invariant.width in
    let read = leaves_end c.args.leaves.now c.loop-place.place c.loop-place.invariant.before c.args.input.now c.loop-place.at _ (omega (arith, c.loop-place-test.false)) c.loop-place.invariant.so_far in
    ap (fields_as c.args.leaves.now) read ∙ cells_end c.args.leaves.now c.loop-place.all c.loop-place.place c.loop-place.invariant.before c.loop-place.at (omega (arith, width, c.loop-place-test.false)) c.loop-place.invariant.cells
