use Rattle.std.proofs.Common.{List, sym, ap, ◌∙◌, map}
use Rattle.std.proofs.lemmas.Result.{err_from_is_err_and}
use Rattle.row_types.specs.CellRef.{lent_cell}
use Rattle.fields.specs.declared.wanted.Wanted.{Wanted}
use Rattle.fields.specs.Wanted.{check_nulls}
use Rattle.fields.proofs.TakingLemmas.{record_right, record_null}
use Rattle.fields.proofs.taking.take_record.Goals as goal

pub returns-in_err-check_nulls-clause-exact : goal.returns-in_err-check_nulls-clause-exact
returns-in_err-check_nulls-clause-exact c =
    let p = err_from_is_err_and c.from_residual.result c.from_residual.ensures.1 in
    let known = ap (λ (ws : List Wanted). check_nulls ws (map lent_cell c.arrange.new.wanted.items)) (sym c.deref.ensures.value) in
    let layout = c.args.layout.now in
    let all = map lent_cell c.take_all.new.all.items in
    let cells = map lent_cell c.arrange.new.wanted.items in
    rw (p.1, p.2) (record_null layout.schema layout.wanted.items c.args.input.now c.args.place layout.sources.items all cells
    c.in-Ok.after c.in_err-check_nulls.field-0.0 c.requires.layout.sources c.in-Ok.ensures.exact c.arrange.ensures.arranged
    (known ∙ sym c.in_err-check_nulls.ensures))

pub returns-clause-exact : goal.returns-clause-exact
returns-clause-exact c =
    let known = ap (λ (ws : List Wanted). check_nulls ws (map lent_cell c.arrange.new.wanted.items)) (sym c.deref.ensures.value) in
    let layout = c.args.layout.now in
    let all = map lent_cell c.take_all.new.all.items in
    let cells = map lent_cell c.arrange.new.wanted.items in
    record_right layout.schema layout.wanted.items c.args.input.now c.args.place layout.sources.items all cells c.in-Ok.after
    c.requires.layout.sources c.in-Ok.ensures.exact c.arrange.ensures.arranged (known ∙ sym c.in_ok-check_nulls.ensures)
