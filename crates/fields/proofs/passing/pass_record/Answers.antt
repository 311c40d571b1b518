use Rattle.std.proofs.Common.{List, sym, ap, ◌∙◌, length, Err}
use Rattle.fields.specs.declared.refusal.FieldRefusal.{FieldRefusal}
use Rattle.std.proofs.lemmas.List.Elements.{length_all_zip}
use Rattle.std.proofs.lemmas.Result.{err_from_is_err_and}
use Rattle.fields.specs.Record.{IsReadAs}
use Rattle.fields.specs.Nulls.{refused_at}
use Rattle.fields.specs.declared.wanted.Wanted.{Wanted}
use Rattle.fields.proofs.PassingLemmas.{pass_right, pass_null, pass_fails}
use Rattle.fields.proofs.passing.pass_record.Goals as goal

pub returns-in_err-refused_at-clause-exact : goal.returns-in_err-refused_at-clause-exact
returns-in_err-refused_at-clause-exact c =
    let p = err_from_is_err_and c.from_residual.result c.from_residual.ensures.1 in
    let right = c.requires.layout in
    let layout = c.args.layout.now in
    let known = ap (λ (ws : List Wanted). refused_at ws c.in-Ok.passed.0) (sym c.deref.ensures.value) in
    let many = length_all_zip IsReadAs layout.leaves.items _ right.leaves_are in
    rw (p.1, p.2) (pass_null layout.schema layout.wanted.items layout.sources.items layout.needed.items (length layout.leaves.items)
    c.args.input.now c.args.place c.in-Ok.passed.0 c.in-Ok.passed.1 c.in_err-refused_at.field-0.0 right.sources
    right.needed many right.there c.in-Ok.ensures.exact (known ∙ sym c.in_err-refused_at.ensures))

pub returns-clause-exact : goal.returns-clause-exact
returns-clause-exact c =
    let right = c.requires.layout in
    let layout = c.args.layout.now in
    let known = ap (λ (ws : List Wanted). refused_at ws c.in-Ok.passed.0) (sym c.deref.ensures.value) in
    let many = length_all_zip IsReadAs layout.leaves.items _ right.leaves_are in
    pass_right layout.schema layout.wanted.items layout.sources.items layout.needed.items (length layout.leaves.items)
    c.args.input.now c.args.place c.in-Ok.passed.0 c.in-Ok.passed.1 right.sources
    right.needed many right.there c.in-Ok.ensures.exact (known ∙ sym c.in_ok-refused_at.ensures)

pub returns-in-Err-clause-exact : goal.returns-in-Err-clause-exact
returns-in-Err-clause-exact c =
    let layout = c.args.layout.now in
    let fails = pass_fails layout.schema layout.wanted.items layout.needed.items c.args.input.now c.args.place (length layout.wanted.items) c.in-Err.refusal c.in-Err.ensures.exact in
    fails ∙ ap (λ (e : FieldRefusal). Err e) (sym c.refusal_of.ensures)
