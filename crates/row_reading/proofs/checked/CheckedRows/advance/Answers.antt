use Rattle.std.proofs.Common.{sym, ap, ◌∙◌, rules, SFits}
use Rattle.std.specs.Prelude.{ℤ, Option}
use Rattle.std.specs.Int.{w64}
use Rattle.std.proofs.lemmas.Int.{to_z-of_z}
use Rattle.fields.specs.declared.taking.Cells.{Cells}
use Rattle.stored_rows.specs.Row.{row_id_of, row_last_of}
use Rattle.row_reading.specs.Checked.{Shown, rows_left, row_in}
use Rattle.row_reading.proofs.ShownLemmas.{none_seen, row_shown}
use Rattle.row_reading.proofs.checked.CheckedRows.advance.Goals as goal

pub returns-then-not-advance_known-clause-end : goal.returns-then-not-advance_known-clause-end
returns-then-not-advance_known-clause-end c =
    let seen = c.self.inside in
    let after = c.advance_known.new.self in
    let ended = c.if-not-advance_known.ensures in
    none_seen seen.rows.reader.layout after.reader.layout seen.rows.rest after.rest seen.rows.slot after.slot seen.first seen.sequence seen.position seen.id
    seen.last c.args.self.now c.self.view_is ended.end.0 ended.end.1 ended.slot

pub returns-clause-shown : goal.returns-clause-shown
returns-clause-shown c =
    let seen = c.self.inside in
    let after = c.advance_known.new.self in
    let row = row_in after.slot in
    let fits : SFits w64 c.row_last-self-inside.result = search rules in
    let wide : SFits w64 seen.sequence = search rules in
    let own_id = c.own_id.ensures ∙ ap (λ (s : Cells). (row_in s).id) c.slot.ensures in
    let own_last = c.own_last.ensures ∙ ap (λ (s : Cells). (row_in s).last) c.slot-2.ensures in
    let id = c.row_id-self-inside.ensures ∙ ap (λ (o : Option ℤ). row_id_of seen.first o seen.position) own_id in
    let told = simp to_z-of_z at c.row_last-self-inside.ensures in
    let last = told ∙ ap (λ (o : Option ℤ). row_last_of o seen.sequence) own_last in
    let shown = row_shown seen.first seen.sequence seen.position (rows_left seen.rows.reader.layout seen.rows.rest).objects row
    (rows_left after.reader.layout after.rest).objects c.row_id-self-inside.result c.row_last-self-inside.result
    c.if-not-advance_known.ensures.shown id last in
    simp to_z-of_z (sym (ap (λ (s : Shown). s.left) c.self.view_is) ∙ shown)
