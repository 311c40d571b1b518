use Rattle.std.proofs.Common.{sym, rules, SFits}
use Rattle.std.specs.Int.{w64}
use Rattle.std.proofs.lemmas.Int.{to_z-of_z}
use Rattle.std.proofs.lemmas.Result.{err_from_is_err_and}
use Rattle.words.specs.Laws.{refused_for_certain}
use Rattle.stored_rows.specs.Refusal.{is_memory}
use Rattle.row_reading.specs.Checked.{rows_left}
use Rattle.row_reading.proofs.CheckingLemmas.{all_refused_so, all_passed, rows_few}
use Rattle.row_reading.proofs.checked.show_checked.Goals as goal

pub returns-in_err-check_all_rows : goal.returns-in_err-check_all_rows
returns-in_err-check_all_rows c =
    let p = err_from_is_err_and c.from_residual.result c.from_residual.ensures.1 in
    let e = c.in_err-check_all_rows.field-0.0 in
    let refused = all_refused_so _ c.args.first c.args.sequence c.args.told e (sym c.in_err-check_all_rows.ensures.exact) in
    record { exact = rw (p.1, p.2) (refused_for_certain (is_memory e) refused); few = rw p.1 tt }

pub returns : goal.returns
returns c =
    let fits : SFits w64 c.args.sequence = search rules in
    let after = c.check_all_rows.new.rows in
    let left = rows_left after.reader.layout after.rest in
    let passed = all_passed _ left c.args.first c.args.sequence c.args.told (sym c.in_ok-check_all_rows.ensures.exact) c.in_ok-check_all_rows.ensures.left in
    record { exact = simp to_z-of_z passed; few = rows_few c.args.first _ left.objects c.in_ok-check_all_rows.ensures.right.few }
