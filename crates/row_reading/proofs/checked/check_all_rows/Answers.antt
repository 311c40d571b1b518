use Rattle.std.proofs.Common.{◌≡◌, sym, subst, rules}
use Rattle.std.proofs.lemmas.Result.{err_from_is_err_and}
use Rattle.row_reading.specs.Checking.{Rows, AreRight}
use Rattle.row_reading.specs.Checked.{row_by, rows_left}
use Rattle.row_reading.proofs.CheckingLemmas.{rows_wrong, numbers_answered, rows_right}
use Rattle.row_reading.proofs.checked.check_all_rows.Goals as goal

pub returns-in_err-check-clause-exact : goal.returns-in_err-check-clause-exact
returns-in_err-check-clause-exact c =
    let p = err_from_is_err_and c.from_residual.result c.from_residual.ensures.1 in
    let rows = c.args.rows.now in
    let layout = rows.reader.layout in
    let all = c.requires.unchecked in
    let wrong = rows_wrong (row_by layout) rows.rest.walk.whole.blocks (rows_left layout rows.rest) c.args.told_rows c.args.first c.args.told
    all.whole all.count c.in_err-check.field-0.0 c.in_err-check.ensures.exact in
    rw (p.1, p.2) (sym wrong)

pub returns-in_err-check_numbers-clause-exact : goal.returns-in_err-check_numbers-clause-exact
returns-in_err-check_numbers-clause-exact c =
    let p = err_from_is_err_and c.from_residual-in_err-check_numbers.result c.from_residual-in_err-check_numbers.ensures.1 in
    let rows = c.args.rows.now in
    let layout = rows.reader.layout in
    let all = c.requires.unchecked in
    let wrong = numbers_answered (row_by layout) rows.rest.walk.whole.blocks (rows_left layout rows.rest) c.args.told_rows c.args.first c.args.told
    all.whole all.count _ c.in_ok-check.ensures.exact (sym c.in_err-check_numbers.ensures) in
    rw (p.1, p.2) (sym wrong)

pub returns-clause-exact : goal.returns-clause-exact
returns-clause-exact c =
    let rows = c.args.rows.now in
    let layout = rows.reader.layout in
    let all = c.requires.unchecked in
    sym (numbers_answered (row_by layout) rows.rest.walk.whole.blocks (rows_left layout rows.rest) c.args.told_rows c.args.first c.args.told
    all.whole all.count _ c.in_ok-check.ensures.exact (sym c.in_ok-check_numbers.ensures))

pub returns-clause-right : goal.returns-clause-right
returns-clause-right c =
    let rows = c.args.rows.now in
    let layout = rows.reader.layout in
    let after = c.restart.new.self in
    let same : rows_left after.reader.layout after.rest ≡ rows_left layout rows.rest = search rules in
    let all = c.requires.unchecked in
    let right = rows_right (row_by layout) rows.rest.walk.whole.blocks (rows_left layout rows.rest) c.args.told_rows c.args.first c.args.told
    all.whole all.count c.in_ok-check.ensures.exact all.few (sym c.in_ok-check_numbers.ensures) in
    subst (λ (left : Rows). AreRight left c.args.first) (sym same) right
