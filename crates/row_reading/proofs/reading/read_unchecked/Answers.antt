use Rattle.std.proofs.Common.{sym, rules, SFits}
use Rattle.std.specs.Int.{w64}
use Rattle.std.proofs.lemmas.Int.{to_z-of_z}
use Rattle.std.proofs.lemmas.Result.{err_from_is_err_and}
use Rattle.words.specs.Laws.{refused_for_certain}
use Rattle.stored_rows.specs.Refusal.{is_memory}
use Rattle.row_reading.specs.Checked.{row_by, rows_left}
use Rattle.row_reading.proofs.CheckingLemmas.{all_refused_so, rows_wrong, numbers_answered, number_right, number_read}
use Rattle.row_reading.proofs.reading.read_unchecked.Goals as goal

pub each_row-requires : goal.each_row-requires
each_row-requires c =
    let rows = c.args.rows.now in
    let all = c.requires.unchecked in
    let right = number_right (row_by rows.reader.layout) rows.rest.walk.whole.blocks (rows_left rows.reader.layout rows.rest) c.args.told_rows
    c.args.first c.args.told all.whole all.count all.few (sym c.in-Ok.ensures) in
    record { ready = all.ready; few = right.0; ids = right.1 }

pub returns-in-Ok : goal.returns-in-Ok
returns-in-Ok c =
    let fits : SFits w64 c.args.sequence = search rules in
    let rows = c.args.rows.now in
    let all = c.requires.unchecked in
    let read = number_read (row_by rows.reader.layout) rows.rest.walk.whole.blocks (rows_left rows.reader.layout rows.rest) c.args.told_rows
    c.args.first c.args.told all.whole all.count c.args.sequence (sym c.in-Ok.ensures) in
    record { exact = rw read (simp to_z-of_z at c.each_row.ensures.exact) }

pub returns-in_err-check-in-Err : goal.returns-in_err-check-in-Err
returns-in_err-check-in-Err c =
    let p = err_from_is_err_and c.from_residual.result c.from_residual.ensures.1 in
    let e = c.in_err-check-in-Err.field-0.0 in
    let rows = c.args.rows.now in
    let left = rows_left rows.reader.layout rows.rest in
    let all = c.requires.unchecked in
    let wrong = rows_wrong (row_by rows.reader.layout) rows.rest.walk.whole.blocks left c.args.told_rows c.args.first c.args.told
    all.whole all.count e c.in_err-check-in-Err.ensures.exact in
    record { exact = rw (p.1, p.2) (refused_for_certain (is_memory e) (all_refused_so left c.args.first c.args.sequence c.args.told e wrong)) }

pub returns-in_ok-check-in-Err : goal.returns-in_ok-check-in-Err
returns-in_ok-check-in-Err c =
    let e = c.in-Err.refusal in
    let rows = c.args.rows.now in
    let left = rows_left rows.reader.layout rows.rest in
    let all = c.requires.unchecked in
    let wrong = numbers_answered (row_by rows.reader.layout) rows.rest.walk.whole.blocks left c.args.told_rows c.args.first c.args.told
    all.whole all.count _ c.in_ok-check-in-Err.ensures.exact (sym c.in-Err.ensures) in
    record { exact = refused_for_certain (is_memory e) (all_refused_so left c.args.first c.args.sequence c.args.told e wrong) }
