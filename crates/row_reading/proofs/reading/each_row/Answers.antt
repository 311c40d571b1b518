use Rattle.std.proofs.Common.{◌≡◌, ◌≤◌, length, ap, subst, arith, rules, SFits}
use Rattle.std.specs.Int.{w64}
use Rattle.std.proofs.lemmas.Int.{to_z-of_z}
use Rattle.std.proofs.lemmas.Result.{err_from_is_err_and}
use Rattle.words.specs.Laws.{refused_for_certain}
use Rattle.fields.specs.declared.layout.Layout.{Layout}
use Rattle.objects.specs.Stream.{ended, refused, before}
use Rattle.stored_rows.specs.Refusal.{is_memory}
use Rattle.row_reading.specs.Checking.{Rows, rows_read}
use Rattle.row_reading.specs.Checked.{rows_left, row_in, AreReady}
use Rattle.row_reading.proofs.CheckingLemmas.{fewer_ids}
use Rattle.row_reading.proofs.ShownLemmas.{has_lineage}
use Rattle.row_reading.proofs.RowByRow.{row_on, rows_end, rows_fail, one_more, none_more, count_on}
use Rattle.row_reading.proofs.reading.each_row.Goals as goal

pub overflow_cast-position : goal.overflow_cast-position
overflow_cast-position c = omega (arith, c.len-position.ensures, c.loop-list.invariant.many, c.requires.few)

pub row_of-requires : goal.row_of-requires
row_of-requires c =
    let now = c.advance.new.self in
    let ready : AreReady now.reader.layout now.rest now.slot = search rules in
    let few : c.len-position.result ≤ length (rows_left c.args.rows.now.reader.layout c.args.rows.now.rest).objects
    = omega (arith, c.len-position.ensures, c.loop-list.invariant.many) in
    record {
      lineage = rw c.slot.ensures (has_lineage now.reader.layout now.rest now.slot ready);
      id = fewer_ids c.args.first c.len-position.result _ few c.requires.ids;
    }

pub loop-list-smaller : goal.loop-list-smaller
loop-list-smaller c =
    let old = c.loop-list.rows.rest in
    let now = c.advance.new.self in
    let taken = one_more _ _ _ _ c.if-branch.true c.in_ok-advance.ensures.step in
    let step = subst (λ (l : Layout). rows_left l old ≡ before (row_in now.slot) (rows_left l now.rest)) c.loop-list.invariant.same taken in
    omega (arith, ap (λ (rows : Rows). length rows.objects) step)

pub loop-list-preserved : goal.loop-list-preserved
loop-list-preserved c =
    let fits : SFits w64 c.args.sequence = search rules in
    let layout = c.args.rows.now.reader.layout in
    let old = c.loop-list.rows.rest in
    let now = c.advance.new.self in
    let taken = one_more _ _ _ _ c.if-branch.true c.in_ok-advance.ensures.step in
    let step = subst (λ (l : Layout). rows_left l old ≡ before (row_in now.slot) (rows_left l now.rest)) c.loop-list.invariant.same taken in
    let total = rows_read c.args.first c.args.sequence (rows_left layout c.args.rows.now.rest) in
    let so_far = simp to_z-of_z at c.loop-list.invariant.so_far in
    let is = rw (c.len-position.ensures, c.slot.ensures) at (simp to_z-of_z at c.in_ok-row.ensures) in
    record {
      ready = search rules;
      same = search rules;
      many = rw c.in_ok-push.ensures.ok (count_on c.loop-list.list c.in_ok-row.row (row_in now.slot) (rows_left layout old) (rows_left layout now.rest)
          (length (rows_left layout c.args.rows.now.rest).objects) step c.loop-list.invariant.many);
      so_far = rw c.in_ok-push.ensures.ok (simp to_z-of_z (row_on c.args.first c.args.sequence c.loop-list.list c.in_ok-row.row (row_in now.slot)
          (rows_left layout old) (rows_left layout now.rest) total step is so_far));
    }

pub returns-in_err-advance : goal.returns-in_err-advance
returns-in_err-advance c =
    let fits : SFits w64 c.args.sequence = search rules in
    let p = err_from_is_err_and c.from_residual.result c.from_residual.ensures.1 in
    let e = c.in_err-advance.field-0.0 in
    let layout = c.args.rows.now.reader.layout in
    let old = c.loop-list.rows.rest in
    let step = subst (λ (l : Layout). rows_left l old ≡ refused e) c.loop-list.invariant.same c.in_err-advance.ensures.step.0 in
    let total = rows_read c.args.first c.args.sequence (rows_left layout c.args.rows.now.rest) in
    let fails = rows_fail c.args.first c.args.sequence c.loop-list.list (rows_left layout old) e total step (simp to_z-of_z at c.loop-list.invariant.so_far) in
    record { exact = rw (p.1, p.2) (refused_for_certain (is_memory e) fails) }

pub returns : goal.returns
returns c =
    let fits : SFits w64 c.args.sequence = search rules in
    let layout = c.args.rows.now.reader.layout in
    let old = c.loop-list.rows.rest in
    let none = none_more _ _ _ _ c.if-branch.false c.in_ok-advance.ensures.step in
    let step = subst (λ (l : Layout). rows_left l old ≡ ended) c.loop-list.invariant.same none in
    let total = rows_read c.args.first c.args.sequence (rows_left layout c.args.rows.now.rest) in
    record { exact = rows_end c.args.first c.args.sequence c.loop-list.list (rows_left layout old) total step (simp to_z-of_z at c.loop-list.invariant.so_far) }
