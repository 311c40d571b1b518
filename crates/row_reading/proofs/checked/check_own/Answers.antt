use Rattle.std.proofs.Common.{rules, SFits}
use Rattle.std.specs.Int.{w64}
use Rattle.std.proofs.lemmas.Int.{to_z-of_z}
use Rattle.std.proofs.lemmas.Result.{err_from_is_err_and}
use Rattle.words.specs.Laws.{refused_so}
use Rattle.stored_rows.specs.Refusal.{is_memory}
use Rattle.row_reading.specs.Checked.{Shown}
use Rattle.row_reading.proofs.OwnRowsLemmas.{own_refused, own_given}
use Rattle.row_reading.proofs.checked.check_own.Goals as goal

pub returns-in_err-rows : goal.returns-in_err-rows
returns-in_err-rows c =
    let p = err_from_is_err_and c.from_residual.result c.from_residual.ensures.1 in
    let e = c.in_err-rows.field-0.0 in
    let refused = own_refused c.args.bytes.now c.args.first c.args.sequence e in
    record { exact = rw (p.1, p.2) (refused_so (is_memory e) refused c.in_err-rows.ensures.exact); few = rw p.1 tt }

pub returns : goal.returns
returns c =
    let fits : SFits w64 c.args.sequence = search rules in
    record {
      exact = own_given (λ (rows : Shown). rows.left) c.args.bytes.now c.args.first c.args.sequence _ c.show_checked.result
          c.in_ok-rows.ensures.exact (simp to_z-of_z at c.show_checked.ensures.exact);
      few = c.show_checked.ensures.few;
    }
