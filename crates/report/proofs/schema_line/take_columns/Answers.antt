use Rattle.std.proofs.Common.{arith, length}
use Rattle.std.proofs.lemmas.Result.{err_from_is_err_and}
use Rattle.words.specs.Laws.{refused_so, refused_for_certain}
use Rattle.pieces.specs.Refusal.{is_memory}
use Rattle.pieces.specs.ManyLaws.{many_from_start}
use Rattle.report.specs.Schema.{gap_or_end}
use Rattle.report.proofs.SchemaLemmas.{item, column_refused, column_stopped, column_last, column_more}
use Rattle.report.proofs.schema_line.take_columns.Goals as goal

pub loop-list-init : goal.loop-list-init
loop-list-init c = record {
  within = c.requires;
  so_far = rw c.new-list.ensures.items (many_from_start (item c.args.line.now) (gap_or_end c.args.line.now) (length c.args.line.now) c.args.start);
}

pub returns-in_err-column : goal.returns-in_err-column
returns-in_err-column c =
    let p = err_from_is_err_and c.from_residual.result c.from_residual.ensures.1 in
    rw (p.1, p.2) (refused_so (is_memory c.in_err-column.field-0.0) (λ h. column_refused c.args.line.now c.loop-list.list.items c.loop-list.at _ c.in_err-column.field-0.0 c.loop-list.invariant.so_far c.loop-list.invariant.within h) c.in_err-column.ensures.exact)

pub returns-in_err-next : goal.returns-in_err-next
returns-in_err-next c =
    let p = err_from_is_err_and c.from_residual-in_err-next.result c.from_residual-in_err-next.ensures.1 in
    rw (p.1, p.2)
    (refused_for_certain (is_memory c.in_err-next.field-0.0)
    (column_stopped c.args.line.now c.loop-list.list.items c.loop-list.at _ c.in_ok-column.column c.in_ok-column.after c.in_err-next.field-0.0
    c.loop-list.invariant.so_far c.loop-list.invariant.within c.in_ok-column.ensures.exact c.in_err-next.ensures.exact))

pub loop-list-preserved : goal.loop-list-preserved
loop-list-preserved c =
    let next = rw c.in-Some.is at c.in_ok-next.ensures.exact in
    let within = rw c.in-Some.is at c.in_ok-next.ensures.within in
    record {
      within = within.1;
      so_far = column_more c.args.line.now c.loop-list.list.items c.push.new.self.items c.loop-list.at _ c.in_ok-column.column c.in_ok-column.after
          c.in-Some.next c.loop-list.invariant.so_far c.loop-list.invariant.within c.in_ok-column.ensures.exact next
          (omega (arith, c.in_ok-column.ensures.within, within)) c.in_ok-push.ensures.items;
    }

pub returns-in-None : goal.returns-in-None
returns-in-None c =
    let next = rw c.in-None.is at c.in_ok-next.ensures.exact in
    column_last c.args.line.now c.loop-list.list.items c.push.new.self.items c.loop-list.at _ c.in_ok-column.column c.in_ok-column.after c.loop-list.invariant.so_far c.loop-list.invariant.within c.in_ok-column.ensures.exact next c.in_ok-push.ensures.items
