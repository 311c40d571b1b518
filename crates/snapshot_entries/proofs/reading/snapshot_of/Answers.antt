use Rattle.std.proofs.Common.{ap, sym, ◌∙◌, w64, Ok, FitsSigned, rules}
use Rattle.std.proofs.lemmas.Int.{to_z-of_z}
use Rattle.std.proofs.lemmas.Result.{err_from_is_err_and}
use Rattle.words.specs.Laws.{refused_so}
use Rattle.serde_json.specs.View.{members_view}
use Rattle.snapshot_entries.specs.Refusal.{is_memory}
use Rattle.snapshot_entries.proofs.ReadingSteps.{path_read, path_refused}
use Rattle.snapshot_entries.proofs.reading.snapshot_of.Goals as goal

pub returns-in_err-path : goal.returns-in_err-path
returns-in_err-path c =
    let p = err_from_is_err_and c.from_residual.result c.from_residual.ensures.1 in
    let e = c.in_err-path.field-0.0 in
    let fits : FitsSigned w64 c.args.last = search rules in
    let given = simp to_z-of_z at c.in_err-path.ensures.exact in
    let refused = path_refused c.args.version c.args.last (members_view c.args.members.entries) e in
    record { exact = rw (p.1, p.2) (refused_so (is_memory e) refused given) }

pub returns : goal.returns
returns c =
    let fits : FitsSigned w64 c.args.last = search rules in
    let given = simp to_z-of_z at c.in_ok-path.ensures.exact in
    let read = path_read c.args.version c.args.last (members_view c.args.members.entries) c.in_ok-path.path given in
    record { exact = read ∙ ap Ok (sym c.snapshot_with.ensures) }
