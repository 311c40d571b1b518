use Rattle.std.proofs.Common.{pos, option_map, rules, SFits}
use Rattle.std.specs.Int.{w64}
use Rattle.std.proofs.lemmas.Int.{to_z-of_z}
use Rattle.stored_rows.specs.Rows.{rows_from}
use Rattle.lineage_cli.proofs.RowsLemmas.{has_rows, is_refused}
use Rattle.lineage_cli.proofs.command.rows.rows_in.Goals as goal

pub returns-in-Ok-clause-rows : goal.returns-in-Ok-clause-rows
returns-in-Ok-clause-rows c =
    let fits : SFits w64 (pos c.args.sequence) = search rules in
    let read = rw (c.signed_id.ensures, c.signed.ensures) at c.in-Ok.ensures.exact in
    let stored = rw (c.signed_id.ensures, c.signed.ensures) at c.in-Ok.ensures.found in
    let exact = simp to_z-of_z at read in
    let found = simp to_z-of_z at stored in
    has_rows c.args.first c.args.sequence c.args.bytes.now c.in-Ok.rows.left exact found

pub returns-in-Err-clause-refused : goal.returns-in-Err-clause-refused
returns-in-Err-clause-refused c =
    let fits : SFits w64 (pos c.args.sequence) = search rules in
    let refused = rw (c.signed_id.ensures, c.signed.ensures) at c.in-Err.ensures.exact in
    let stored = rw (c.signed_id.ensures, c.signed.ensures) at c.in-Err.ensures.only in
    let exact = simp to_z-of_z at refused in
    let only = simp to_z-of_z at stored in
    is_refused (rows_from (option_map pos c.args.first) (pos c.args.sequence) 0) c.args.first c.args.sequence c.args.bytes.now c.in-Err.refusal c.ending_of.result
    exact only c.ending_of.ensures.memory c.ending_of.ensures.table
