use Rattle.std.proofs.Common.{◌≡◌, drop}
use Rattle.serde_json.specs.View.{members_view}
use Rattle.json_members.specs.Rows.{checked, rows_of, of_version}
use Rattle.json_members.proofs.rows.check_all.Given as goal

abbrev pub invariant-loop-row : goal.invariant-loop-row
invariant-loop-row l = checked (of_version l.version (rows_of (drop l.row-index l.rows))) (members_view l.members.entries) ≡ checked (of_version l.version (rows_of l.rows)) (members_view l.members.entries)
