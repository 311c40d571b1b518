use Rattle.std.proofs.Common.{◌≡◌, drop}
use Rattle.serde_json.specs.View.{members_view}
use Rattle.json_members.specs.Members.{without}
use Rattle.json_members.specs.Rows.{rows_of, field_names}
use Rattle.json_members.proofs.rows.leave_out_fields.Given as goal

abbrev pub invariant-loop-row : goal.invariant-loop-row
invariant-loop-row l = without (field_names l.version (rows_of (drop l.row-index l.rows))) (members_view l.members.entries) ≡ without (field_names l.version (rows_of l.rows)) (members_view l.initial.members.entries)
