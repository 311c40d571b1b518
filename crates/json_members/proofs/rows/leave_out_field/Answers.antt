use Rattle.std.proofs.Common.{sym, ◌∙◌}
use Rattle.serde_json.specs.View.{members_view}
use Rattle.json_members.specs.Rows.{has_field, row_of}
use Rattle.json_members.proofs.FieldSteps.{no_field}
use Rattle.json_members.proofs.rows.leave_out_field.Goals as goal

pub returns-else-has_field : goal.returns-else-has_field
returns-else-has_field c = no_field (has_field c.args.version (row_of c.args.row.now)) c.args.row.now.name.now (members_view c.args.members.now.entries) (sym c.has_field.ensures ∙ c.if-has_field.false)
