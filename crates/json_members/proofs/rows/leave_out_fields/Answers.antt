use Rattle.serde_json.specs.View.{members_view}
use Rattle.json_members.proofs.FieldSteps.{fields_on, fields_end}
use Rattle.json_members.proofs.rows.leave_out_fields.Goals as goal

pub loop-row-preserved : goal.loop-row-preserved
loop-row-preserved c =
    let l = c.loop-row in
    fields_on c.args.rows.now c.args.version (members_view l.members.entries) (members_view c.leave_out_field.new.members.entries) l.row-index _ _ c.loop-row-test.true c.leave_out_field.ensures l.invariant

pub returns : goal.returns
returns c = let l = c.loop-row in fields_end c.args.rows.now c.args.version (members_view l.members.entries) l.row-index _ c.loop-row-test.false l.invariant
