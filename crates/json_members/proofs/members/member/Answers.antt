use Rattle.json_members.proofs.MapLaws.{found_member}
use Rattle.json_members.proofs.members.member.Goals as goal

pub returns : goal.returns
returns c = found_member c.args.members.now c.args.name.now c.get.result c.get.ensures.value
