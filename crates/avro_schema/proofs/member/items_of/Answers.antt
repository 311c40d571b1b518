use Rattle.std.proofs.Common.{map}
use Rattle.serde_json.specs.View.{view}
use Rattle.avro_schema.proofs.MemberLaws.{list_found}
use Rattle.avro_schema.proofs.member.items_of.Goals as goal

pub returns-in-Some : goal.returns-in-Some
returns-in-Some c = rw c.as_slice.ensures.value (list_found (view c.args.value.now) (map view c.in-Some.values.now.items) c.in-Some.ensures)
