use Rattle.std.proofs.Common.{true≢false, sym}
use Rattle.serde_json.specs.View.{view}
use Rattle.json_members.proofs.ParseSteps.{value_found, no_value_found}
use Rattle.json_members.proofs.parsing.parse.Goals as goal

pub returns-in-Ok : goal.returns-in-Ok
returns-in-Ok c = value_found c.args.text.now (view c.in-Ok.value) c.in-Ok.ensures.ok.0 c.in-Ok.ensures.ok.1

pub returns-else-is_memory : goal.returns-else-is_memory
returns-else-is_memory c = no_value_found c.args.text.now (λ utf8. c.in-Err.ensures.err (λ memory. true≢false (sym (c.if-is_memory.ensures.1 memory))) utf8)
