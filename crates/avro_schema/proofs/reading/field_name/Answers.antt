use Rattle.std.proofs.Common.{sym, ◌∙◌, rules}
use Rattle.avro_schema.proofs.Steps.{field_named}
use Rattle.avro_schema.proofs.reading.field_name.Goals as goal

pub returns-then-has-clause-exact : goal.returns-then-has-clause-exact
returns-then-has-clause-exact c = search rules

pub returns-clause-exact : goal.returns-clause-exact
returns-clause-exact c =
    field_named _ c.args.before.now c.in-Ok.name.now c.in_ok-new.field-0 c.in-Ok.ensures.exact (sym c.has.ensures ∙ c.if-has.false)
    (c.in_ok-new.ensures ∙ c.in_ok-from_str.ensures)
