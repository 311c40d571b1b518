use Rattle.std.proofs.Common.{option_map, sym, ap, ◌∙◌}
use Rattle.serde_json.specs.View.{view}
use Rattle.avro_schema.proofs.TextLaws.{no_value, schema_read}
use Rattle.avro_schema.proofs.reading.schema_of_text.Goals as goal

pub returns-in_default : goal.returns-in_default
returns-in_default c =
    let none = ap (option_map view) (sym c.in_default.is) ∙ c.in_ok-value.ensures in
    record { exact = no_value c.args.text.now none }

pub returns : goal.returns
returns c =
    let some = ap (option_map view) (sym c.in-Some.is) ∙ c.in_ok-value.ensures in
    let value = view c.in-Some.value in
    record { exact = schema_read c.args.text.now value c.new-seen.result c.schema_of.new.seen c.schema_of.result some c.new-seen.ensures c.schema_of.ensures.exact }
