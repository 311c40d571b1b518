use Rattle.avro_schema.proofs.TextMeaning.{schema_found, schema_only}
use Rattle.avro_schema.proofs.law.reading_agrees.Goals as goal

pub returns-clause-found : goal.returns-clause-found
returns-clause-found c = schema_found

pub returns-clause-only : goal.returns-clause-only
returns-clause-only c = schema_only
