use Rattle.serde_json.specs.View.{members_view}
use Rattle.schema_columns.proofs.SchemaSteps.{found_so, only_so, cause_so}
use Rattle.schema_columns.proofs.reading.read_columns.Goals as goal

pub returns-clause-found : goal.returns-clause-found
returns-clause-found c =
    found_so (members_view c.args.schema.now.entries) c.columns_in.result c.columns_in.ensures.exact

pub returns-clause-only : goal.returns-clause-only
returns-clause-only c =
    only_so (members_view c.args.schema.now.entries) c.columns_in.result c.columns_in.ensures.exact

pub returns-clause-cause : goal.returns-clause-cause
returns-clause-cause c =
    cause_so (members_view c.args.schema.now.entries) c.columns_in.result c.columns_in.ensures.exact
