use Rattle.metadata_reading.proofs.TextSteps.{found_so, only_so, table_so, cause_so}
use Rattle.metadata_reading.proofs.metadata.read_meta.Goals as goal

pub returns-clause-found : goal.returns-clause-found
returns-clause-found c = found_so c.args.bytes.now c.meta_of_text.result c.meta_of_text.ensures.exact

pub returns-clause-only : goal.returns-clause-only
returns-clause-only c = only_so c.args.bytes.now c.meta_of_text.result c.meta_of_text.ensures.exact

pub returns-clause-table : goal.returns-clause-table
returns-clause-table c = table_so c.args.bytes.now c.meta_of_text.result c.meta_of_text.ensures.exact

pub returns-clause-cause : goal.returns-clause-cause
returns-clause-cause c = cause_so c.args.bytes.now c.meta_of_text.result c.meta_of_text.ensures.exact
