use Rattle.row_writing.proofs.WritingLemmas.{container_made}
use Rattle.row_writing.proofs.writing.container_of.Goals as goal

pub returns-clause-exact : goal.returns-clause-exact
returns-clause-exact c = container_made c.args.columns.now c.args.sync c.args.lineage c.args.rows.now c.in_ok-meta.meta c.in_ok-blocks.field-0 c.in_ok-meta.ensures.exact c.in_ok-blocks.ensures.exact
