use Rattle.row_writing.proofs.WritingLemmas.{printed_back}
use Rattle.row_writing.proofs.writing.header.Goals as goal

pub returns-clause-exact : goal.returns-clause-exact
returns-clause-exact c = rw (c.in_ok-text.ensures.text, c.in_ok-schema.ensures) at c.in_ok-pairs_of.ensures

pub returns-clause-printed : goal.returns-clause-printed
returns-clause-printed c =
    printed_back c.args.columns.now c.args.lineage c.in_ok-schema.schema c.requires.columns c.in_ok-schema.ensures (rw c.in_ok-text.ensures.text at c.in_ok-text.ensures.reads_back)
