use Rattle.row_writing.proofs.WritingLemmas.{file_right}
use Rattle.row_writing.proofs.writing.file.Goals as goal

pub returns-clause-text : goal.returns-clause-text
returns-clause-text c = rw c.in_ok-container.ensures.exact at c.write.ensures.text

pub returns-clause-stores : goal.returns-clause-stores
returns-clause-stores c =
    file_right c.reading_agrees.ensures.found c.write.result c.args.columns.now c.args.sync c.args.lineage c.args.rows.now
    c.in_ok-container.container c.requires.columns c.requires.fits c.in_ok-container.ensures.exact c.in_ok-container.ensures.printed
    c.in_ok-container.ensures.encoded c.write.ensures.found
