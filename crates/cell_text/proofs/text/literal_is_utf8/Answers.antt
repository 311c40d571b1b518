use Rattle.cell_text.proofs.TextLemmas.{literal_is_text}
use Rattle.cell_text.proofs.text.literal_is_utf8.Goals as goal

pub returns : goal.returns
returns c = literal_is_text c.args.text.now c.utf8.text
