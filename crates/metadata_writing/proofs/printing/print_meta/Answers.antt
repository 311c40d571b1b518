use Rattle.std.proofs.Common.{ap, ◌∙◌}
use Rattle.serde_json.specs.Data.{object}
use Rattle.serde_json.proofs.Views.{view-Object}
use Rattle.metadata_reading.specs.Reading.{meta_of_text}
use Rattle.metadata_reading.specs.TextLaws.{text_only}
use Rattle.metadata_writing.specs.TextLaws.{text_is, text_again}
use Rattle.metadata_writing.proofs.printing.print_meta.Goals as goal

pub returns-clause-text : goal.returns-clause-text
returns-clause-text c = λ h.
    let same = view-Object c.in_ok-members.members ∙ ap object (c.in_ok-members.ensures c.in_ok-uuid.ensures.text) in
    c.from_vec.ensures ∙ text_is c.args.meta.now _ c.in_ok-text.text.items h same c.in_ok-text.ensures.text

pub returns-clause-reads_back : goal.returns-clause-reads_back
returns-clause-reads_back c = λ h.
    let m = c.args.meta.now in
    let same = view-Object c.in_ok-members.members ∙ ap object (c.in_ok-members.ensures c.in_ok-uuid.ensures.text) in
    ap meta_of_text c.from_vec.ensures ∙ text_only c.in_ok-text.text.items m
    (text_again m _ c.in_ok-text.text.items h same c.in_ok-uuid.ensures.parses c.in_ok-text.ensures.utf8 c.in_ok-text.ensures.reads_back)
