use Rattle.std.proofs.Common.{List, ℕ, ◌++◌, codes, ap, ◌∙◌, append_assoc}
use Rattle.std.specs.String.{string_bytes}
use Rattle.words.specs.Puts.{next_put}
use Rattle.history_types.specs.declared.entry.Entry.{Entry}
use Rattle.history_log.specs.Entry.{entry_text}
use Rattle.report.specs.Printed.{lined, IsReadBack}
use Rattle.report.proofs.printing.put_entries.Goals as goal

pub loop-entry-preserved : goal.loop-entry-preserved
loop-entry-preserved c =
    let item = c.entry-item.result in
    let before = string_bytes c.loop-entry.out in
    let line = ap (λ (l : List ℕ). l ++ codes "\n") c.in_ok-put_entry.ensures.text ∙ append_assoc before (entry_text item) (codes "\n") in
    next_put (λ (entry : Entry). lined (entry_text entry)) IsReadBack c.args.entries.now c.loop-entry.entry-index (string_bytes c.args.out.now)
    before (string_bytes c.push_str.new.self) item c.loop-entry-test.true c.entry-item.is c.loop-entry.invariant
    (c.in_ok-push_str.ensures.bytes ∙ line) c.in_ok-put_entry.ensures.reads_back
