use Rattle.std.proofs.Common.{◌≡◌, ◌∙◌}
use Rattle.history_log.specs.Entry.{entry_text}
use Rattle.history_log.proofs.EntryLaws.{entry_printed, entry_again}
use Rattle.history_log.proofs.entry.print_entry.Goals as goal

pub returns-clause-reads_back : goal.returns-clause-reads_back
returns-clause-reads_back c = λ columns fits.
    let printed : c.from_string.result ≡ entry_text c.args.entry.now = c.from_string.ensures ∙ entry_printed c.args.entry.now _ _ _ _ c.new-out.ensures.bytes c.in_ok-put_numbers.ensures c.in_ok-put_ids.ensures c.in_ok-put_parts.ensures in
    rw printed (entry_again columns c.args.entry.now fits)
