use Rattle.std.specs.String.{string_bytes}
use Rattle.words.specs.Puts.{ArePut}
use Rattle.history_types.specs.declared.entry.Entry.{Entry}
use Rattle.history_log.specs.Entry.{entry_text}
use Rattle.report.specs.Printed.{lined, IsReadBack}
use Rattle.report.proofs.printing.put_entries.Given as goal

abbrev pub invariant-loop-entry : goal.invariant-loop-entry
invariant-loop-entry l =
    ArePut (λ (entry : Entry). lined (entry_text entry)) IsReadBack l.entries l.entry-index (string_bytes l.fn.out) (string_bytes l.out)
