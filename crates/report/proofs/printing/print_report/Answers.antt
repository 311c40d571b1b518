use Rattle.std.proofs.Common.{◌≡◌, ◌∙◌, rules, SFits}
use Rattle.std.proofs.lemmas.Int.{to_z-of_z}
use Rattle.std.specs.Int.{w64}
use Rattle.report.specs.Printed.{Told, report_text}
use Rattle.report.proofs.PrintedReport.{report_again, report_printed}
use Rattle.report.proofs.printing.print_report.Goals as goal

pub returns-clause-text : goal.returns-clause-text
returns-clause-text c =
    let told : Told = record {
      columns = c.args.columns.now;
      version = c.args.version;
      seq = c.args.seq;
      next = c.args.next;
      rows = c.args.rows.now;
      entries = c.args.entries.now;
    } in
    let fits : SFits w64 c.args.seq = search rules in
    let front = simp to_z-of_z at c.in_ok-put_front.ensures in
    let rows = rw c.as_slice.ensures at c.in_ok-put_rows.ensures in
    let entries = rw c.as_slice-2.ensures at c.in_ok-put_entries.ensures.text in
    c.from_string.ensures ∙ report_printed told _ _ _ _ _ c.new-out.ensures.bytes front rows entries c.in_ok-push_str.ensures.bytes

pub returns-clause-reads_back : goal.returns-clause-reads_back
returns-clause-reads_back c = λ start is put.
    let told : Told = record {
      columns = c.args.columns.now;
      version = c.args.version;
      seq = c.args.seq;
      next = c.args.next;
      rows = c.args.rows.now;
      entries = c.args.entries.now;
    } in
    let fits : SFits w64 c.args.seq = search rules in
    let front = simp to_z-of_z at c.in_ok-put_front.ensures in
    let rows = rw c.as_slice.ensures at c.in_ok-put_rows.ensures in
    let entries = rw c.as_slice-2.ensures at c.in_ok-put_entries.ensures.text in
    let printed : c.from_string.result ≡ report_text told = c.from_string.ensures ∙ report_printed told _ _ _ _ _ c.new-out.ensures.bytes front rows entries c.in_ok-push_str.ensures.bytes in
    let back = rw c.as_slice-2.ensures at c.in_ok-put_entries.ensures.reads_back in
    rw printed (report_again told start is back put)
