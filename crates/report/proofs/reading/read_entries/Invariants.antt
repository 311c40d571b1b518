use Rattle.std.proofs.Common.{◌≡◌, ◌+◌, ◌≤◌}
use Rattle.words.specs.Reading.{map_value}
use Rattle.report.specs.Fits.{FitsPart}
use Rattle.report.specs.Report.{report_of}
use Rattle.report.specs.Taken.{taken_by}
use Rattle.report.proofs.ReportLemmas.{part_at}
use Rattle.report.proofs.reading.read_entries.Given as goal

abbrev pub invariant-loop-at : goal.invariant-loop-at
invariant-loop-at g l = record {
  few : l.number ≤ l.at + 1;
  before : l.start ≤ l.at;
  fits : FitsPart g.T.Taker.fits l.part;
  so_far : part_at (record { begun = g.T.Taker.begun; more = g.T.Taker.more }) l.number l.part l.bytes l.start l.at ≡ map_value (taken_by g.T.Taker.begun g.T.Taker.more) (report_of l.bytes);
}
