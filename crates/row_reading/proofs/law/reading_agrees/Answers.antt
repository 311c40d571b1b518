use Rattle.row_reading.proofs.StoredLaws.{rows_found, rows_only}
use Rattle.row_reading.proofs.law.reading_agrees.Goals as goal

pub returns-clause-found : goal.returns-clause-found
returns-clause-found c = rows_found c.laws_below.ensures

pub returns-clause-only : goal.returns-clause-only
returns-clause-only c = rows_only c.laws_below.ensures
