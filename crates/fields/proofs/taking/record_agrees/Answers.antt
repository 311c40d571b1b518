use Rattle.fields.proofs.AgreeingLaws.{agrees_record}
use Rattle.fields.proofs.taking.record_agrees.Goals as goal

pub returns : goal.returns
returns c = λ schema wanted. agrees_record c.reading_agrees.ensures schema wanted
