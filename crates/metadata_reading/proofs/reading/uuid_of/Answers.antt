use Rattle.words.specs.Laws.{refused_so}
use Rattle.metadata_reading.specs.Refusal.{is_memory}
use Rattle.metadata_reading.proofs.ReadingSteps.{no_uuid, uuid_wrong}
use Rattle.metadata_reading.proofs.reading.uuid_of.Goals as goal

pub returns-in-Err : goal.returns-in-Err
returns-in-Err c =
    let e = c.wrong-in-Err.result in
    let text = c.in-Some.text.now in
    record {
      exact = refused_so (is_memory e)
          (uuid_wrong _ text e c.in-Some.ensures (no_uuid c.in-Err.field-0 text c.in-Err.ensures.ok)) c.wrong-in-Err.ensures;
    }
