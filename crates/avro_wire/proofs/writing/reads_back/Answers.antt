use Rattle.avro_wire.proofs.WritingLemmas.{long_text_again, int_text_again, bytes_text_again, bytes_text_inside}
use Rattle.avro_wire.proofs.writing.reads_back.Goals as goal

pub returns-clause-longs : goal.returns-clause-longs
returns-clause-longs c = long_text_again

pub returns-clause-ints : goal.returns-clause-ints
returns-clause-ints c = int_text_again

pub returns-clause-bytes : goal.returns-clause-bytes
returns-clause-bytes c = bytes_text_again

pub returns-clause-inside : goal.returns-clause-inside
returns-clause-inside c = bytes_text_inside
