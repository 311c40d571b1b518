use Rattle.std.proofs.Common.{sym, ◌∙◌}
use Rattle.avro_wire.specs.Number.{long}
use Rattle.avro_wire.specs.ReadingLaws.{number_again}
use Rattle.avro_wire.proofs.Numbers.{answers, number_found, short_iff, too_long_iff}
use Rattle.avro_wire.proofs.reading.take_long.Goals as goal

pub returns-clause-found : goal.returns-clause-found
returns-clause-found c = number_found long c.args.input.now c.args.place c.long_at.result (answers c.long_at.result _ c.long_at.ensures.exact)

pub returns-clause-only : goal.returns-clause-only
returns-clause-only c = λ bytes after value parts spelled. sym (answers c.long_at.result _ c.long_at.ensures.exact) ∙ number_again long c.args.input.now c.args.place bytes after value parts spelled

pub returns-clause-short : goal.returns-clause-short
returns-clause-short c = short_iff long c.args.input.now c.args.place c.long_at.result (answers c.long_at.result _ c.long_at.ensures.exact)

pub returns-clause-too_long : goal.returns-clause-too_long
returns-clause-too_long c = too_long_iff long c.args.input.now c.args.place c.long_at.result (answers c.long_at.result _ c.long_at.ensures.exact)
