use Rattle.std.proofs.Common.{sym, ◌∙◌}
use Rattle.avro_wire.specs.Number.{int}
use Rattle.avro_wire.specs.ReadingLaws.{number_again}
use Rattle.avro_wire.proofs.Numbers.{answers, number_found, short_iff, too_long_iff}
use Rattle.avro_wire.proofs.reading.take_int.Goals as goal

pub returns-clause-found : goal.returns-clause-found
returns-clause-found c = number_found int c.args.input.now c.args.place c.int_at.result (answers c.int_at.result _ c.int_at.ensures.exact)

pub returns-clause-only : goal.returns-clause-only
returns-clause-only c = λ bytes after value parts spelled. sym (answers c.int_at.result _ c.int_at.ensures.exact) ∙ number_again int c.args.input.now c.args.place bytes after value parts spelled

pub returns-clause-short : goal.returns-clause-short
returns-clause-short c = short_iff int c.args.input.now c.args.place c.int_at.result (answers c.int_at.result _ c.int_at.ensures.exact)

pub returns-clause-too_long : goal.returns-clause-too_long
returns-clause-too_long c = too_long_iff int c.args.input.now c.args.place c.int_at.result (answers c.int_at.result _ c.int_at.ensures.exact)
