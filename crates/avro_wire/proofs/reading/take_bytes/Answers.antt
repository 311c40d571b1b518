use Rattle.std.proofs.Common.{sym, ◌∙◌}
use Rattle.avro_wire.proofs.Numbers.{answers}
use Rattle.avro_wire.specs.ReadingLaws.{bytes_again}
use Rattle.avro_wire.proofs.Ranges.{bytes_found, bytes_short_iff, bytes_long_iff}
use Rattle.avro_wire.proofs.reading.take_bytes.Goals as goal

pub returns-clause-found : goal.returns-clause-found
returns-clause-found c = bytes_found c.args.input.now c.args.place c.range_at.result (answers c.range_at.result _ c.range_at.ensures.exact)

pub returns-clause-only : goal.returns-clause-only
returns-clause-only c = λ bytes after size parts spelled enough. sym (answers c.range_at.result _ c.range_at.ensures.exact) ∙ bytes_again c.args.input.now c.args.place bytes after size parts spelled enough

pub returns-clause-short : goal.returns-clause-short
returns-clause-short c = bytes_short_iff c.args.input.now c.args.place c.range_at.result (answers c.range_at.result _ c.range_at.ensures.exact)

pub returns-clause-too_long : goal.returns-clause-too_long
returns-clause-too_long c = bytes_long_iff c.args.input.now c.args.place c.range_at.result (answers c.range_at.result _ c.range_at.ensures.exact)
