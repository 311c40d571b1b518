use Rattle.std.proofs.Common.{sym, ap, ◌∙◌}
use Rattle.datum_reading.proofs.KnownLemmas.{known_sized, known_utf8, known_text}
use Rattle.datum_reading.proofs.primitive.take_known_text.Goals as goal

pub checked_text-requires : goal.checked_text-requires
checked_text-requires c = known_utf8 c.args.input.now c.args.at _ c.in-Ok.after c.requires.known c.in-Ok.ensures.exact

pub unreachable-requires : goal.unreachable-requires
unreachable-requires c = known_sized c.args.input.now c.args.at c.in-Err.field-0 c.requires.known c.in-Err.ensures.exact

pub returns-clause-exact : goal.returns-clause-exact
returns-clause-exact c =
    rw c.checked_text.ensures (known_text c.args.input.now c.args.at _ c.in-Ok.after c.requires.known c.in-Ok.ensures.exact)
