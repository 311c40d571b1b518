use Rattle.std.proofs.Common.{List}
use Rattle.objects.specs.HeldLaws.{is_found, is_only}
use Rattle.objects.proofs.collected.read_all.Goals as goal

pub returns-clause-found : goal.returns-clause-found
returns-clause-found g c =
    let read = g.R.Object.at c.args.reader in
    let spells = g.R.Object.Spells c.args.reader in
    is_found g.R.Owning.is_memory (λ (values : List _). values) read spells c.agrees.ensures g.R.Object.rest c.args.walk.left
    c.read_left.result c.read_left.ensures.exact

pub returns-clause-only : goal.returns-clause-only
returns-clause-only g c = λ values holds.
    let read = g.R.Object.at c.args.reader in
    let spells = g.R.Object.Spells c.args.reader in
    is_only g.R.Owning.is_memory (λ (values : List _). values) read spells c.agrees.ensures g.R.Object.rest c.args.walk.left
    c.read_left.result c.read_left.ensures.exact values holds
