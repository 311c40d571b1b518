use Rattle.std.proofs.Common.{refl, sym, ap, ◌∙◌}
use Rattle.objects.specs.Stream.{Stream}
use Rattle.objects.specs.BlocksLaws.{block_taken, block_known}
use Rattle.objects.proofs.blocks.Objects.advance_known.Goals as goal

pub take_known-after-requires : goal.take_known-after-requires
take_known-after-requires g c κs =
    let read = g.R.Object.at c.args.self.now.reader in
    let rest = c.go_on_known.new.rest in
    let right = ap (λ (s : Stream _ _). s.fault) c.go_on_known.ensures.same ∙ c.requires.known in
    let known = block_known read _ _ _ rest.left rest.place c.if-not-go_on_known.ensures.some right in
    ((refl, tt), (c.requires.ready.reader_right, (c.go_on_known.ensures.within.place, (c.requires.ready.slot_fits, known))))

pub returns-clause-known : goal.returns-clause-known
returns-clause-known g c =
    let read = g.R.Object.at c.args.self.now.reader in
    let rest = c.go_on_known.new.rest in
    let right = ap (λ (s : Stream _ _). s.fault) c.go_on_known.ensures.same ∙ c.requires.known in
    let shown = g.R.Object.held c.take_known-after.new.slot in
    let some = c.if-not-go_on_known.ensures.some in
    let taken = block_taken read _ _ _ rest.left rest.place shown c.take_known-after.result some c.take_known-after.ensures.exact in
    sym (ap (λ (s : Stream _ _). s.fault) taken) ∙ right

pub returns-clause-shown : goal.returns-clause-shown
returns-clause-shown g c =
    let read = g.R.Object.at c.args.self.now.reader in
    let rest = c.go_on_known.new.rest in
    let shown = g.R.Object.held c.take_known-after.new.slot in
    let some = c.if-not-go_on_known.ensures.some in
    let taken = block_taken read _ _ _ rest.left rest.place shown c.take_known-after.result some c.take_known-after.ensures.exact in
    ap (λ (s : Stream _ _). s.objects) (sym c.go_on_known.ensures.same ∙ taken)
