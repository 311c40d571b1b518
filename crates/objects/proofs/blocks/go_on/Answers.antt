use Rattle.std.proofs.Common.{◌+◌, ◌∙◌, ap, length, refl, arith, rules, SFits}
use Rattle.std.specs.Int.{w64}
use Rattle.std.proofs.lemmas.Int.{to_z-of_z}
use Rattle.avro_container.specs.declared.container.Block.{Block}
use Rattle.avro_container.specs.Container.{Walked}
use Rattle.objects.specs.declared.blocks.Rest.{Rest}
use Rattle.objects.specs.BlocksLaws.{block_longer, begun, none_left}
use Rattle.objects.proofs.blocks.go_on.Goals as goal

pub returns-then-rest-clause-begun : goal.returns-then-rest-clause-begun
returns-then-rest-clause-begun g c =
    let read = g.R.Object.at c.args.reader.now in
    let rest = c.loop-rest.rest in
    rw c.rest_in.ensures (block_longer read _ _ _ rest.left rest.place c.loop-rest-test.true c.if-rest.true)

pub returns-in_default-clause-begun : goal.returns-in_default-clause-begun
returns-in_default-clause-begun g c =
    let read = g.R.Object.at c.args.reader.now in
    let rest = c.loop-rest.rest in
    let now : Rest = record {
      walk = c.next.new.self;
      number = rest.number;
      block = rest.block;
      place = rest.place;
      left = rest.left;
    } in
    let none = ap (λ (w : Walked). w.left) c.in_default.ensures.end ∙ c.in_default.ensures.value in
    none_left read g.R.Object.rest now c.loop-rest-test.true c.if-rest.false none

pub loop-rest-preserved : goal.loop-rest-preserved
loop-rest-preserved g c =
    let read = g.R.Object.at c.args.reader.now in
    let rest = c.loop-rest.rest in
    let fits : SFits w64 c.in-Some.count = search rules in
    let block : Block = record { count = c.in-Some.count; bytes = c.in-Some.bytes.now } in
    let after : Rest = record {
      walk = c.next.new.self;
      number = rest.number + 1;
      block = c.in-Some.bytes;
      place = 0;
      left = c.told-rest.result;
    } in
    let told = simp to_z-of_z at c.told-rest.ensures.value in
    let next = c.in-Some.ensures.value in
    let same = begun read g.R.Object.rest rest after block c.loop-rest-test.true c.if-rest.false next refl refl refl told in
    record {
      within = record { place = omega arith; few = omega (arith, c.loop-rest.invariant.within.few, ap length next) };
      whole = c.in-Some.ensures.whole ∙ c.loop-rest.invariant.whole;
      same = same ∙ c.loop-rest.invariant.same;
    }
