use Rattle.std.proofs.Common.{◌+◌, ◌*◌, ◌≤◌, ℕ, get_or, drop, sym, ap, subst, arith}
use Rattle.std.proofs.lemmas.List.{length-drop, get_or-drop}
use Rattle.avro_wire.specs.Number.{Bounds}
use Rattle.avro_wire.proofs.Groups.{IsRead, goes_on, ends_short, ends_long, ends_well, ends_large, ends_tenth}
use Rattle.avro_wire.proofs.Groups.{group_room, bit_room}
use Rattle.avro_wire.proofs.reading.take_each_group.Goals as goal
use Rattle.avro_wire.proofs.reading.take_each_group.Goals.{else-index-eq9-via-then-index-eq9+else-byte-gt1}
use Rattle.avro_wire.proofs.reading.take_each_group.Goals.{else-index-eq9-via-else-index-eq9}

pub returns-then-at-input-clause-exact : goal.returns-then-at-input-clause-exact
returns-then-at-input-clause-exact c =
    let bounds : Bounds = record { bytes = c.args.most; largest = c.args.largest } in
    let index = c.loop-index.index in
    let value = c.loop-index.value in
    ends_short bounds c.args.input.now c.args.place index value c.requires.start c.loop-index.invariant c.loop-index-test.true c.if-at-input.true

pub returns-then-byte-gt1-clause-exact : goal.returns-then-byte-gt1-clause-exact
returns-then-byte-gt1-clause-exact c =
    let bounds : Bounds = record { bytes = c.args.most; largest = c.args.largest } in
    let input = c.args.input.now in
    let place = c.args.place in
    let value = c.loop-index.value in
    let byte = get_or input (place + c.loop-index.index) 0 in
    let is_nine = c.if-index-eq9.true in
    let nine : IsRead (drop place input) 9 value = subst (λ (n : ℕ). IsRead (drop place input) n value) is_nine c.loop-index.invariant in
    let tenth = ap (λ (n : ℕ). get_or input (place + n) 0) is_nine in
    ends_tenth bounds input place value byte nine (omega arith) c.requires.most (omega arith) (omega arith) tenth c.if-byte-gt1.true

pub with_group-value-requires-clause-room : goal.with_group-value-requires-clause-room
with_group-value-requires-clause-room c =
    let byte = get_or c.args.input.now (c.args.place + c.loop-index.index) 0 in
    elim c.else-index-eq9.branch [
      | else-index-eq9-via-then-index-eq9+else-byte-gt1 w ↦
          bit_room _ c.loop-index.index w.if-index-eq9.true (let low : byte ≤ 1 = w.if-byte-gt1.false in omega arith)
      | else-index-eq9-via-else-index-eq9 w ↦ group_room _ (7 * c.loop-index.index) (omega arith) (omega arith)
    ]

pub returns-then-value-largest-clause-exact : goal.returns-then-value-largest-clause-exact
returns-then-value-largest-clause-exact c =
    let bounds : Bounds = record { bytes = c.args.most; largest = c.args.largest } in
    let input = c.args.input.now in
    let place = c.args.place in
    let index = c.loop-index.index in
    let value = c.loop-index.value in
    let byte = get_or input (place + index) 0 in
    let read = c.loop-index.invariant in
    ends_large bounds input place index value byte read c.loop-index-test.true (omega arith) (λ i. byte) c.if-byte-lt128.true
    (omega (arith, c.with_group-value.ensures.value))

pub returns-then-byte-lt128-clause-exact : goal.returns-then-byte-lt128-clause-exact
returns-then-byte-lt128-clause-exact c =
    let bounds : Bounds = record { bytes = c.args.most; largest = c.args.largest } in
    let input = c.args.input.now in
    let place = c.args.place in
    let index = c.loop-index.index in
    let value = c.loop-index.value in
    let byte = get_or input (place + index) 0 in
    let read = c.loop-index.invariant in
    rw c.with_group-value.ensures.value
    (ends_well bounds input place index value byte read c.loop-index-test.true (omega arith) (λ i. byte) c.if-byte-lt128.true
    (omega (arith, c.with_group-value.ensures.value)))

pub loop-index-preserved : goal.loop-index-preserved
loop-index-preserved c =
    let input = c.args.input.now in
    let place = c.args.place in
    let index = c.loop-index.index in
    let byte = get_or input (place + index) 0 in
    let below = rw c.with_group-value.ensures.value at c.with_group-value.ensures.below in
    let here = sym (get_or-drop place input index 0) in
    rw c.with_group-value.ensures.value
    (goes_on (drop place input) index c.loop-index.value byte c.loop-index.invariant (omega (arith, length-drop place input))
    here c.if-byte-lt128.false below)

pub returns-clause-exact : goal.returns-clause-exact
returns-clause-exact c =
    let bounds : Bounds = record { bytes = c.args.most; largest = c.args.largest } in
    let read = c.loop-index.invariant in
    ends_long bounds c.args.input.now c.args.place c.loop-index.index c.loop-index-test.false read.within read.high
