use Rattle.std.proofs.Common.{◌≡◌, ◌+◌, ◌-◌, take, drop, rules, arith, ap, ◌∙◌}
use Rattle.lt_port.proofs.Moved.{gives_front}
use Rattle.lt_port.proofs.mem_source.MemSourceSource.read.Goals as goal

pub returns-clause-bytes : goal.returns-clause-bytes
returns-clause-bytes c =
    let read = c.self.inside.read in
    let count = c.min-count.result in
    let bytes = c.self.inside.bytes.items in
    let new = c.copy_from_slice.new.self in
    let size : read + count - read ≡ count = omega arith in
    let copied : new ≡ take (read + count - read) (drop read bytes) = search rules in
    let front = copied ∙ ap (λ n. take n (drop read bytes)) size in
    gives_front c.args.self.now.left bytes c.args.room.now new read c.self.inside.piece count
    (search rules) c.self.invariant.0 (omega arith) front

pub returns-then-fails-clause-bytes : goal.returns-then-fails-clause-bytes
returns-then-fails-clause-bytes c = search rules
