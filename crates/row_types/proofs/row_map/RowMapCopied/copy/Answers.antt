use Rattle.std.proofs.Common.{w64, FitsSigned, rules}
use Rattle.std.specs.Map.Iter.{deref_pair}
use Rattle.std.proofs.lemmas.Int.{to_z-of_z}
use Rattle.std.proofs.lemmas.Map.Iter.{rest_more}
use Rattle.row_types.proofs.RowMapLemmas.{goes_on}
use Rattle.row_types.proofs.row_map.RowMapCopied.copy.Goals as goal

pub loop-id-preserved : goal.loop-id-preserved
loop-id-preserved c =
    let first = rest_more deref_pair c.loop-id.id-iterator c.next.new.self c.next.result (c.in-Some.id, c.in-Some.row) c.in-Some.is c.next.ensures.steps in
    let fits : FitsSigned w64 c.in-Some.id.now = search rules in
    let grown = simp to_z-of_z at c.in_ok-put.ensures.ok in
    record {
      so_far = goes_on c.args.self.now c.loop-id.rows.entries c.loop-id.id-iterator c.next.new.self c.put.new.rows.entries c.in-Some.id.now c.in-Some.row.now c.in_ok-copy.field-0 c.loop-id.invariant.so_far c.loop-id.invariant.rising first c.in_ok-copy.ensures grown;
      rising = c.loop-id.invariant.rising;
    }
