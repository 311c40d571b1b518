use Rattle.std.proofs.Common.{eqb, sym, ◌∙◌, arith, w8}
use lib.Lanes.{chunk}
use Rattle.std.proofs.lemmas.Simd.{length-chunk, bitmask_splat, none_from_empty_mask}
use Rattle.cell_text.proofs.escape.lacks.Goals as goal

pub returns : goal.returns
returns c =
    let v = chunk c.args.at 8 c.args.text.now in
    let long = length-chunk c.args.at 8 c.args.text.now c.requires in
    let hits = bitmask_splat w8 eqb v 8 c.args.byte long (omega arith) in
    none_from_empty_mask (λ x. eqb x c.args.byte) c.args.text.now c.args.at 8 0 c.requires (sym hits ∙ c.if-hits-ne0.false)
