use Rattle.std.proofs.Common.{◌∙◌}
use Rattle.std.proofs.lemmas.Result.{err_from_is_err_and}
use Rattle.lineage_cli.specs.Text.{part_text}
use Rattle.lineage_cli.proofs.PrintLemmas.{begun_more, begun_stops, begun_whole, parts_next, parts_end}
use Rattle.lineage_cli.proofs.parts.put_parts.Goals as goal

pub loop-rest-preserved : goal.loop-rest-preserved
loop-rest-preserved g c =
    let form = c.args.form in
    let rest = c.loop-rest.rest.now in
    let part = c.next_part.result.0.now in
    let behind = c.next_part.result.1.now in
    record {
      begun = begun_more _ _ _ _ _ _ (part_text form rest) (part_text form part) (part_text form behind) (part_text form c.args.bytes.now)
          (parts_next form rest part behind c.next_part.ensures.whole) c.loop-rest.invariant.begun c.in_ok-put_part.ensures.text;
      counted = c.in_ok-put_part.ensures.counted ∙ c.loop-rest.invariant.counted;
    }

pub returns-in_err-put_part-clause-text : goal.returns-in_err-put_part-clause-text
returns-in_err-put_part-clause-text g c =
    let p = err_from_is_err_and c.from_residual.result c.from_residual.ensures.1 in
    let form = c.args.form in
    let rest = c.loop-rest.rest.now in
    let part = c.next_part.result.0.now in
    let behind = c.next_part.result.1.now in
    rw p.1 (begun_stops _ _ _ _ _ (part_text form rest) (part_text form part) (part_text form behind) (part_text form c.args.bytes.now)
    (parts_next form rest part behind c.next_part.ensures.whole) c.loop-rest.invariant.begun c.in_err-put_part.ensures.text)

pub returns-clause-text : goal.returns-clause-text
returns-clause-text g c =
    let rest = c.loop-rest.rest.now in
    begun_whole _ _ _ _ (part_text c.args.form rest) (part_text c.args.form c.args.bytes.now) (parts_end c.args.form rest c.loop-rest-test.false)
    c.loop-rest.invariant.begun
