use Rattle.std.proofs.Common.{ℕ, ◌+◌, ap}
use Rattle.std.proofs.lemmas.Result.{err_from_is_err_and}
use Rattle.words.specs.Laws.{refused_so}
use Rattle.avro_schema.specs.Refusal.{is_memory}
use Rattle.avro_schema.proofs.ItemLaws.{texts_on, texts_fail, texts_end}
use Rattle.avro_schema.proofs.definition.texts_of.Goals as goal

pub returns-in_err-text : goal.returns-in_err-text
returns-in_err-text c =
    let p = err_from_is_err_and c.from_residual.result c.from_residual.ensures.1 in
    let l = c.loop-value in
    record { exact = rw (p.1, p.2) (refused_so (is_memory c.in_err-text.field-0.0) (λ e. texts_fail l.place l.texts c.args.values.now l.value-index _ c.value-item.result c.in_err-text.field-0.0 c.loop-value-test.true c.value-item.is l.invariant.so_far e) c.in_err-text.ensures.exact) }

pub loop-value-preserved : goal.loop-value-preserved
loop-value-preserved c =
    let l = c.loop-value in
    record {
      place = ap (λ (n : ℕ). n + 1) l.invariant.place;
      so_far = rw (c.in_ok-push.ensures.ok) (texts_on l.place l.texts c.args.values.now l.value-index _ c.value-item.result c.in_ok-text.text c.loop-value-test.true c.value-item.is l.invariant.so_far c.in_ok-text.ensures.exact);
    }

pub returns : goal.returns
returns c = record { exact = texts_end c.loop-value.place c.loop-value.texts c.args.values.now c.loop-value.value-index _ c.loop-value-test.false c.loop-value.invariant.so_far }
