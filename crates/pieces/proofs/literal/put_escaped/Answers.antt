use Rattle.std.proofs.Common.{◌+◌, length, sym, ◌∙◌, arith, string_bytes, ◌<◌}
use Rattle.std.proofs.lemmas.List.{append-nil}
use Rattle.std.proofs.lemmas.Str.{IsCharBoundary-start, IsCharBoundary-after_ascii}
use Rattle.pieces.specs.LiteralLaws.{run_begins, run_goes_on}
use Rattle.pieces.proofs.LiteralRuns.{printed_on}
use Rattle.pieces.proofs.literal.put_escaped.Goals as goal
use Rattle.pieces.proofs.literal.put_escaped.Goals.{in-Some+in_ok-push_str+in_ok-push_str-2, in_default}

pub loop-at-init : goal.loop-at-init
loop-at-init c = record {
  run = run_begins c.args.text.now 0 (omega arith);
  boundary = IsCharBoundary-start c.args.text.now c.utf8.text;
  so_far = sym (append-nil (string_bytes c.args.out.now));
}

pub loop-at-preserved : goal.loop-at-preserved
loop-at-preserved c =
    let text = c.args.text.now in
    let at = c.loop-at.at in
    let lt : at < length text = omega arith in
    elim c.match-escape.branch [
      | in-Some+in_ok-push_str+in_ok-push_str-2 w ↦
          rw (w.plain-is, w.out-is) (record {
            run = run_begins text (at + 1) (omega arith);
            boundary = IsCharBoundary-after_ascii text at c.utf8.text lt (rw c.as_bytes-bytes.ensures.value at w.in-Some.ensures.ascii);
            so_far = w.in_ok-push_str-2.ensures.bytes ∙ printed_on text c.loop-at.plain at (string_bytes c.args.out.now) (string_bytes c.loop-at.out) (string_bytes w.push_str.new.self) w.range.result.now w.in-Some.escaped.now c.loop-at.invariant.run lt
                (rw c.as_bytes-bytes.ensures.value at w.in-Some.ensures.value) c.loop-at.invariant.so_far w.range.ensures.value w.in_ok-push_str.ensures.bytes;
          })
      | in_default w ↦
          rw (w.plain-is, w.out-is) (record {
            run = run_goes_on text c.loop-at.plain at c.loop-at.invariant.run lt (rw c.as_bytes-bytes.ensures.value at w.in_default.ensures.value);
            boundary = c.loop-at.invariant.boundary;
            so_far = c.loop-at.invariant.so_far;
          })
    ]
