use Rattle.std.proofs.Common.{◌≡◌, ◌+◌, ◌++◌, ◌∷◌, [], ℕ, List, false, drop, get_or, string_bytes, arith, ap, ◌∙◌}
use Rattle.std.proofs.Common.{rules}
use Rattle.std.proofs.lemmas.Result.{err_from_is_err_and}
use Rattle.std.proofs.lemmas.Str.{IsCharBoundary-after_ascii}
use Rattle.pieces.specs.Literal.{rest_at}
use Rattle.pieces.proofs.LiteralSteps.{unescaped_ascii}
use Rattle.pieces.proofs.LiteralRuns.{IsReadFrom, read_escape}
use Rattle.pieces.proofs.literal.take_rest.Goals as goal

pub returns-in_err-push_str-clause-exact : goal.returns-in_err-push_str-clause-exact
returns-in_err-push_str-clause-exact c =
    let p = err_from_is_err_and c.from_residual.result c.from_residual.ensures.1 in
    rw (p.1, p.2) tt

pub returns-in_err-push-clause-exact : goal.returns-in_err-push-clause-exact
returns-in_err-push-clause-exact c =
    let p = err_from_is_err_and c.from_residual-in_err-push.result c.from_residual-in_err-push.ensures.1 in
    rw (p.1, p.2) tt

pub runs-preserved : goal.runs-preserved
runs-preserved c =
    let text = c.args.text.now in
    let at = c.runs.at in
    let end = c.plain_end-end.result in
    let other = c.in-Some.other in
    let within = rw c.as_bytes-bytes.ensures.value at (rw c.in-Some.is at c.in_ok-other.ensures.within) in
    let ascii = unescaped_ascii (get_or text (end + 1) 0) other within.1 in
    let two : end + 1 + 1 ≡ end + 2 = omega arith in
    let run : IsReadFrom text at end = rw c.as_bytes-bytes.ensures.value at c.plain_end-end.ensures.read in
    let escape : (content : List ℕ) → rest_at false content (drop end text) end ≡ rest_at false (content ++ other ∷ []) (drop (end + 2) text) (end + 2) = λ content. rw c.as_bytes-bytes.ensures.value at (rw c.in-Some.is at (c.in_ok-other.ensures.read content)) in
    record {
      before = omega (arith, c.runs.invariant.before, c.plain_end-end.ensures.from);
      within = omega (arith, within.0);
      boundary = rw two at (IsCharBoundary-after_ascii text (end + 1) c.utf8.text within.0 ascii.0);
      read = read_escape text at end other (string_bytes c.runs.content) (string_bytes c.push_str.new.self) (string_bytes c.push.new.self) c.range.result.now run escape c.range.ensures.value c.in_ok-push_str.ensures.bytes
          (c.in_ok-push.ensures.bytes ∙ ap (λ (l : List ℕ). string_bytes c.push_str.new.self ++ l) (c.in_ok-push.ensures.ascii ascii.1)) ∙ c.runs.invariant.read;
    }

pub returns-in_default-clause-exact : goal.returns-in_default-clause-exact
returns-in_default-clause-exact c = search rules
