use Rattle.std.proofs.Common.{◌≡◌, ℕ, List, true, rules, sym, ap, ◌∙◌}
use Rattle.std.specs.Str.{is_utf8}
use Rattle.avro_container.specs.Header.{pair_at}
use Rattle.avro_container.specs.Pairs.{bytes_in, pair_there, with_pair}
use Rattle.avro_container.proofs.PairSteps.{key_is, pair_added}
use Rattle.avro_container.proofs.header.take_pair.Goals as goal

pub add_pair-requires-clause-key : goal.add_pair-requires-clause-key
add_pair-requires-clause-key c =
    let input = c.args.input.now in
    let text : is_utf8 (bytes_in input (c.in_ok-start.start, c.in_ok-start.end)) ≡ true = search rules in
    let read = key_is input c.args.place (c.in_ok-start.start, c.in_ok-start.end) c.requires.within c.in_ok-start.ensures.exact text in
    ap (λ (i : List ℕ). (pair_there i c.args.place).0) c.requires.input ∙ (read ∙ sym c.in-Some.ensures.value)

pub returns-in-Ok-clause-exact : goal.returns-in-Ok-clause-exact
returns-in-Ok-clause-exact c =
    let input = c.args.input.now in
    let pairs = c.args.pairs.now.pairs in
    let text : is_utf8 (bytes_in input (c.in_ok-start.start, c.in_ok-start.end)) ≡ true = search rules in
    let added = pair_added pairs input c.args.place (c.in_ok-start.start, c.in_ok-start.end) (c.in-Ok.field-0-0, c.in-Ok.after) c.requires.within c.in_ok-start.ensures.exact text c.in_ok-start.ensures.within.2 c.in-Ok.ensures.exact in
    let whole : pair_at pairs input c.args.place ≡ with_pair pairs (pair_there c.args.pairs.now.input c.args.place) c.args.place c.in-Ok.after =
    added ∙ ap (λ (i : List ℕ). with_pair pairs (pair_there i c.args.place) c.args.place c.in-Ok.after) (sym c.requires.input) in
    rw whole c.add_pair.ensures.exact
