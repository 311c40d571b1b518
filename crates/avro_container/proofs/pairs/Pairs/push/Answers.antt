use Rattle.std.proofs.Common.{◌≡◌, ℕ, List, ◌∷◌, [], ◌++◌, Some, is_some, true, rules, subst, sym, ap, ◌∙◌}
use Rattle.std.specs.BTreeMap.{get_by}
use Rattle.std.specs.Cmp.Lexicographic.{slice_cmp}
use Rattle.std.specs.Ordering.{nat_cmp}
use Rattle.std.proofs.lemmas.Map.Text.{btree_map_updates_str}
use Rattle.avro_container.specs.Pairs.{Found, pair_there}
use Rattle.avro_container.proofs.PairSteps.{known_more, known_again}
use Rattle.avro_container.proofs.pairs.Pairs.push.Goals as goal

pub invariant_of-self-then-is_some : goal.invariant_of-self-then-is_some
invariant_of-self-then-is_some c =
    let before = λ (key : List ℕ). get_by (λ k. slice_cmp nat_cmp key k.now) c.self.inside.keys in
    let after = λ (key : List ℕ). get_by (λ k. slice_cmp nat_cmp key k.now) c.insert.new.self in
    let stood : is_some (before c.args.key.now) ≡ true = search rules in
    known_again c.self.inside.input.now c.self.inside.places.items c.reserve.new.self.items c.args.key.now tt before after c.self.invariant c.reserve.ensures.items stood
    (λ key. btree_map_updates_str c.args.key.now c.self.inside.keys c.insert.new.self (Some tt) c.in_ok-old.ensures.updates key)

pub invariant_of-self-2 : goal.invariant_of-self-2
invariant_of-self-2 c =
    let before = λ (key : List ℕ). get_by (λ k. slice_cmp nat_cmp key k.now) c.self.inside.keys in
    let after = λ (key : List ℕ). get_by (λ k. slice_cmp nat_cmp key k.now) c.insert.new.self in
    let grown = c.push_reserved.ensures.items ∙ ap (λ (ps : List ℕ). ps ++ c.args.place ∷ []) c.reserve.ensures.items in
    let spelled = subst (λ (f : Found). (pair_there f.input c.args.place).0 ≡ c.args.key.now) (sym c.self.view_is) c.requires.key in
    known_more c.self.inside.input.now c.self.inside.places.items c.push_reserved.new.self.items c.args.place c.args.key.now tt before after c.self.invariant grown spelled
    (λ key. btree_map_updates_str c.args.key.now c.self.inside.keys c.insert.new.self (Some tt) c.in_ok-old.ensures.updates key)

pub returns-then-is_some-clause-new : goal.returns-then-is_some-clause-new
returns-then-is_some-clause-new c = search rules
