use Rattle.std.proofs.Common.{◌≡◌, false, true, sym, subst, ◌∙◌}
use Rattle.std.specs.BTreeSet.{contains_text}
use Rattle.std.specs.String.{string_bytes}
use Rattle.std.proofs.lemmas.Map.Text.{btree_set_updates_text}
use Rattle.lists.specs.Keys.{has_key}
use Rattle.lists.proofs.KeyLaws.{keyed_push}
use Rattle.lists.proofs.distinct.Distinct.push.Goals as goal

pub invariant_of-self-2 : goal.invariant_of-self-2
invariant_of-self-2 g c =
    let fresh = subst (λ items. has_key g.T.Keyed.key items (g.T.Keyed.key c.args.item) ≡ false) (sym c.self.view_is) c.requires in
    keyed_push g.T.Keyed.key c.self.inside.items.items c.reserve.new.self.items c.push_reserved.new.self.items c.args.item (string_bytes c.in_ok-key.key)
    (contains_text c.self.inside.keys) (contains_text c.insert.new.self) c.self.invariant fresh
    (λ key. btree_set_updates_text (string_bytes c.in_ok-key.key) c.self.inside.keys c.insert.new.self true c.in_ok-insert.ensures.updates key)
    (c.in_ok-key.ensures.ok ∙ c.key.ensures) c.reserve.ensures.items c.push_reserved.ensures.items
