-- An append in version 2.
use Rattle.std.proofs.Common.{◌≡◌, List, ◌++◌, map, refl, ap, ◌∙◌}
use Rattle.row_types.specs.declared.cell.Cell.{Cell}
use Rattle.history_types.specs.declared.request.Request.TheVariants.{Append}
use Rattle.history_types.specs.declared.entry.Entry.{Entry}
use Rattle.history_types.specs.declared.state.State.{State}
use Rattle.lineage_model.specs.Rows.{stamped}
use Rattle.lineage_model.specs.Step.{applied, LegalStep}
use Rattle.lineage_model.specs.History.{IsAppend}
use Rattle.lineage_model.proofs.Cases.{by_request}
use Rattle.lineage_model.proofs.GivenIds.{added}

-- rows went behind those without id
pub record GoBehind (before : State) (entry : Entry) (after : State) : Type 0 where
  pub rows : after.rows ≡ before.rows
  pub unnamed : after.unnamed ≡ before.unnamed ++ map (stamped after.seq) (added entry.request)

-- an append puts its rows there in version 2
abbrev Appends : State → Entry → Type 0
Appends state entry = IsAppend entry.request → GoBehind state entry (applied state entry)

-- each entry, so far as it is an append
appends : (state : State) (entry : Entry) → state.version ≡ 2 → Appends state entry
unfolding applied
appends state entry two = by_request (Appends state) entry (λ rows is. record { rows = rw two refl; unnamed = rw two refl }) (λ paths is. absurd is) (λ is. absurd is)

-- a legal append
pub goes_behind : (before : State) (entry : Entry) (after : State) → LegalStep before entry after → IsAppend entry.request → before.version ≡ 2 → GoBehind before entry after
goes_behind before entry after step is two = rw step.state (appends before entry two is)

-- the rows of the append, by its request
pub behind : (before : State) (entry : Entry) (after : State) → GoBehind before entry after → (rows : List (List Cell)) → entry.request ≡ Append rows → after.unnamed ≡ before.unnamed ++ map (stamped after.seq) rows
behind before entry after go rows is = go.unnamed ∙ ap (λ request. before.unnamed ++ map (stamped after.seq) (added request)) is
