-- Rows put at ids one by one, and what comes of an entry.
use Rattle.std.proofs.Common.{◌≡◌, suc, ℤ, ◌<ℤ◌, true, false, List, [], ◌∷◌, length, refl, sym, arith, eq-eqb}
use Rattle.std.specs.declared.option.Option.TheVariants.{Some}
use Rattle.std.specs.List.{All}
use Rattle.std.proofs.lemmas.Bool.{true≢false, ne_eqb}
use Rattle.std.proofs.lemmas.List.{nil_from_length}
use Rattle.row_types.specs.RowMap.{NamedRow, UnnamedRow, with_row}
use Rattle.history_types.specs.declared.entry.Entry.{Entry}
use Rattle.history_types.specs.declared.request.Request.{Request}
use Rattle.history_types.specs.declared.request.Request.TheVariants.{Append, Compact, Upgrade}
use Rattle.history_types.specs.declared.state.State.{State}
use Rattle.lineage_model.specs.Rows.{under, with_rows}
use Rattle.lineage_model.specs.Asked.{Asked, asked, nothing}
use Rattle.lineage_model.specs.Step.{is_upgrade, upgraded, committed_to, appended_to, applied}

-- a row at the next id
pub puts_on : (rows put : List NamedRow) (ids ids_behind : List ℤ) (new new_behind : List UnnamedRow) (id : ℤ) (row : UnnamedRow) (total : List NamedRow) → ids ≡ id ∷ ids_behind → new ≡ row ∷ new_behind → put ≡ with_row rows id row
    → with_rows rows (under ids new) ≡ total → with_rows put (under ids_behind new_behind) ≡ total
puts_on rows put ids ids_behind new new_behind id row total ids_are new_are put_is so_far =
    let whole = rw (ids_are, new_are) at so_far in
    rw put_is whole

-- without rows nothing is put
pub puts_none : (rows : List NamedRow) (ids : List ℤ) (new : List UnnamedRow) (total : List NamedRow) → length new ≡ 0 → with_rows rows (under ids new) ≡ total → rows ≡ total
puts_none rows [] new total none so_far = so_far
puts_none rows (id ∷ ids) new total none so_far = rw (nil_from_length new none) at so_far

-- ids below a number, without the first one
pub below_behind : (ids behind : List ℤ) (id high : ℤ) → ids ≡ id ∷ behind → All (λ id. id <ℤ high) ids → All (λ id. id <ℤ high) behind
below_behind ids behind id high are below = λ k d within.
    let all : All (λ id. id <ℤ high) (id ∷ behind) = rw are at below in
    all (suc k) d (omega arith)

-- ---- what comes of it

upgrade_asks : (request : Request) (state : State) → is_upgrade request ≡ true → asked request state ≡ Some nothing
upgrade_asks (Append rows) state upgrade = absurd (true≢false (sym upgrade))
upgrade_asks (Compact paths) state upgrade = absurd (true≢false (sym upgrade))
upgrade_asks Upgrade state upgrade = refl

-- an upgrade
pub applied_upgrade : (state : State) (entry : Entry) → is_upgrade entry.request ≡ true → applied state entry ≡ upgraded state
unfolding applied
applied_upgrade state entry upgrade = rw (upgrade_asks entry.request state upgrade, upgrade) refl

-- another entry in version 3
pub applied_commit : (state : State) (entry : Entry) (asks : Asked) → is_upgrade entry.request ≡ false → state.version ≡ 3 → asked entry.request state ≡ Some asks → applied state entry ≡ committed_to state entry asks
unfolding applied
applied_commit state entry asks upgrade three asked_is = rw (asked_is, upgrade, eq-eqb state.version 3 three) refl

-- another entry in version 2
pub applied_append : (state : State) (entry : Entry) (asks : Asked) → is_upgrade entry.request ≡ false → (state.version ≡ 3 → ⊥) → asked entry.request state ≡ Some asks → applied state entry ≡ appended_to state entry asks
unfolding applied
applied_append state entry asks upgrade other asked_is = rw (asked_is, upgrade, ne_eqb state.version 3 other) refl
