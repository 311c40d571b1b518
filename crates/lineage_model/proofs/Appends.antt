-- What stands at an id behind an entry.
use Rattle.std.proofs.Common.{◌≡◌, ◌≢◌, ℤ, ◌<ℤ◌, ◌≤ℤ◌, List, [], All, Option, Some, None, ◌∙◌, arith}
use Rattle.std.specs.Map.{keys_of}
use Rattle.std.proofs.lemmas.Int.{ints}
use Rattle.std.proofs.lemmas.List.Elements.{All-weaker}
use Rattle.row_types.specs.RowMap.{UnnamedRow, row_at}
use Rattle.row_types.specs.declared.cell.Cell.{Cell}
use Rattle.history_types.specs.declared.entry.Entry.{Entry}
use Rattle.history_types.specs.declared.state.State.{State}
use Rattle.lineage_model.specs.Ids.{ids_of}
use Rattle.lineage_model.specs.Rows.{under}
use Rattle.lineage_model.specs.Step.{applied, ids_given_by, rows_after, LegalStep}
use Rattle.lineage_model.specs.History.{IsBelow, IsAppend}
use Rattle.lineage_model.proofs.Cases.{by_request, by_version}
use Rattle.lineage_model.proofs.Distinct.{All-first, All-second}
use Rattle.lineage_model.proofs.Leads.{LeadTo, lead_from_test}
use Rattle.lineage_model.proofs.Right.{IsRight}
use Rattle.lineage_model.proofs.RowLemmas.{All-under, All-row_at, row_at-with_rows}
use Rattle.lineage_model.proofs.Rules.{Kept, kept}

-- an id below the old next one is none of those that are given
others : (low : ℤ) (next : Option ℤ) (id : ℤ) (ids : List ℤ) → id <ℤ low → LeadTo (Some low) next ids → All (λ other. id ≢ other) ids
others low None id ids below lead = absurd lead
others low (Some high) id ids below lead = All-weaker (λ other. (low ≤ℤ other) × (other <ℤ high)) (λ other. id ≢ other) (λ other both same. absurd (omega (arith, ints, both.0))) ids lead.1

-- so behind an entry of version 3 that changes and removes no row it stands as before
stays : (low : ℤ) (next : Option ℤ) (state : State) (entry : Entry) (adds : List (List Cell)) (id : ℤ) → id <ℤ low → LeadTo (Some low) next (ids_given_by entry)
    → row_at (rows_after state entry (record { adds = adds; changes = []; removes = [] })) id ≡ row_at state.rows id
stays low next state entry adds id below lead =
    let apart = others low next id (ids_given_by entry) below lead in
    let named = All-first (λ other. id ≢ other) (ids_of entry.named) (ids_of entry.given) apart in
    let given = All-second (λ other. id ≢ other) (ids_of entry.named) (ids_of entry.given) apart in
    row_at-with_rows _ (under (ids_of entry.given) _) id (All-under (λ other. id ≢ other) (ids_of entry.given) _ given)
    ∙ row_at-with_rows state.rows (under (ids_of entry.named) _) id (All-under (λ other. id ≢ other) (ids_of entry.named) _ named)

-- an entry keeps what stands at each id
abbrev KeepsRows : State → Entry → Type 0
KeepsRows state entry = IsAppend entry.request → All (IsBelow state.next) (keys_of state.rows) → Kept state entry
    → (id : ℤ) (row : UnnamedRow) → row_at state.rows id ≡ Some row → row_at (applied state entry).rows id ≡ Some row

-- an append in version 2
in_two : (state : State) (entry : Entry) → KeepsRows (record state { version = 2; next = None }) entry
unfolding applied
in_two state = λ entry. by_request (KeepsRows (record state { version = 2; next = None })) entry
    (λ rows is below kept id row found. found) (λ paths is. absurd is) (λ is. absurd is)

-- an append in version 3
in_three : (state : State) (low : ℤ) (entry : Entry) → KeepsRows (record state { version = 3; next = Some low }) entry
unfolding applied
in_three state low = λ entry. by_request (KeepsRows (record state { version = 3; next = Some low })) entry
    (λ rows is below kept id row found.
    stays low entry.next state entry rows id (All-row_at (IsBelow (Some low)) state.rows id row below found) (lead_from_test low entry.next (ids_given_by entry) kept.next kept.fresh) ∙ found)
    (λ paths is. absurd is) (λ is. absurd is)

-- an append in a legal history
pub append_keeps : (before : State) (entry : Entry) (after : State) → IsRight before → LegalStep before entry after → IsAppend entry.request
    → (id : ℤ) (row : UnnamedRow) → row_at before.rows id ≡ Some row → row_at after.rows id ≡ Some row
append_keeps before entry after right step is id row found =
    rw step.state (by_version (λ s. KeepsRows s entry) before right.next (in_two before entry) (λ low. in_three before low entry) is right.below (kept before entry step.legal) id row found)
