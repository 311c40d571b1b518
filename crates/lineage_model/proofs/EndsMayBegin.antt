-- A history may begin with each state of a legal history.
use Rattle.std.proofs.Common.{◌≡◌, ℤ, pos, ◌+ℤ◌, true, List, [], ◌∷◌, map, All, Some, None, refl, true≢false, arith}
use Rattle.std.specs.Map.{keys_of, values_of}
use Rattle.std.proofs.lemmas.Bool.{or_left}
use Rattle.std.proofs.lemmas.Int.{ints}
use Rattle.std.proofs.lemmas.List.Elements.{All-head, All-append}
use Rattle.row_types.specs.RowMap.{NamedRow}
use Rattle.history_types.specs.declared.entry.Entry.{Entry}
use Rattle.history_types.specs.declared.state.State.{State}
use Rattle.lineage_model.specs.Rows.{stamped}
use Rattle.lineage_model.specs.Opening.{is_empty, is_opening}
use Rattle.lineage_model.specs.Step.{broken_rule, applied}
use Rattle.lineage_model.specs.History.{IsBelow, IsHistory, AreLegal, state_after}
use Rattle.lineage_model.proofs.Cases.{by_request, by_version}
use Rattle.lineage_model.proofs.Commits.{commits}
use Rattle.lineage_model.proofs.LastChanges.{IsLast}
use Rattle.lineage_model.proofs.LaterLasts.{later, now}
use Rattle.lineage_model.proofs.Leads.{none_there}
use Rattle.lineage_model.proofs.MayBegin.{MayBegin, may_from_test, test_from_may}
use Rattle.lineage_model.proofs.Rules.{Kept, kept}
use Rattle.lineage_model.proofs.Step.{Leads, step}

-- what an entry leaves a state that a history may begin with
abbrev OpensFrom : State → Entry → Type 0
OpensFrom state entry = MayBegin state → Kept state entry → Leads state entry (applied state entry) → MayBegin (applied state entry)

-- there are no rows without a next id
no_rows : (rows : List NamedRow) → All (IsBelow None) (keys_of rows) → is_empty rows ≡ true
no_rows [] below = refl
no_rows (row ∷ rows) below = absurd (All-head (IsBelow None) row.0 (keys_of rows) below)

-- in version 2
opens_two : (state : State) (entry : Entry) → OpensFrom (record state { version = 2; next = None }) entry
unfolding applied
opens_two state = λ entry. by_request (OpensFrom (record state { version = 2; next = None })) entry
    (λ rows may kept leads.
    let none : entry.next ≡ None = none_there entry.next kept.next in
    record {
      right = leads.right;
      next = rw none tt;
      seq = omega (arith, ints, may.seq);
      ids = may.ids;
      lasts = later state.seq (values_of state.rows) may.lasts;
      unnamed = All-append (IsLast (state.seq +ℤ pos 1)) state.unnamed (map (stamped (state.seq +ℤ pos 1)) rows) (later state.seq state.unnamed may.unnamed) (now state.seq rows may.seq);
      one_kind = or_left _ _ (no_rows state.rows may.right.below);
    })
    (λ paths may kept leads. absurd (true≢false kept.version))
    (λ may kept leads. record { right = leads.right; next = omega (arith, ints); seq = may.seq; ids = may.ids; lasts = may.lasts; unnamed = may.unnamed; one_kind = may.one_kind })

-- in version 3
opens_three : (state : State) (low : ℤ) (entry : Entry) → OpensFrom (record state { version = 3; next = Some low }) entry
unfolding applied
opens_three state low = λ entry. by_request (OpensFrom (record state { version = 3; next = Some low })) entry
    (λ rows may kept leads. commits low entry.next state entry rows may leads.ids leads.right)
    (λ paths may kept leads. commits low entry.next state entry [] may leads.ids leads.right)
    (λ may kept leads. absurd (true≢false kept.version))

-- a legal entry leads on to a state that a history may begin with
opens : (state : State) (entry : Entry) → MayBegin state → broken_rule state entry ≡ None → MayBegin (applied state entry)
opens state entry may legal =
    by_version (λ s. OpensFrom s entry) state may.right.next (opens_two state entry) (λ low. opens_three state low entry) may (kept state entry legal) (step state entry may.right legal)

-- so do legal entries
opens_all : (state : State) (entries : List Entry) → MayBegin state → AreLegal state entries → MayBegin (state_after state entries)
unfolding AreLegal state_after
opens_all state [] may legal = may
opens_all state (entry ∷ entries) may legal = opens_all (applied state entry) entries (opens state entry may legal.0) legal.1

-- the state at the end of a history
pub end_may_begin : (start : State) (entries : List Entry) (end : State) → IsHistory start entries end → is_opening end ≡ true
end_may_begin start entries end history = rw history.state (test_from_may _ (opens_all start entries (may_from_test start history.opening) history.legal))
