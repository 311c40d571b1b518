-- The ids that a history gives.
use Rattle.std.proofs.Common.{◌≡◌, ◌≢◌, ℤ, ◌<ℤ◌, ◌≤ℤ◌, List, [], ◌∷◌, ◌++◌, All, AllPairs, Option, Some, None, refl}
use Rattle.std.proofs.Common.{arith, append_assoc, append-nil}
use Rattle.std.specs.List.{flat_map}
use Rattle.std.specs.Map.{keys_of}
use Rattle.std.proofs.lemmas.Int.{ints}
use Rattle.std.proofs.lemmas.List.Elements.{All-append, All-head, All-weaker}
use Rattle.row_types.specs.RowMap.{IsRising}
use Rattle.history_types.specs.declared.entry.Entry.{Entry}
use Rattle.history_types.specs.declared.state.State.{State}
use Rattle.lineage_model.specs.Step.{applied, ids_given_by}
use Rattle.lineage_model.specs.History.{IsBelow, IsHistory, AreLegal, state_after, ids_given}
use Rattle.lineage_model.proofs.Distinct.{all_pairs_append, distinct_from_rising, distinct_from_sorted}
use Rattle.lineage_model.proofs.Leads.{LeadTo}
use Rattle.lineage_model.proofs.Right.{IsRight, right_opening}
use Rattle.lineage_model.proofs.Step.{step}

-- ids that were given: each differs from each later one, and is below the next id
pub record AreGiven (next : Option ℤ) (ids : List ℤ) : Type 0 where
  pub distinct : AllPairs (λ a b. a ≢ b) ids
  pub below : All (IsBelow next) ids

-- no id is below no next id
no_ids : (ids : List ℤ) → All (IsBelow None) ids → ids ≡ []
no_ids [] below = refl
no_ids (id ∷ ids) below = absurd (All-head (IsBelow None) id ids below)

-- no ids were given
none_yet : (next : Option ℤ) → AreGiven next []
none_yet next = record { distinct = λ i j d before within. absurd (omega arith); below = λ k d within. absurd (omega arith) }

-- the ids of one more entry, behind those that were given
one_more : (before after : Option ℤ) (so_far ids : List ℤ) → AreGiven before so_far → LeadTo before after ids → AreGiven after (so_far ++ ids)
one_more None after so_far ids given lead = rw (no_ids so_far given.below, lead) (none_yet after)
one_more (Some low) None so_far ids given lead = absurd lead
one_more (Some low) (Some high) so_far ids given lead = record {
  distinct = all_pairs_append (λ a b. a ≢ b) so_far ids given.distinct (distinct_from_rising ids lead.0)
      (All-weaker (λ x. x <ℤ low) (λ x. All (λ y. x ≢ y) ids) (λ x below. All-weaker (λ y. (low ≤ℤ y) × (y <ℤ high)) (λ y. x ≢ y) (λ y both same. apart x y low below both.0 same) ids lead.1) so_far given.below);
  below = All-append (λ id. id <ℤ high) so_far ids (All-weaker (λ id. id <ℤ low) (λ id. id <ℤ high) (λ id below. omega (arith, ints, lead.2)) so_far given.below)
      (All-weaker (λ id. (low ≤ℤ id) × (id <ℤ high)) (λ id. id <ℤ high) (λ id both. both.1) ids lead.1);
}
  where
    apart : (x y low : ℤ) → x <ℤ low → low ≤ℤ y → x ≡ y → ⊥
    apart x y low below from same = omega (arith, ints)

-- those of all entries
all_given : (state : State) (entries : List Entry) (so_far : List ℤ) → IsRight state → AreLegal state entries → AreGiven state.next so_far
    → AreGiven (state_after state entries).next (so_far ++ flat_map ids_given_by entries)
unfolding AreLegal state_after
all_given state [] so_far right legal given = rw (append-nil so_far) given
all_given state (entry ∷ entries) so_far right legal given =
    let leads = step state entry right legal.0 in
    rw (← append_assoc so_far (ids_given_by entry) (flat_map ids_given_by entries))
    (all_given (applied state entry) entries (so_far ++ ids_given_by entry) leads.right legal.1 (one_more state.next (applied state entry).next so_far (ids_given_by entry) given leads.ids))

-- those of a history
pub given_in : (start : State) (entries : List Entry) (end : State) → IsRising start.rows → IsHistory start entries end → AreGiven end.next (ids_given start entries)
given_in start entries end rising history =
    let right = right_opening start history.opening in
    rw history.state
    (all_given start entries (keys_of start.rows) right history.legal (record { distinct = distinct_from_sorted (keys_of start.rows) rising; below = right.below }))
