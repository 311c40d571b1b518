-- What an entry that breaks no rule keeps.
use Rattle.std.proofs.Common.{◌≡◌, ℤ, ◌<ℤ◌, ◌≤ℤ◌, int_lt, Bool, true, false, cond, List, All, Option, Some, None}
use Rattle.std.proofs.Common.{refl, arith}
use Rattle.std.specs.List.{list_all}
use Rattle.std.proofs.lemmas.Bool.{and_parts, not-true}
use Rattle.std.proofs.lemmas.Int.{ints}
use Rattle.std.proofs.lemmas.List.Elements.{All-weaker}
use Rattle.std.proofs.lemmas.List.Sums.{AllPass-from_list_all}
use Rattle.history_types.specs.declared.entry.Entry.{Entry}
use Rattle.history_types.specs.declared.state.State.{State}
use Rattle.lineage_model.specs.declared.rule.Rule.{Rule}
use Rattle.lineage_model.specs.Opening.{is_between}
use Rattle.lineage_model.specs.Step.{broken_rule, breaks_version, breaks_unnamed, breaks_seq, breaks_next}
use Rattle.lineage_model.specs.Step.{breaks_named, breaks_given, breaks_fresh}

-- no rule comes first: the test fails, and none of the others holds
first_kept : (test : Bool) (rule : Rule) (others : Option Rule) → cond test (Some rule) others ≡ None → (test ≡ false) × (others ≡ None)
first_kept true rule others none = absurd (grind arith)
first_kept false rule others none = (refl, none)

-- each rule that the proofs need
pub record Kept (state : State) (entry : Entry) : Type 0 where
  pub version : breaks_version state entry.request ≡ false
  pub unnamed : breaks_unnamed state entry.request ≡ false
  pub next : breaks_next state entry ≡ false
  pub named : breaks_named state entry ≡ false
  pub given : breaks_given state entry ≡ false
  pub fresh : breaks_fresh state entry ≡ false

-- an entry that breaks no rule keeps each one
pub kept : (state : State) (entry : Entry) → broken_rule state entry ≡ None → Kept state entry
unfolding broken_rule
kept state entry none =
    let version = first_kept (breaks_version state entry.request) _ _ none in
    let unnamed = first_kept (breaks_unnamed state entry.request) _ _ version.1 in
    let seq = first_kept (breaks_seq state entry) _ _ unnamed.1 in
    let next = first_kept (breaks_next state entry) _ _ seq.1 in
    let named = first_kept (breaks_named state entry) _ _ next.1 in
    let given = first_kept (breaks_given state entry) _ _ named.1 in
    let fresh = first_kept (breaks_fresh state entry) _ _ given.1 in
    record { version = version.0; unnamed = unnamed.0; next = next.0; named = named.0; given = given.0; fresh = fresh.0 }

-- a number that passes the test is between the two
pub between : (low high id : ℤ) → is_between low high id ≡ true → (low ≤ℤ id) × (id <ℤ high)
between low high id test =
    let parts = and_parts _ _ test in
    let from : int_lt id low ≡ false = not-true _ parts.0 in
    let below : int_lt id high ≡ true = parts.1 in
    (omega (arith, ints), omega (arith, ints))

-- so are all that pass
pub all_between : (low high : ℤ) (ids : List ℤ) → list_all (is_between low high) ids ≡ true → All (λ id. (low ≤ℤ id) × (id <ℤ high)) ids
all_between low high ids test = All-weaker (λ id. is_between low high id ≡ true) _ (between low high) ids (AllPass-from_list_all (is_between low high) ids test)
