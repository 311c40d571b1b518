-- What an entry that breaks no rule has.
use Rattle.std.proofs.Common.{◌≡◌, ℕ, zero, suc, ◌<◌, ◌==◌, ℤ, pos, ◌+ℤ◌, ◌<ℤ◌, Bool, true, false, List, [], ◌∷◌}
use Rattle.std.proofs.Common.{◌++◌, length, get_or, refl, sym, ◌∙◌, arith}
use Rattle.std.specs.Prelude.{int_lt, not, ◌&&◌, if◌then◌else◌, is_some}
use Rattle.std.specs.Option.{is_none as is_absent}
use Rattle.std.specs.Ordering.{int_eq}
use Rattle.std.specs.declared.option.Option.{Option}
use Rattle.std.specs.declared.option.Option.TheVariants.{None, Some}
use Rattle.std.specs.List.{All, list_all}
use Rattle.std.proofs.lemmas.Bool.{and_parts, true≢false, not-false}
use Rattle.std.proofs.lemmas.Bool.Decides.{Decides-int_eq}
use Rattle.std.proofs.lemmas.Int.{ints}
use Rattle.std.proofs.lemmas.List.Folds.{list_all-append}
use Rattle.history_types.specs.declared.entry.Entry.{Entry}
use Rattle.history_types.specs.declared.state.State.{State}
use Rattle.lineage_model.specs.declared.rule.Rule.{Rule}
use Rattle.lineage_model.specs.declared.rule.Rule.TheVariants as rules
use Rattle.lineage_model.specs.Ids.{ids_of, is_rising}
use Rattle.lineage_model.specs.Opening.{is_between}
use Rattle.lineage_model.specs.Step.{is_upgrade, is_this, are_fresh, ids_given_by, breaks_version, breaks_unnamed}
use Rattle.lineage_model.specs.Step.{breaks_seq, breaks_next, breaks_named, breaks_given, breaks_fresh, broken_rule}
use Rattle.history_log.proofs.RisingLemmas.{below_to}

-- where no rule is told, the first one is kept
first_kept : (breaks : Bool) (rule : Rule) (others : Option Rule) → (if breaks then Some rule else others) ≡ None → (breaks ≡ false) × (others ≡ None)
first_kept true rule others none = absurd cc
first_kept false rule others none = (refl, none)

-- the rules of the numbers
record Keeps (state : State) (entry : Entry) : Type 0 where
  pub seq : breaks_seq state entry ≡ false
  pub next : breaks_next state entry ≡ false
  pub fresh : breaks_fresh state entry ≡ false

keeps : (state : State) (entry : Entry) → broken_rule state entry ≡ None → Keeps state entry
unfolding broken_rule
keeps state entry none =
    let version = first_kept (breaks_version state entry.request) rules.Version _ none in
    let unnamed = first_kept (breaks_unnamed state entry.request) rules.Unnamed _ version.1 in
    let seq = first_kept (breaks_seq state entry) rules.Seq _ unnamed.1 in
    let next = first_kept (breaks_next state entry) rules.Next _ seq.1 in
    let named = first_kept (breaks_named state entry) rules.Named _ next.1 in
    let given = first_kept (breaks_given state entry) rules.Given _ named.1 in
    let fresh = first_kept (breaks_fresh state entry) rules.Fresh _ given.1 in
    record { seq = seq.0; next = next.0; fresh = fresh.0 }

-- without a sequence number it is an upgrade
upgrade_without : (upgrade : Bool) (number : ℤ) (seq : Option ℤ) → (if upgrade then is_some seq else not (is_this number seq)) ≡ false → seq ≡ None → upgrade ≡ true
upgrade_without true number seq kept none = refl
upgrade_without false number None kept none = absurd (true≢false kept)
upgrade_without false number (Some found) kept none = absurd cc

-- a sequence number is the next one, and it is no upgrade
next_seq : (upgrade : Bool) (number : ℤ) (seq : Option ℤ) (found : ℤ) → (if upgrade then is_some seq else not (is_this number seq)) ≡ false → seq ≡ Some found → (upgrade ≡ false) × (found ≡ number)
next_seq true number None found kept is = absurd cc
next_seq true number (Some other) found kept is = absurd (true≢false kept)
next_seq false number None found kept is = absurd cc
next_seq false number (Some other) found kept is =
    let same : other ≡ number = (Decides-int_eq other number).0 (not-false (int_eq other number) kept) in
    let equal : other ≡ found = cc in
    (refl, sym equal ∙ same)

-- in version 3 there is a next id
next_id : (upgrade : Bool) (version : ℕ) (next : Option ℤ) → (if (if upgrade then 3 else version) == 2 then is_some next else (if upgrade then not (is_this (pos 0) next) else is_absent next)) ≡ false → upgrade ≡ false → version ≡ 3 → next ≡ None → ⊥
next_id upgrade version next kept no_upgrade three none =
    let seen : true ≡ false = rw (no_upgrade, three, none) at kept in
    true≢false seen

-- in version 3 the ids are fresh
fresh_ids : (upgrade : Bool) (version : ℕ) (low high : Option ℤ) (ids : List ℤ) → ((version == 3 && not upgrade) && not (are_fresh low high ids)) ≡ false → upgrade ≡ false → version ≡ 3 → are_fresh low high ids ≡ true
fresh_ids upgrade version low high ids kept no_upgrade three =
    let seen : not (are_fresh low high ids) ≡ false = rw (no_upgrade, three) at kept in
    not-false _ seen

-- fresh ids are below each number that the new next id is below
all_below : (low high top : ℤ) (ids : List ℤ) → high <ℤ top → list_all (is_between low high) ids ≡ true → (k : ℕ) (d : ℤ) → k < length ids → get_or ids k d <ℤ top
all_below low high top [] small all k d within = absurd (omega arith)
all_below low high top (id ∷ ids) small all zero d within =
    let here = (and_parts (is_between low high id) (list_all (is_between low high) ids) all).0 in
    let below : id <ℤ high = below_to id high (and_parts (not (int_lt id low)) (int_lt id high) here).1 in
    omega (arith, ints)
all_below low high top (id ∷ ids) small all (suc k) d within =
    all_below low high top ids small (and_parts (is_between low high id) (list_all (is_between low high) ids) all).1 k d (omega arith)

fresh_below : (low : Option ℤ) (high top : ℤ) (named given : List ℤ) → high <ℤ top → are_fresh low (Some high) (named ++ given) ≡ true → All (λ id. id <ℤ top) named × All (λ id. id <ℤ top) given
fresh_below None high top named given small fresh = absurd (true≢false (sym fresh))
fresh_below (Some low) high top named given small fresh =
    let two = and_parts (is_rising (named ++ given) && list_all (is_between low high) (named ++ given)) (not (int_lt high low)) fresh in
    let all = (and_parts (is_rising (named ++ given)) (list_all (is_between low high) (named ++ given)) two.0).1 in
    let parts = and_parts (list_all (is_between low high) named) (list_all (is_between low high) given) (sym (list_all-append (is_between low high) named given) ∙ all) in
    (all_below low high top named small parts.0, all_below low high top given small parts.1)

-- an entry without a sequence number
pub is_an_upgrade : (state : State) (entry : Entry) → broken_rule state entry ≡ None → entry.seq ≡ None → is_upgrade entry.request ≡ true
is_an_upgrade state entry legal none = upgrade_without (is_upgrade entry.request) (state.seq +ℤ pos 1) entry.seq (keeps state entry legal).seq none

-- an entry with one
pub is_numbered : (state : State) (entry : Entry) (seq : ℤ) → broken_rule state entry ≡ None → entry.seq ≡ Some seq → (is_upgrade entry.request ≡ false) × (seq ≡ state.seq +ℤ pos 1)
is_numbered state entry seq legal is = next_seq (is_upgrade entry.request) (state.seq +ℤ pos 1) entry.seq seq (keeps state entry legal).seq is

-- in version 3 that one has a next id
pub has_next : (state : State) (entry : Entry) (seq : ℤ) → broken_rule state entry ≡ None → entry.seq ≡ Some seq → state.version ≡ 3 → entry.next ≡ None → ⊥
has_next state entry seq legal is three none = next_id (is_upgrade entry.request) state.version entry.next (keeps state entry legal).next (is_numbered state entry seq legal is).0 three none

-- and all its ids are below what that is below
pub ids_below : (state : State) (entry : Entry) (seq next top : ℤ) → broken_rule state entry ≡ None → entry.seq ≡ Some seq → state.version ≡ 3 → entry.next ≡ Some next → next <ℤ top → All (λ id. id <ℤ top) (ids_of entry.named) × All (λ id. id <ℤ top) (ids_of entry.given)
ids_below state entry seq next top legal is three next_is small =
    let fresh = fresh_ids (is_upgrade entry.request) state.version state.next entry.next (ids_given_by entry) (keeps state entry legal).fresh (is_numbered state entry seq legal is).0 three in
    fresh_below state.next next top (ids_of entry.named) (ids_of entry.given) small (rw next_is at fresh)
