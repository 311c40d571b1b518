-- The numbers of a state are enough for the rules, and for the numbers of the next one.
use Rattle.std.proofs.Common.{◌≡◌, ◌≢◌, ℕ, suc, ◌+◌, ◌==◌, ℤ, pos, ◌+ℤ◌, ◌<ℤ◌, ◌≤ℤ◌, true, false, not, List, [], ◌∷◌, ◌++◌}
use Rattle.std.proofs.Common.{length, map, get_or, All, AllPairs, Option, Some, None, Ordering, Less, Equal, Greater, int_cmp, refl, sym}
use Rattle.std.proofs.Common.{ap, ◌∙◌, arith, length-append, eqb-true, true≢false}
use Rattle.std.specs.Prelude.{replicate}
use Rattle.std.specs.Map.{keys_of}
use Rattle.std.specs.Ordering.{match_ordering}
use Rattle.std.proofs.lemmas.Bool.{not-false}
use Rattle.std.proofs.lemmas.Cmp.{int_ranked}
use Rattle.std.proofs.lemmas.Int.{ints}
use Rattle.std.proofs.lemmas.List.{length-replicate, length-map}
use Rattle.std.proofs.lemmas.List.Elements.{All-head, All-tail, All-weaker}
use Rattle.std.proofs.lemmas.Map.Views.{All-keys-insert_entry}
use Rattle.std.proofs.lemmas.Option.{slice_get-get_or}
use Rattle.row_types.specs.RowMap.{NamedRow, UnnamedRow, with_row}
use Rattle.row_types.specs.declared.cell.Cell.{Cell}
use Rattle.history_types.specs.declared.entry.Entry.{Entry}
use Rattle.history_types.specs.declared.state.State.{State}
use Rattle.lineage_model.specs.Ids.{ids_of, is_rising}
use Rattle.lineage_model.specs.Rows.{stamped, under, with_rows}
use Rattle.lineage_model.specs.Opening.{is_empty, is_opening}
use Rattle.lineage_model.specs.Step.{broken_rule, applied, ids_given_by, named_rows, rows_after, committed_to}
use Rattle.lineage_model.specs.History.{IsBelow, AreLegal, state_after}
use Rattle.lineage_model.specs.Tally.{tally_of, blank_row, rule_broken, counted}
use Rattle.lineage_model.proofs.Cases.{by_request, by_version}
use Rattle.lineage_model.proofs.Distinct.{All-first, All-second, distinct_from_rising}
use Rattle.lineage_model.proofs.EndsMayBegin.{end_may_begin}
use Rattle.lineage_model.proofs.GoTo.{adding}
use Rattle.lineage_model.proofs.Leads.{LeadTo, lead_from_test}
use Rattle.lineage_model.proofs.Pairs.{first_differs, rest_differ, first_pairs, second_pairs, pairs_across}
use Rattle.lineage_model.proofs.Right.{right_opening}
use Rattle.lineage_model.proofs.RowLemmas.{All-under, All-with_rows}
use Rattle.lineage_model.proofs.Rules.{Kept, kept}

-- ---- the rules

-- lists of one length are empty alike
same_empty : {X : Type 0} (xs ys : List X) → length xs ≡ length ys → is_empty xs ≡ is_empty ys
same_empty [] [] same = refl
same_empty [] (y ∷ ys) same = absurd (omega (arith, same))
same_empty (x ∷ xs) [] same = absurd (omega (arith, same))
same_empty (x ∷ xs) (y ∷ ys) same = refl

-- the rows without id, but for their number, and those with ids don't matter
rows_apart : (state : State) (unnamed : List UnnamedRow) (rows : List NamedRow) (entry : Entry) → length unnamed ≡ length state.unnamed
    → broken_rule (record { version = state.version; unnamed = unnamed; rows = rows; next = state.next; seq = state.seq }) entry ≡ broken_rule state entry
unfolding broken_rule
rows_apart state unnamed rows entry same =
    by_request (λ e. broken_rule (record { version = state.version; unnamed = unnamed; rows = rows; next = state.next; seq = state.seq }) e ≡ broken_rule state e) entry
    (λ added. rw same refl)
    (λ paths. rw (same_empty unnamed state.unnamed same, same) refl)
    (rw same refl)

-- so the numbers say which rule is broken
pub rules_by_numbers : (state : State) (entry : Entry) → rule_broken (tally_of state) entry ≡ broken_rule state entry
rules_by_numbers state entry =
    rows_apart state (replicate (length state.unnamed) blank_row) (replicate (length state.rows) (pos 0, blank_row)) entry (length-replicate (length state.unnamed) blank_row)

-- ---- rows at new ids

-- a row at a new id is one more
one_more : (rows : List NamedRow) (id : ℤ) (row : UnnamedRow) → All (λ other. id ≢ other) (keys_of rows) → length (with_row rows id row) ≡ suc (length rows)
one_more [] id row new = refl
one_more (first ∷ rows) id row new = at_place (int_cmp id first.0) refl (one_more rows id row (All-tail (λ other. id ≢ other) first.0 (keys_of rows) new))
  where
    at_place : (place : Ordering) → int_cmp id first.0 ≡ place → length (with_row rows id row) ≡ suc (length rows)
        → length (match_ordering place ((id, row) ∷ first ∷ rows) ((first.0, row) ∷ rows) (first ∷ with_row rows id row)) ≡ suc (suc (length rows))
    at_place Less is later = refl
    at_place Equal is later = absurd (All-head (λ other. id ≢ other) first.0 (keys_of rows) new (int_ranked id first.0 Equal (sym is)))
    at_place Greater is later = ap suc later

-- ids that differ from each other and from those of the rows
pub record AreNew (rows : List NamedRow) (ids : List ℤ) : Type 0 where
  pub distinct : AllPairs (λ a b. a ≢ b) ids
  pub apart : All (λ id. All (λ other. id ≢ other) (keys_of rows)) ids

-- behind a row at the first of them the others are still new
still_new : (rows : List NamedRow) (id : ℤ) (row : UnnamedRow) (ids : List ℤ) → AreNew rows (id ∷ ids) → AreNew (with_row rows id row) ids
still_new rows id row ids new = record {
  distinct = rest_differ id ids new.distinct;
  apart = λ k d within.
      let here = All-tail (λ id. All (λ other. id ≢ other) (keys_of rows)) id ids new.apart k d within in
      let from_first : id ≢ get_or ids k d = first_differs id ids new.distinct k d within in
      All-keys-insert_entry int_cmp id row (λ other. get_or ids k d ≢ other) rows here (λ same. from_first (sym same));
}

-- as many rows come as have ids
pub all_more : (rows : List NamedRow) (ids : List ℤ) (new : List UnnamedRow) → AreNew rows ids → length ids ≡ length new → length (with_rows rows (under ids new)) ≡ length rows + length new
all_more rows [] [] are same = omega arith
all_more rows [] (row ∷ new) are same = absurd (omega (arith, same))
all_more rows (id ∷ ids) [] are same = absurd (omega (arith, same))
all_more rows (id ∷ ids) (row ∷ new) are same =
    let first = one_more rows id row (All-head (λ id. All (λ other. id ≢ other) (keys_of rows)) id ids are.apart) in
    let others = all_more (with_row rows id row) ids new (still_new rows id row ids are) (omega (arith, same)) in
    omega (arith, first, others)

-- ---- the ids of an entry that leads on

-- ids that differ from others, seen from the others
seen_from : (xs ys : List ℤ) → All (λ x. All (λ y. x ≢ y) ys) xs → All (λ y. All (λ x. y ≢ x) xs) ys
seen_from xs ys all k d within = λ j e inside same. all j e inside k d within (sym same)

-- the ids of the first list differ from those of the second
across : (xs ys : List ℤ) → AllPairs (λ a b. a ≢ b) (xs ++ ys) → All (λ x. All (λ y. x ≢ y) ys) xs
across xs ys differ j e inside = pairs_across xs ys j (get_or xs j e) differ (slice_get-get_or xs j e inside)

-- ids from a number on are none of those below it
above : (low high : ℤ) (rows : List NamedRow) (ids : List ℤ) → All (λ id. id <ℤ low) (keys_of rows) → All (λ id. (low ≤ℤ id) × (id <ℤ high)) ids → All (λ id. All (λ other. id ≢ other) (keys_of rows)) ids
above low high rows ids below from =
    All-weaker (λ id. (low ≤ℤ id) × (id <ℤ high)) (λ id. All (λ other. id ≢ other) (keys_of rows)) (λ id both. All-weaker (λ other. other <ℤ low) (λ other. id ≢ other) (λ other under_low same. apart id other low under_low both.0 same) (keys_of rows) below) ids from
  where
    apart : (id other low : ℤ) → other <ℤ low → low ≤ℤ id → id ≡ other → ⊥
    apart id other low under_low from_low same = omega (arith, ints)

-- the rows behind an entry of version 3 that only adds rows
pub committed_rows : (low : ℤ) (next : Option ℤ) (state : State) (entry : Entry) (adds : List (List Cell)) → LeadTo (Some low) next (ids_given_by entry) → All (IsBelow (Some low)) (keys_of state.rows)
    → length (ids_of entry.named) ≡ length state.unnamed → length (ids_of entry.given) ≡ length adds
    → length (rows_after state entry (adding adds)) ≡ length state.rows + length state.unnamed + length adds
committed_rows low None state entry adds lead below named given = absurd lead
committed_rows low (Some high) state entry adds lead below named given =
    let names = ids_of entry.named in
    let news = ids_of entry.given in
    let rows = map (stamped (state.seq +ℤ pos 1)) adds in
    let with_names = named_rows state entry (adding adds) in
    let differ = distinct_from_rising (names ++ news) lead.0 in
    let Between = λ (id : ℤ). (low ≤ℤ id) × (id <ℤ high) in
    let names_apart = above low high state.rows names below (All-first Between names news lead.1) in
    let news_apart_old = above low high state.rows news below (All-second Between names news lead.1) in
    let news_apart_names = seen_from names news (across names news differ) in
    let news_apart : All (λ id. All (λ other. id ≢ other) (keys_of with_names)) news = λ k d within.
    All-with_rows (λ other. get_or news k d ≢ other) state.rows (under names state.unnamed) (news_apart_old k d within)
    (All-under (λ other. get_or news k d ≢ other) names state.unnamed (news_apart_names k d within)) in
    let first : length with_names ≡ length state.rows + length state.unnamed = all_more state.rows names state.unnamed (record { distinct = first_pairs names news differ; apart = names_apart }) named in
    let second : length (rows_after state entry (adding adds)) ≡ length with_names + length rows = all_more with_names news rows (record { distinct = second_pairs names news differ; apart = news_apart }) (given ∙ sym (length-map adds (stamped (state.seq +ℤ pos 1)))) in
    omega (arith, first, second, length-map adds (stamped (state.seq +ℤ pos 1)))

-- ---- a legal step

-- the numbers behind an entry that keeps the rules are counted
abbrev CountsFrom : State → Entry → Type 0
CountsFrom state entry = All (IsBelow state.next) (keys_of state.rows) → Kept state entry → tally_of (applied state entry) ≡ counted (tally_of state) entry

-- a number of rows that has to be as many
as_many : (found wanted : ℕ) → not (found == wanted) ≡ false → found ≡ wanted
as_many found wanted test = eqb-true found wanted (not-false _ test)

-- in version 2
counts_two : (state : State) (entry : Entry) → CountsFrom (record state { version = 2; next = None }) entry
unfolding applied
counts_two state = λ entry. by_request (CountsFrom (record state { version = 2; next = None })) entry
    (λ rows below kept.
    let more : length (state.unnamed ++ map (stamped (state.seq +ℤ pos 1)) rows) ≡ length state.unnamed + length rows = length-append _ _ ∙ ap (λ n. length state.unnamed + n) (length-map rows (stamped (state.seq +ℤ pos 1))) in
    ap (λ n. record { version = 2; unnamed = n; rows = length state.rows; next = entry.next; seq = state.seq +ℤ pos 1 }) more)
    (λ paths below kept. absurd (true≢false kept.version))
    (λ below kept. refl)

-- in version 3
counts_three : (state : State) (low : ℤ) (entry : Entry) → CountsFrom (record state { version = 3; next = Some low }) entry
unfolding applied
counts_three state low = λ entry. by_request (CountsFrom (record state { version = 3; next = Some low })) entry
    (λ rows below kept. at_rows entry rows (lead_from_test low entry.next (ids_given_by entry) kept.next kept.fresh) below (as_many _ _ kept.named) (as_many _ _ kept.given))
    (λ paths below kept. at_rows entry [] (lead_from_test low entry.next (ids_given_by entry) kept.next kept.fresh) below (as_many _ _ kept.named) (as_many _ _ kept.given))
    (λ below kept. absurd (true≢false kept.version))
  where
    at_rows : (entry : Entry) (adds : List (List Cell)) → LeadTo (Some low) entry.next (ids_given_by entry) → All (IsBelow (Some low)) (keys_of state.rows)
        → length (ids_of entry.named) ≡ length state.unnamed → length (ids_of entry.given) ≡ length adds
        → tally_of (committed_to (record state { version = 3; next = Some low }) entry (adding adds))
        ≡ record { version = 3; unnamed = 0; rows = length state.rows + length state.unnamed + length adds; next = entry.next; seq = state.seq +ℤ pos 1 }
    at_rows entry adds lead below named given =
        ap (λ n. record { version = 3; unnamed = 0; rows = n; next = entry.next; seq = state.seq +ℤ pos 1 }) (committed_rows low entry.next (record state { version = 3; next = Some low }) entry adds lead below named given)

-- behind a legal entry
pub numbers_behind : (state : State) (entry : Entry) → is_opening state ≡ true → broken_rule state entry ≡ None → tally_of (applied state entry) ≡ counted (tally_of state) entry
numbers_behind state entry opening legal =
    let right = right_opening state opening in
    by_version (λ s. CountsFrom s entry) state right.next (counts_two state entry) (λ low. counts_three state low entry) right.below (kept state entry legal)

-- a history may begin there
pub opens_behind : (state : State) (entry : Entry) → is_opening state ≡ true → broken_rule state entry ≡ None → is_opening (applied state entry) ≡ true
unfolding AreLegal state_after
opens_behind state entry opening legal =
    end_may_begin state (entry ∷ []) (applied state entry) (record { opening = opening; legal = (legal, tt); state = refl })
