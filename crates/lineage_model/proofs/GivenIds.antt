-- Which rows the ids of a legal entry go to.
use Rattle.std.proofs.Common.{◌≡◌, ◌≢◌, ℕ, ◌==◌, ℤ, Bool, true, false, not, length, eqb-true, ◌&&◌, List, []}
use Rattle.std.proofs.Common.{AllPairs, Option, Some, None, ap, ◌∙◌, arith, if◌then◌else◌}
use Rattle.std.specs.List.{slice_get}
use Rattle.std.proofs.lemmas.Bool.{and_parts, not-false}
use Rattle.row_types.specs.RowMap.{row_at}
use Rattle.row_types.specs.declared.cell.Cell.{Cell}
use Rattle.history_types.specs.declared.request.Request.{Request}
use Rattle.history_types.specs.declared.request.Request.TheVariants.{Append, Compact, Upgrade}
use Rattle.history_types.specs.declared.entry.Entry.{Entry}
use Rattle.history_types.specs.declared.state.State.{State}
use Rattle.lineage_model.specs.Ids.{ids_of}
use Rattle.lineage_model.specs.Step.{gives_ids, broken_rule, appended, are_fresh, ids_given_by, applied, committed_to}
use Rattle.lineage_model.specs.Step.{appended_to, LegalStep}
use Rattle.lineage_model.proofs.Cases.{by_request}
use Rattle.lineage_model.proofs.Distinct.{distinct_from_rising}
use Rattle.lineage_model.proofs.GoTo.{adding, GoTo, committed}
use Rattle.lineage_model.proofs.Rules.{kept}

-- the rows that a request appends
abbrev pub added : Request → List (List Cell)
added (Append rows) = rows
added (Compact paths) = []
added Upgrade = []

-- fresh ids differ
differ_from_fresh : (low high : Option ℤ) (ids : List ℤ) → are_fresh low high ids ≡ true → AllPairs (λ a b. a ≢ b) ids
differ_from_fresh None high ids fresh = absurd (grind arith)
differ_from_fresh (Some low) None ids fresh = absurd (grind arith)
differ_from_fresh (Some low) (Some high) ids fresh =
    let both = and_parts _ _ fresh in
    let rising = and_parts _ _ both.0 in
    distinct_from_rising ids rising.0

-- a test that holds beside one that fails
other_fails : (a b : Bool) → a ≡ true → (a && b) ≡ false → b ≡ false
other_fails true b holds test = test
other_fails false b holds test = absurd (grind arith)

-- it is one of version 3
in_three : (three : Bool) (state : State) (entry : Entry) (adds : List (List Cell)) → three ≡ true → AllPairs (λ a b. a ≢ b) (ids_given_by entry)
    → GoTo state entry adds (if three then committed_to state entry (adding adds) else appended_to state entry (adding adds))
in_three true state entry adds is differ = committed state entry adds differ
in_three false state entry adds is differ = absurd (grind arith)

-- an entry that gives ids
abbrev GivesIds : State → Entry → Type 0
GivesIds state entry = gives_ids state entry.request ≡ true → AllPairs (λ a b. a ≢ b) (ids_given_by entry) → GoTo state entry (added entry.request) (applied state entry)

-- each entry, so far as it gives ids
gives : (state : State) (entry : Entry) → GivesIds state entry
unfolding applied
gives state = λ entry. by_request (GivesIds state) entry
    (λ rows is differ. in_three (state.version == 3) state (record entry { request = Append rows }) rows (and_parts _ _ is).0 differ)
    (λ paths is differ. in_three (state.version == 3) state (record entry { request = Compact paths }) [] (and_parts _ _ is).0 differ)
    (λ is differ. absurd (no_upgrade (state.version == 3) is))
  where
    no_upgrade : (three : Bool) → (three && false) ≡ true → ⊥
    no_upgrade true is = absurd (grind arith)
    no_upgrade false is = absurd (grind arith)

-- a legal entry that gives ids
pub go_to : (before : State) (entry : Entry) (after : State) → LegalStep before entry after → gives_ids before entry.request ≡ true → GoTo before entry (added entry.request) after
go_to before entry after step is =
    let fresh = not-false _ (other_fails (gives_ids before entry.request) _ is (kept before entry step.legal).fresh) in
    rw step.state (gives before entry is (differ_from_fresh before.next entry.next (ids_given_by entry) fresh))

-- the rows that an entry appends, by its request
pub given_to : (before : State) (entry : Entry) (after : State) → GoTo before entry (added entry.request) after → (rows : List (List Cell)) (j : ℕ) (id : ℤ) (cells : List Cell) → entry.request ≡ Append rows
    → slice_get (ids_of entry.given) j ≡ Some id → slice_get rows j ≡ Some cells → row_at after.rows id ≡ Some (after.seq, cells)
given_to before entry after go rows j id cells is has_id has_cells =
    go.given j id cells has_id (ap (λ request. slice_get (added request) j) is ∙ has_cells)

-- an entry that gives ids gives as many as are wanted
as_many : (gives_them : Bool) (given wanted : ℕ) → gives_them ≡ true → not (given == (if gives_them then wanted else 0)) ≡ false → given ≡ wanted
as_many true given wanted is test = eqb-true given wanted (not-false _ test)
as_many false given wanted is test = absurd (grind arith)

-- it names as many rows as have no id
pub as_many_named : (before : State) (entry : Entry) → broken_rule before entry ≡ None → gives_ids before entry.request ≡ true → length (ids_of entry.named) ≡ length before.unnamed
as_many_named before entry legal is = as_many (gives_ids before entry.request) (length (ids_of entry.named)) (length before.unnamed) is (kept before entry legal).named

-- and gives ids to as many as it appends
pub as_many_given : (before : State) (entry : Entry) → broken_rule before entry ≡ None → gives_ids before entry.request ≡ true → (rows : List (List Cell)) → entry.request ≡ Append rows → length (ids_of entry.given) ≡ length rows
as_many_given before entry legal is rows same =
    as_many (gives_ids before entry.request) (length (ids_of entry.given)) (appended entry.request) is (kept before entry legal).given ∙ ap appended same
