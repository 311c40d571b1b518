-- Behind an entry of version 3 that gives ids a history may begin.
use Rattle.std.proofs.Common.{ℤ, pos, ◌+ℤ◌, ◌<ℤ◌, ◌≤ℤ◌, List, ◌++◌, map, All, Option, Some, None, refl, arith}
use Rattle.std.specs.Map.{values_of}
use Rattle.std.proofs.lemmas.Bool.{or_right}
use Rattle.std.proofs.lemmas.Int.{ints}
use Rattle.std.proofs.lemmas.List.Elements.{All-nil, All-weaker}
use Rattle.row_types.specs.declared.cell.Cell.{Cell}
use Rattle.history_types.specs.declared.entry.Entry.{Entry}
use Rattle.history_types.specs.declared.state.State.{State}
use Rattle.lineage_model.specs.Ids.{ids_of}
use Rattle.lineage_model.specs.Rows.{stamped, under}
use Rattle.lineage_model.specs.Step.{ids_given_by, committed_to}
use Rattle.lineage_model.proofs.Distinct.{All-first, All-second}
use Rattle.lineage_model.proofs.FirstIds.{HasFirst}
use Rattle.lineage_model.proofs.GoTo.{adding}
use Rattle.lineage_model.proofs.LastChanges.{FromZero, IsLast}
use Rattle.lineage_model.proofs.LaterLasts.{All-values-with_rows, All-values-under, later, now}
use Rattle.lineage_model.proofs.Leads.{LeadTo}
use Rattle.lineage_model.proofs.MayBegin.{MayBegin}
use Rattle.lineage_model.proofs.Right.{IsRight}
use Rattle.lineage_model.proofs.RowLemmas.{All-with_rows, All-under}

-- ids from a next one on are from 0 on
fresh_from_zero : (low : ℤ) (next : Option ℤ) (ids : List ℤ) → FromZero low → LeadTo (Some low) next ids → All FromZero ids × HasFirst next
fresh_from_zero low None ids from lead = absurd lead
fresh_from_zero low (Some high) ids from lead =
    (All-weaker (λ id. (low ≤ℤ id) × (id <ℤ high)) FromZero (λ id both. omega (arith, ints, both.0)) ids lead.1, omega (arith, ints, lead.2))

-- a committed entry of version 3 that only adds rows
pub commits : (low : ℤ) (next : Option ℤ) (state : State) (entry : Entry) (adds : List (List Cell)) → MayBegin (record state { version = 3; next = Some low }) → LeadTo (Some low) next (ids_given_by entry)
    → IsRight (committed_to (record state { version = 3; next = Some low }) (record entry { next = next }) (adding adds)) → MayBegin (committed_to (record state { version = 3; next = Some low }) (record entry { next = next }) (adding adds))
commits low next state entry adds may lead right =
    let names = ids_of entry.named in
    let news = ids_of entry.given in
    let seq = state.seq +ℤ pos 1 in
    let rows = map (stamped seq) adds in
    let fresh = fresh_from_zero low next (names ++ news) may.next lead in
    let old = later state.seq (values_of state.rows) may.lasts in
    let unnamed = later state.seq state.unnamed may.unnamed in
    let named_ids = All-with_rows FromZero state.rows (under names state.unnamed) may.ids (All-under FromZero names state.unnamed (All-first FromZero names news fresh.0)) in
    let named_lasts = All-values-with_rows (IsLast seq) state.rows (under names state.unnamed) old (All-values-under (IsLast seq) names state.unnamed unnamed) in
    record {
      right = right;
      next = fresh.1;
      seq = omega (arith, ints, may.seq);
      ids = All-with_rows FromZero _ (under news rows) named_ids (All-under FromZero news rows (All-second FromZero names news fresh.0));
      lasts = All-values-with_rows (IsLast seq) _ (under news rows) named_lasts (All-values-under (IsLast seq) news rows (now state.seq adds may.seq));
      unnamed = All-nil (IsLast seq);
      one_kind = or_right _ _ refl;
    }
