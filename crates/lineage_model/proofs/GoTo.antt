-- Which rows the ids of an entry go to, where it is one of version 3.
use Rattle.std.proofs.Common.{◌≡◌, ◌≢◌, ℕ, ℤ, pos, ◌+ℤ◌, List, [], ◌++◌, map, All, AllPairs, Some, refl, sym, ◌∙◌}
use Rattle.std.specs.List.{slice_get}
use Rattle.std.proofs.lemmas.List.Elements.{All-weaker}
use Rattle.std.proofs.lemmas.Option.{slice_get-map}
use Rattle.row_types.specs.RowMap.{UnnamedRow, row_at}
use Rattle.row_types.specs.declared.cell.Cell.{Cell}
use Rattle.history_types.specs.declared.entry.Entry.{Entry}
use Rattle.history_types.specs.declared.state.State.{State}
use Rattle.lineage_model.specs.Ids.{ids_of}
use Rattle.lineage_model.specs.Rows.{stamped, under}
use Rattle.lineage_model.specs.Asked.{Asked}
use Rattle.lineage_model.specs.Step.{ids_given_by, named_rows, committed_to}
use Rattle.lineage_model.proofs.Distinct.{All-first, All-second}
use Rattle.lineage_model.proofs.Pairs.{first_pairs, second_pairs, pairs_across}
use Rattle.lineage_model.proofs.Placed.{row_at-under}
use Rattle.lineage_model.proofs.RowLemmas.{All-under, row_at-with_rows}

-- an entry that only adds rows
abbrev pub adding : List (List Cell) → Asked
adding adds = record { adds = adds; changes = []; removes = [] }

-- which rows the ids go to
pub record GoTo (before : State) (entry : Entry) (adds : List (List Cell)) (after : State) : Type 0 where
  pub named : (i : ℕ) (id : ℤ) (row : UnnamedRow) → slice_get (ids_of entry.named) i ≡ Some id → slice_get before.unnamed i ≡ Some row → row_at after.rows id ≡ Some row
  pub given : (j : ℕ) (id : ℤ) (cells : List Cell) → slice_get (ids_of entry.given) j ≡ Some id → slice_get adds j ≡ Some cells → row_at after.rows id ≡ Some (after.seq, cells)
  pub others : (id : ℤ) → All (λ given. given ≢ id) (ids_given_by entry) → row_at after.rows id ≡ row_at before.rows id
  pub all_named : after.unnamed ≡ []

-- an entry of version 3 whose ids differ
pub committed : (state : State) (entry : Entry) (adds : List (List Cell)) → AllPairs (λ a b. a ≢ b) (ids_given_by entry) → GoTo state entry adds (committed_to state entry (adding adds))
committed state entry adds differ =
    let names = ids_of entry.named in
    let news = ids_of entry.given in
    let seq = state.seq +ℤ pos 1 in
    let rows = map (stamped seq) adds in
    let with_names = named_rows state entry (adding adds) in
    record {
      named = λ i id row has_id has_row.
          let apart = pairs_across names news i id differ has_id in
          row_at-with_rows with_names (under news rows) id (All-under (λ other. id ≢ other) news rows apart)
          ∙ row_at-under state.rows names state.unnamed i id row (first_pairs names news differ) has_id has_row;
      given = λ j id cells has_id has_cells.
          let has_row : slice_get rows j ≡ Some (seq, cells) = rw (slice_get-map (stamped seq) adds j, has_cells) refl in
          row_at-under with_names news rows j id (seq, cells) (second_pairs names news differ) has_id has_row;
      others = λ id others.
          let apart : All (λ other. id ≢ other) (names ++ news) = All-weaker (λ other. other ≢ id) (λ other. id ≢ other) (λ other not_it same. not_it (sym same)) (names ++ news) others in
          row_at-with_rows with_names (under news rows) id (All-under (λ other. id ≢ other) news rows (All-second (λ other. id ≢ other) names news apart))
          ∙ row_at-with_rows state.rows (under names state.unnamed) id (All-under (λ other. id ≢ other) names state.unnamed (All-first (λ other. id ≢ other) names news apart));
      all_named = refl;
    }
