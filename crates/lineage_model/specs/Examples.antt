-- What the definitions say of small histories: each claim computes. A row is written without cells.
use Rattle.std.specs.Prelude.{◌≡◌, refl, ℕ, zero, suc, ◌^◌, ◌-◌, ℤ, pos, negsuc, List, [], ◌∷◌, length, map, Option}
use Rattle.std.specs.Prelude.{Some, None, Result, Ok, Err}
use Rattle.row_types.specs.declared.cell.Cell.{Cell}
use Rattle.row_types.specs.RowMap.{UnnamedRow, NamedRow}
use Rattle.history_types.specs.declared.request.Request.{Request}
use Rattle.history_types.specs.declared.request.Request.TheVariants.{Append, Compact, Upgrade}
use Rattle.history_types.specs.declared.entry.Run.{Run}
use Rattle.history_types.specs.declared.entry.Entry.{Entry}
use Rattle.history_types.specs.declared.state.State.{State}
use Rattle.lineage_model.specs.declared.rule.Rule.{Rule}
use Rattle.lineage_model.specs.declared.rule.Rule.TheVariants as rules
use Rattle.lineage_model.specs.Ids.{ids_from, is_rising}
use Rattle.lineage_model.specs.Step.{broken_rule, applied}
use Rattle.lineage_model.specs.History.{IsHistory, AreLegal, state_after, Fault, audited, audited_from}

-- ---- the parts of the examples

-- so many rows without cells
abbrev pub rows : ℕ → List (List Cell)
rows zero = []
rows (suc count) = [] ∷ rows count

-- ids from this one on, so many
abbrev pub ids : ℕ → ℕ → Run
ids first count = record { first = pos first; count = pos count }

-- an entry that asks this, with its sequence number, the ids that it names and gives, and the next id
abbrev pub entry : Request → Option ℤ → List Run → List Run → Option ℤ → Entry
entry request seq named given next =
    record { who = 1; request = request; seq = seq; named = named; given = given; next = next }

-- an append of so many rows, with its sequence number, the ids that it gives, and the next id
abbrev pub append : ℕ → ℕ → List Run → ℕ → Entry
append count seq given next = entry (Append (rows count)) (Some (pos seq)) [] given (Some (pos next))

-- a compaction
abbrev pub compact : ℕ → List Run → ℕ → Entry
compact seq given next = entry (Compact []) (Some (pos seq)) [] given (Some (pos next))

-- a row that changed last at this commit
abbrev pub changed : ℕ → UnnamedRow
changed last = (pos last, [])

-- a state with this version, next id and sequence number, rows without ids, and rows with ids
abbrev pub state : ℕ → Option ℤ → ℤ → List UnnamedRow → List NamedRow → State
state version next seq unnamed named =
    record { version = version; unnamed = unnamed; rows = named; next = next; seq = seq }

-- a new table of version 3, and its first two rows
abbrev pub new : State
new = state 3 (Some (pos 0)) (pos 0) [] []

abbrev pub first : Entry
first = append 2 1 (ids 0 2 ∷ []) 2

-- a table of version 2 with one row, and the entry that makes it one of version 3
abbrev pub old : State
old = state 2 None (pos 2) (changed 1 ∷ []) []

abbrev pub upgrade : Entry
upgrade = entry Upgrade None [] [] (Some (pos 0))

-- that row gets the id 0, and a row is added
abbrev pub named : Entry
named = entry (Append (rows 1)) (Some (pos 3)) (ids 0 1 ∷ []) (ids 1 1 ∷ []) (Some (pos 2))

-- ---- each row keeps its id and its last change

-- a table of version 2 is upgraded, its row gets the id 0 and a row comes, and both move to a new file
pub rows_keep_their_ids : IsHistory old (upgrade ∷ named ∷ compact 4 [] 2 ∷ [])
    (state 3 (Some (pos 2)) (pos 4) [] ((pos 0, changed 1) ∷ (pos 1, changed 3) ∷ []))
unfolding broken_rule applied is_rising ids_from AreLegal state_after
rows_keep_their_ids = record { opening = refl; legal = (refl, (refl, (refl, tt))); state = refl }

-- ---- what is said of small histories

-- of a legal one its version, its rows with ids and without, its next id and its sequence number; else its fault
abbrev pub Said : Type 0
Said = Result (ℕ × ℕ × ℕ × Option ℤ × ℤ) Fault

abbrev pub said : Result State Fault → Said
said (Err fault) = Err fault
said (Ok end) = Ok (end.version, length end.rows, length end.unnamed, end.next, end.seq)

-- the entry, counted from 1, breaks the rule first; entry 0 is the state at the start
abbrev pub broken : ℕ → Rule → Said
broken place rule = Err (record { entry = place; rule = rule })

-- histories, each by the state at its start, its entries, and what is said of it
abbrev pub Cases : Type 0
Cases = List (State × List Entry × Said)

abbrev pub found : Cases → List Said
found cases = map (λ (case : State × List Entry × Said). said (audited case.0 case.1)) cases

abbrev pub wanted : Cases → List Said
wanted cases = map (λ (case : State × List Entry × Said). case.2) cases

-- a new table
abbrev pub of_a_new_table : Cases
of_a_new_table =
    -- no entry
    (new, [], Ok (3, 0, 0, Some (pos 0), pos 0)) ∷
    -- two appends
    (new, first ∷ append 3 2 (ids 2 3 ∷ []) 5 ∷ [], Ok (3, 5, 0, Some (pos 5), pos 2)) ∷
    -- a next id that is not above the last id
    (new, first ∷ append 3 2 (ids 2 3 ∷ []) 4 ∷ [], broken 2 rules.Fresh) ∷
    -- fewer ids than rows
    (new, first ∷ append 3 2 (ids 2 2 ∷ []) 5 ∷ [], broken 2 rules.Given) ∷
    -- an id that is given already
    (new, first ∷ append 3 2 (ids 1 3 ∷ []) 5 ∷ [], broken 2 rules.Fresh) ∷
    -- a gap, and runs that don't rise behind it
    (new, first ∷ append 2 2 (ids 8 1 ∷ ids 7 1 ∷ []) 9 ∷ [], broken 2 rules.Fresh) ∷
    -- gaps before, between and behind the ids
    (new, first ∷ append 2 2 (ids 7 1 ∷ ids 9 1 ∷ []) 20 ∷ [], Ok (3, 4, 0, Some (pos 20), pos 2)) ∷
    -- a compaction, which spends ids
    (new, first ∷ compact 2 [] 3 ∷ [], Ok (3, 2, 0, Some (pos 3), pos 2)) ∷
    -- a compaction behind which the next id falls
    (new, first ∷ compact 2 [] 1 ∷ [], broken 2 rules.Fresh) ∷
    -- a compaction that gives an id
    (new, first ∷ compact 2 (ids 2 1 ∷ []) 3 ∷ [], broken 2 rules.Given) ∷
    -- an upgrade, which has every other fault too
    (new, first ∷ entry Upgrade (Some (pos 9)) (ids 0 1 ∷ []) (ids 0 1 ∷ []) None ∷ [], broken 2 rules.Version) ∷
    -- an append that names an id
    (
      new,
      first ∷ entry (Append (rows 1)) (Some (pos 2)) (ids 2 1 ∷ []) (ids 3 1 ∷ []) (Some (pos 4)) ∷ [],
      broken 2 rules.Named,
    ) ∷
    []

pub is_said_of_a_new_table : found of_a_new_table ≡ wanted of_a_new_table
unfolding audited audited_from broken_rule applied is_rising ids_from
is_said_of_a_new_table = refl

-- a table of version 2
abbrev pub of_version_2 : Cases
of_version_2 =
    -- an append, which gives no ids
    (old, entry (Append (rows 2)) (Some (pos 3)) [] [] None ∷ [], Ok (2, 0, 3, None, pos 3)) ∷
    -- an upgrade, which changes no row
    (old, upgrade ∷ [], Ok (3, 0, 1, Some (pos 0), pos 2)) ∷
    -- an append behind it
    (old, upgrade ∷ named ∷ [], Ok (3, 2, 0, Some (pos 2), pos 3)) ∷
    -- a compaction behind that
    (old, upgrade ∷ named ∷ compact 4 [] 2 ∷ [], Ok (3, 2, 0, Some (pos 2), pos 4)) ∷
    -- a compaction in version 2
    (old, entry (Compact []) (Some (pos 3)) [] [] None ∷ [], broken 1 rules.Version) ∷
    -- a compaction while a row has no id
    (old, upgrade ∷ entry (Compact []) (Some (pos 3)) (ids 0 1 ∷ []) [] (Some (pos 1)) ∷ [], broken 2 rules.Unnamed) ∷
    -- an upgrade with a sequence number
    (old, entry Upgrade (Some (pos 3)) [] [] (Some (pos 0)) ∷ [], broken 1 rules.Seq) ∷
    -- an upgrade to another next id than 0
    (old, entry Upgrade None [] [] (Some (pos 1)) ∷ [], broken 1 rules.Next) ∷
    -- an upgrade that names a row
    (old, entry Upgrade None (ids 0 1 ∷ []) [] (Some (pos 0)) ∷ [], broken 1 rules.Named) ∷
    -- a next id in version 2
    (old, append 1 3 [] 0 ∷ [], broken 1 rules.Next) ∷
    -- an id given in version 2
    (old, entry (Append (rows 1)) (Some (pos 3)) [] (ids 0 1 ∷ []) None ∷ [], broken 1 rules.Given) ∷
    -- no id for the row without one
    (old, upgrade ∷ append 1 3 (ids 0 1 ∷ []) 1 ∷ [], broken 2 rules.Named) ∷
    -- a given id below a named one
    (
      old,
      upgrade ∷ entry (Append (rows 1)) (Some (pos 3)) (ids 1 1 ∷ []) (ids 0 1 ∷ []) (Some (pos 2)) ∷ [],
      broken 2 rules.Fresh,
    ) ∷
    -- no next id in version 3
    (
      old,
      upgrade ∷ entry (Append (rows 1)) (Some (pos 3)) (ids 0 1 ∷ []) (ids 1 1 ∷ []) None ∷ [],
      broken 2 rules.Next,
    ) ∷
    []

pub is_said_of_version_2 : found of_version_2 ≡ wanted of_version_2
unfolding audited audited_from broken_rule applied is_rising ids_from
is_said_of_version_2 = refl

-- states without entries
abbrev pub of_starts : Cases
of_starts =
    -- ids and last changes at both ends
    (
      state 3 (Some (pos 9)) (pos 4) [] ((pos 0, (pos 0, [])) ∷ (pos 8, (pos 4, [])) ∷ []),
      [],
      Ok (3, 2, 0, Some (pos 9), pos 4),
    ) ∷
    -- rows without ids
    (state 3 (Some (pos 9)) (pos 4) (changed 4 ∷ changed 0 ∷ []) [], [], Ok (3, 0, 2, Some (pos 9), pos 4)) ∷
    -- version 1
    (state 1 None (pos 0) [] [], [], broken 0 rules.Start) ∷
    -- version 4
    (state 4 (Some (pos 0)) (pos 0) [] [], [], broken 0 rules.Start) ∷
    -- version 2 with a next id
    (state 2 (Some (pos 0)) (pos 0) [] [], [], broken 0 rules.Start) ∷
    -- version 3 without one
    (state 3 None (pos 0) [] [], [], broken 0 rules.Start) ∷
    -- a next id below 0
    (state 3 (Some (negsuc 0)) (pos 0) [] [], [], broken 0 rules.Start) ∷
    -- a number below 0
    (state 2 None (negsuc 0) [] [], [], broken 0 rules.Start) ∷
    -- an id in version 2
    (state 2 None (pos 1) [] ((pos 0, (pos 1, [])) ∷ []), [], broken 0 rules.Start) ∷
    -- an id below 0
    (state 3 (Some (pos 1)) (pos 1) [] ((negsuc 0, (pos 1, [])) ∷ []), [], broken 0 rules.Start) ∷
    -- an id that is the next
    (state 3 (Some (pos 1)) (pos 1) [] ((pos 1, (pos 1, [])) ∷ []), [], broken 0 rules.Start) ∷
    -- a change to come
    (state 3 (Some (pos 1)) (pos 1) [] ((pos 0, (pos 2, [])) ∷ []), [], broken 0 rules.Start) ∷
    -- a change below 0
    (state 3 (Some (pos 1)) (pos 1) [] ((pos 0, (negsuc 0, [])) ∷ []), [], broken 0 rules.Start) ∷
    -- a change to come, without id
    (state 2 None (pos 1) (changed 2 ∷ []) [], [], broken 0 rules.Start) ∷
    -- rows with and without ids
    (state 3 (Some (pos 1)) (pos 1) (changed 1 ∷ []) ((pos 0, (pos 1, [])) ∷ []), [], broken 0 rules.Start) ∷
    []

pub is_said_of_starts : found of_starts ≡ wanted of_starts
unfolding audited audited_from broken_rule applied is_rising ids_from
is_said_of_starts = refl

-- large numbers
abbrev pub of_large_numbers : Cases
of_large_numbers =
    -- the last id but one
    (new, append 1 1 (ids (2 ^ 63 - 2) 1 ∷ []) (2 ^ 63 - 1) ∷ [], Ok (3, 1, 0, Some (pos (2 ^ 63 - 1)), pos 1)) ∷
    -- the last id, behind which there is no next one
    (new, append 1 1 (ids (2 ^ 63 - 1) 1 ∷ []) (2 ^ 63 - 1) ∷ [], broken 1 rules.Fresh) ∷
    -- the last sequence number but one
    (
      state 3 (Some (pos 0)) (pos (2 ^ 63 - 2)) [] [],
      compact (2 ^ 63 - 1) [] 0 ∷ [],
      Ok (3, 0, 0, Some (pos 0), pos (2 ^ 63 - 1)),
    ) ∷
    -- the last one, which has no next one
    (state 3 (Some (pos 0)) (pos (2 ^ 63 - 1)) [] [], compact (2 ^ 63 - 1) [] 0 ∷ [], broken 1 rules.Seq) ∷
    []

pub is_said_of_large_numbers : found of_large_numbers ≡ wanted of_large_numbers
unfolding audited audited_from broken_rule applied is_rising ids_from
is_said_of_large_numbers = refl
