-- A history of a table: its states, whether it is legal, and the ids that it gives.
use Rattle.std.specs.Prelude.{◌≡◌, ◌⊎◌, ⊤, ℕ, ◌+◌, ℤ, true, false, List, [], ◌∷◌, ◌++◌, length, Option, Some, None}
use Rattle.std.specs.Prelude.{Result, Ok, Err, if◌then◌else◌, ◌<ℤ◌, ◌≤ℤ◌}
use Rattle.std.specs.List.{flat_map}
use Rattle.std.specs.Map.{keys_of}
use Rattle.words.specs.Reading.{◌>>=◌}
use Rattle.history_types.specs.declared.request.Request.{Request}
use Rattle.history_types.specs.declared.request.Request.TheVariants.{Append, Compact, Upgrade}
use Rattle.history_types.specs.declared.entry.Entry.{Entry}
use Rattle.history_types.specs.declared.state.State.{State}
use Rattle.lineage_model.specs.declared.rule.Rule.{Rule}
use Rattle.lineage_model.specs.declared.rule.Rule.TheVariants as rules
use Rattle.lineage_model.specs.Opening.{is_opening}
use Rattle.lineage_model.specs.Step.{broken_rule, applied, ids_given_by}

-- the state after the entries
unfoldable pub state_after : State → List Entry → State
state_after state [] = state
state_after state (entry ∷ entries) = state_after (applied state entry) entries

-- each entry breaks no rule in the state before it
unfoldable pub AreLegal : State → List Entry → Type 0
AreLegal state [] = ⊤
AreLegal state (entry ∷ entries) = (broken_rule state entry ≡ None) × AreLegal (applied state entry) entries

-- a legal history, from a state that it may begin with to the state after all entries
pub record IsHistory (start : State) (entries : List Entry) (end : State) : Type 0 where
  pub opening : is_opening start ≡ true
  pub legal : AreLegal start entries
  pub state : end ≡ state_after start entries

-- every id that a history gives: those of the rows that it begins with, and then those of each entry
abbrev pub ids_given : State → List Entry → List ℤ
ids_given start entries = keys_of start.rows ++ flat_map ids_given_by entries

-- ---- the first fault of a history that is not legal

-- an entry, counted from 1, and the first rule that it breaks; entry 0 is the state at the start
pub record Fault : Type 0 where
  pub entry : ℕ
  pub rule : Rule

-- no history may begin with this state: the fault is entry 0, with the rule Start
pub record BreaksStart (start : State) (fault : Fault) : Type 0 where
  pub opening : is_opening start ≡ false
  pub entry : fault.entry ≡ 0
  pub rule : fault.rule ≡ rules.Start

-- the entries before this one are a legal history, and in the state after them this one breaks the rule first
pub record BreaksRule (start : State) (entries : List Entry) (fault : Fault) : Type 0 where
  pub before : List Entry
  pub entry : Entry
  pub others : List Entry
  pub parts : entries ≡ before ++ entry ∷ others
  pub place : fault.entry ≡ length before + 1
  pub state : State
  pub history : IsHistory start before state
  pub rule : broken_rule state entry ≡ Some fault.rule

-- the first fault of a history: no history may begin with its start, or an entry breaks a rule
abbrev pub IsFirstFault : State → List Entry → Fault → Type 0
IsFirstFault start entries fault = BreaksStart start fault ⊎ BreaksRule start entries fault

-- ---- a history audited from left to right

-- the state after the entry, unless it breaks a rule
abbrev pub stepped : ℕ → State → Entry → Option Rule → Result State Fault
stepped place state entry None = Ok (applied state entry)
stepped place state entry (Some rule) = Err (record { entry = place; rule = rule })

-- the state after the entries, the first of which is at this place; or the first fault
unfoldable pub audited_from : ℕ → State → List Entry → Result State Fault
audited_from place state [] = Ok state
audited_from place state (entry ∷ entries) =
    stepped place state entry (broken_rule state entry) >>= λ after. audited_from (place + 1) after entries

-- the state after all entries, or the first fault
unfoldable pub audited : State → List Entry → Result State Fault
audited start entries =
    if is_opening start then audited_from 1 start entries else Err (record { entry = 0; rule = rules.Start })

-- ---- what the laws speak of

-- the id is below the next one; where no ids are given there is none
abbrev pub IsBelow : Option ℤ → ℤ → Type 0
IsBelow None id = ⊥
IsBelow (Some next) id = id <ℤ next

-- the next id did not fall; where none was given none is
abbrev pub DidNotFall : Option ℤ → Option ℤ → Type 0
DidNotFall None now = now ≡ None
DidNotFall (Some before) None = ⊥
DidNotFall (Some before) (Some now) = before ≤ℤ now

-- the request is an append
abbrev pub IsAppend : Request → Type 0
IsAppend (Append rows) = ⊤
IsAppend (Compact paths) = ⊥
IsAppend Upgrade = ⊥

-- the request is a compaction
abbrev pub IsCompaction : Request → Type 0
IsCompaction (Append rows) = ⊥
IsCompaction (Compact paths) = ⊤
IsCompaction Upgrade = ⊥

-- the request is an upgrade
abbrev pub IsUpgrade : Request → Type 0
IsUpgrade (Append rows) = ⊥
IsUpgrade (Compact paths) = ⊥
IsUpgrade Upgrade = ⊤
