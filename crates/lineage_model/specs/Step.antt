-- One entry of a history applied to a state: the rules that it keeps, and what comes of it.
use Rattle.std.specs.Prelude.{◌≡◌, ℕ, ◌==◌, ℤ, pos, ◌+ℤ◌, int_lt, Bool, true, false, not, ◌&&◌, List, [], ◌++◌}
use Rattle.std.specs.Prelude.{length, map, Option, Some, None, if◌then◌else◌, is_some}
use Rattle.std.specs.Option.{is_none as is_absent}
use Rattle.std.specs.List.{list_all}
use Rattle.std.specs.Ordering.{int_eq}
use Rattle.row_types.specs.RowMap.{NamedRow}
use Rattle.history_types.specs.declared.request.Request.{Request}
use Rattle.history_types.specs.declared.request.Request.TheVariants.{Append, Compact, Upgrade}
use Rattle.history_types.specs.declared.entry.Entry.{Entry}
use Rattle.history_types.specs.declared.state.State.{State}
use Rattle.lineage_model.specs.declared.rule.Rule.{Rule}
use Rattle.lineage_model.specs.declared.rule.Rule.TheVariants as rules
use Rattle.lineage_model.specs.Ids.{ids_of, is_rising}
use Rattle.lineage_model.specs.Rows.{stamped, under, with_rows, without_rows}
use Rattle.lineage_model.specs.Asked.{Asked, asked}
use Rattle.lineage_model.specs.Opening.{is_empty, is_between}

-- the request is an upgrade
abbrev pub is_upgrade : Request → Bool
is_upgrade (Append rows) = false
is_upgrade (Compact paths) = false
is_upgrade Upgrade = true

-- the version after the entry
abbrev pub version_after : State → Request → ℕ
version_after state request = if is_upgrade request then 3 else state.version

-- an entry of version 3 gives ids to rows; an upgrade gives none
abbrev pub gives_ids : State → Request → Bool
gives_ids state request = state.version == 3 && not (is_upgrade request)

-- ---- the rules, each as the test that an entry breaks it

-- a compaction in version 2, or an upgrade in version 3
abbrev pub breaks_version : State → Request → Bool
breaks_version state (Append rows) = false
breaks_version state (Compact paths) = state.version == 2
breaks_version state Upgrade = state.version == 3

-- a compaction while some row has no id
abbrev pub breaks_unnamed : State → Request → Bool
breaks_unnamed state (Append rows) = false
breaks_unnamed state (Compact paths) = not (is_empty state.unnamed)
breaks_unnamed state Upgrade = false

-- the number is there, and it is this one
abbrev pub is_this : ℤ → Option ℤ → Bool
is_this number None = false
is_this number (Some other) = int_eq other number

-- an upgrade with a sequence number, or another entry without the next one
abbrev pub breaks_seq : State → Entry → Bool
breaks_seq state entry =
    if is_upgrade entry.request then is_some entry.seq else not (is_this (state.seq +ℤ pos 1) entry.seq)

-- the next id is there in version 2, absent in version 3, or not 0 after an upgrade
abbrev pub breaks_next : State → Entry → Bool
breaks_next state entry =
    if version_after state entry.request == 2 then is_some entry.next
    else (if is_upgrade entry.request then not (is_this (pos 0) entry.next)
    else is_absent entry.next)

-- the named ids are not as many as the rows without one; where no ids are given there are some
abbrev pub breaks_named : State → Entry → Bool
breaks_named state entry =
    not (length (ids_of entry.named) == (if gives_ids state entry.request then length state.unnamed else 0))

-- how many rows a request appends
abbrev pub appended : Request → ℕ
appended (Append rows) = length rows
appended (Compact paths) = 0
appended Upgrade = 0

-- the given ids are not as many as the appended rows; where no ids are given there are some
abbrev pub breaks_given : State → Entry → Bool
breaks_given state entry =
    not (length (ids_of entry.given) == (if gives_ids state entry.request then appended entry.request else 0))

-- the ids that an entry gives to rows: first to those that had none, then to those that it appends
abbrev pub ids_given_by : Entry → List ℤ
ids_given_by entry = ids_of entry.named ++ ids_of entry.given

-- the ids rise, each from the old next id on and below the new one, which is not below the old
abbrev pub are_fresh : Option ℤ → Option ℤ → List ℤ → Bool
are_fresh (Some low) (Some high) ids = is_rising ids && list_all (is_between low high) ids && not (int_lt high low)
are_fresh (Some low) None ids = false
are_fresh None high ids = false

-- where ids are given, they are not fresh
abbrev pub breaks_fresh : State → Entry → Bool
breaks_fresh state entry = gives_ids state entry.request && not (are_fresh state.next entry.next (ids_given_by entry))

-- what is asked can't be done
abbrev pub breaks_asked : State → Entry → Bool
breaks_asked state entry = is_absent (asked entry.request state)

-- the first rule that the entry breaks, in the order of the rules
unfoldable pub broken_rule : State → Entry → Option Rule
broken_rule state entry =
    if breaks_version state entry.request then Some rules.Version
    else (if breaks_unnamed state entry.request then Some rules.Unnamed
    else (if breaks_seq state entry then Some rules.Seq
    else (if breaks_next state entry then Some rules.Next
    else (if breaks_named state entry then Some rules.Named
    else (if breaks_given state entry then Some rules.Given
    else (if breaks_fresh state entry then Some rules.Fresh
    else (if breaks_asked state entry then Some rules.Asked
    else None)))))))

-- ---- what comes of an entry

-- version 2: the rows join those without id, with the new sequence number as their last change
abbrev pub appended_to : State → Entry → Asked → State
appended_to state entry asks = record {
  version = state.version;
  unnamed = state.unnamed ++ map (stamped (state.seq +ℤ pos 1)) asks.adds;
  rows = state.rows;
  next = entry.next;
  seq = state.seq +ℤ pos 1;
}

-- the rows that don't leave, those that are changed with their new cells and the new sequence number
abbrev pub kept_rows : State → Asked → List NamedRow
kept_rows state asks =
    with_rows (without_rows state.rows asks.removes)
    (map (λ row. (row.0, stamped (state.seq +ℤ pos 1) row.1)) asks.changes)

-- those, and the rows without id under the named ids, in their order
abbrev pub named_rows : State → Entry → Asked → List NamedRow
named_rows state entry asks = with_rows (kept_rows state asks) (under (ids_of entry.named) state.unnamed)

-- those, and the new rows under the given ids, with the new sequence number
abbrev pub rows_after : State → Entry → Asked → List NamedRow
rows_after state entry asks =
    with_rows (named_rows state entry asks) (under (ids_of entry.given) (map (stamped (state.seq +ℤ pos 1)) asks.adds))

-- version 3: every row has an id
abbrev pub committed_to : State → Entry → Asked → State
committed_to state entry asks = record {
  version = state.version;
  unnamed = [];
  rows = rows_after state entry asks;
  next = entry.next;
  seq = state.seq +ℤ pos 1;
}

-- an upgrade: version 3, the next id is 0, and no row differs
abbrev pub upgraded : State → State
upgraded state = record {
  version = 3;
  unnamed = state.unnamed;
  rows = state.rows;
  next = Some (pos 0);
  seq = state.seq;
}

-- the state after what is asked
abbrev pub done : State → Entry → Option Asked → State
done state entry None = state
done state entry (Some asks) =
    if is_upgrade entry.request then upgraded state
    else (if state.version == 3 then committed_to state entry asks
    else appended_to state entry asks)

-- the state after an entry that breaks no rule
unfoldable pub applied : State → Entry → State
applied state entry = done state entry (asked entry.request state)

-- the entry breaks no rule, and leads from the one state to the other
pub record LegalStep (before : State) (entry : Entry) (after : State) : Type 0 where
  pub legal : broken_rule before entry ≡ None
  pub state : after ≡ applied before entry
