-- The numbers of a state, and what an entry makes of them.
use Rattle.std.specs.Prelude.{ℕ, ◌+◌, ◌==◌, pos, ◌+ℤ◌, [], length, replicate, Option, Some, if◌then◌else◌}
use Rattle.row_types.specs.RowMap.{NamedRow, UnnamedRow}
use Rattle.history_types.specs.declared.entry.Entry.{Entry}
use Rattle.history_types.specs.declared.state.State.{State}
use Rattle.lineage_model.specs.declared.rule.Rule.{Rule}
use Rattle.lineage_model.specs.declared.tally.Tally.{Tally}
use Rattle.lineage_model.specs.Step.{is_upgrade, appended, broken_rule}

-- the numbers of a state
abbrev pub tally_of : State → Tally
tally_of state = record {
  version = state.version;
  unnamed = length state.unnamed;
  rows = length state.rows;
  next = state.next;
  seq = state.seq;
}

-- a row of no cells
abbrev pub blank_row : UnnamedRow
blank_row = (pos 0, [])

-- a state with these numbers; its rows say nothing
abbrev pub blank : Tally → State
blank tally = record {
  version = tally.version;
  unnamed = replicate tally.unnamed blank_row;
  rows = replicate tally.rows (pos 0, blank_row);
  next = tally.next;
  seq = tally.seq;
}

-- the first rule that an entry breaks in a state with these numbers
abbrev pub rule_broken : Tally → Entry → Option Rule
rule_broken tally entry = broken_rule (blank tally) entry

-- an upgrade: version 3, the next id is 0, and there are as many rows
abbrev pub upgraded_tally : Tally → Tally
upgraded_tally tally = record {
  version = 3;
  unnamed = tally.unnamed;
  rows = tally.rows;
  next = Some (pos 0);
  seq = tally.seq;
}

-- version 3: every row has an id, and so has each that is appended
abbrev pub committed_tally : Tally → Entry → Tally
committed_tally tally entry = record {
  version = tally.version;
  unnamed = 0;
  rows = tally.rows + tally.unnamed + appended entry.request;
  next = entry.next;
  seq = tally.seq +ℤ pos 1;
}

-- version 2: the rows join those without id
abbrev pub appended_tally : Tally → Entry → Tally
appended_tally tally entry = record {
  version = tally.version;
  unnamed = tally.unnamed + appended entry.request;
  rows = tally.rows;
  next = entry.next;
  seq = tally.seq +ℤ pos 1;
}

-- the numbers after an entry that breaks no rule
abbrev pub counted : Tally → Entry → Tally
counted tally entry =
    if is_upgrade entry.request then upgraded_tally tally
    else (if tally.version == 3 then committed_tally tally entry else appended_tally tally entry)
