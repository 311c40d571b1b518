-- A compaction and an upgrade change no row.
use Rattle.std.proofs.Common.{◌≡◌, ◌==◌, Bool, true, false, not, List, [], ◌∷◌, refl, arith, if◌then◌else◌}
use Rattle.row_types.specs.RowMap.{UnnamedRow}
use Rattle.history_types.specs.declared.entry.Entry.{Entry}
use Rattle.history_types.specs.declared.state.State.{State}
use Rattle.lineage_model.specs.Ids.{ids_of}
use Rattle.lineage_model.specs.Asked.{nothing}
use Rattle.lineage_model.specs.Opening.{is_empty}
use Rattle.lineage_model.specs.Step.{applied, committed_to, appended_to, LegalStep}
use Rattle.lineage_model.specs.History.{IsCompaction, IsUpgrade}
use Rattle.lineage_model.proofs.Cases.{by_request}
use Rattle.lineage_model.proofs.RowLemmas.{under-nil}
use Rattle.lineage_model.proofs.Rules.{Kept, kept}

-- no row differs behind an entry
pub record SameRows (before after : State) : Type 0 where
  pub rows : after.rows ≡ before.rows
  pub unnamed : before.unnamed ≡ []
  pub unnamed_after : after.unnamed ≡ []

-- the rows without id that a compaction needs
none_unnamed : (rows : List UnnamedRow) → not (is_empty rows) ≡ false → rows ≡ []
none_unnamed [] test = refl
none_unnamed (row ∷ rows) test = absurd (grind arith)

-- behind a compaction of such a state
compacted : (three : Bool) (state : State) (entry : Entry) → state.unnamed ≡ [] → SameRows state (if three then committed_to state entry nothing else appended_to state entry nothing)
compacted true state entry none = record {
  rows = rw (none, under-nil (ids_of entry.named), under-nil (ids_of entry.given));
  unnamed = none;
  unnamed_after = refl;
}
compacted false state entry none = record { rows = refl; unnamed = none; unnamed_after = rw none refl }

-- a compaction that keeps the rules changes no row
abbrev Compacts : State → Entry → Type 0
Compacts state entry = IsCompaction entry.request → Kept state entry → SameRows state (applied state entry)

-- each entry, so far as it is a compaction
compacts : (state : State) (entry : Entry) → Compacts state entry
unfolding applied
compacts state = λ entry. by_request (Compacts state) entry
    (λ rows is. absurd is) (λ paths is kept. compacted (state.version == 3) state entry (none_unnamed state.unnamed kept.unnamed)) (λ is. absurd is)

-- a legal compaction
pub compaction_changes_none : (before : State) (entry : Entry) (after : State) → LegalStep before entry after → IsCompaction entry.request → SameRows before after
compaction_changes_none before entry after step is = rw step.state (compacts before entry is (kept before entry step.legal))

-- an upgrade changes no row
abbrev Upgrades : State → Entry → Type 0
Upgrades state entry = IsUpgrade entry.request → ((applied state entry).rows ≡ state.rows) × ((applied state entry).unnamed ≡ state.unnamed)

-- each entry, so far as it is an upgrade
upgrades : (state : State) (entry : Entry) → Upgrades state entry
unfolding applied
upgrades state = λ entry. by_request (Upgrades state) entry (λ rows is. absurd is) (λ paths is. absurd is) (λ is. (refl, refl))

-- a legal upgrade
pub upgrade_changes_none : (before : State) (entry : Entry) (after : State) → LegalStep before entry after → IsUpgrade entry.request → (after.rows ≡ before.rows) × (after.unnamed ≡ before.unnamed)
upgrade_changes_none before entry after step is = rw step.state (upgrades before entry is)
