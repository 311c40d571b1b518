-- Entries by their request, and states by their version.
use Rattle.std.proofs.Common.{◌≡◌, ℕ, ℤ, List, Option, Some, None, sym, subst}
use Rattle.row_types.specs.declared.cell.Cell.{Cell}
use Rattle.history_types.specs.declared.request.Request.{Request}
use Rattle.history_types.specs.declared.request.Request.TheVariants.{Append, Compact, Upgrade}
use Rattle.history_types.specs.declared.entry.Entry.{Entry}
use Rattle.history_types.specs.declared.state.State.{State}

-- what holds of an entry with each request holds of each entry
pub by_request : (P : Entry → Type 0) (entry : Entry) → ((rows : List (List Cell)) → P (record entry { request = Append rows }))
    → ((paths : List (List ℕ)) → P (record entry { request = Compact paths })) → P (record entry { request = Upgrade }) → P entry
by_request P entry append compact upgrade = at entry.request
  where
    at : (request : Request) → P (record entry { request = request })
    at (Append rows) = append rows
    at (Compact paths) = compact paths
    at Upgrade = upgrade

-- the next id is there exactly in version 3
abbrev pub HasNext : ℕ → Option ℤ → Type 0
HasNext version None = version ≡ 2
HasNext version (Some next) = version ≡ 3

-- what holds of a state of version 2 without a next id, and of one of version 3 with each next id, holds of each state
pub by_version : (P : State → Type 0) (state : State) → HasNext state.version state.next → P (record state { version = 2; next = None })
    → ((next : ℤ) → P (record state { version = 3; next = Some next })) → P state
by_version P state has two three = at state.version state.next has
  where
    at : (version : ℕ) (next : Option ℤ) → HasNext version next → P (record state { version = version; next = next })
    at version None is = subst (λ (v : ℕ). P (record state { version = v; next = None })) (sym is) two
    at version (Some next) is = subst (λ (v : ℕ). P (record state { version = v; next = Some next })) (sym is) (three next)
