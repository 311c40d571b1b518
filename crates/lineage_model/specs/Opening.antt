-- Which states a history may begin with.
use Rattle.std.specs.Prelude.{ℕ, ◌==◌, ℤ, pos, int_lt, Bool, true, false, not, ◌&&◌, ◌||◌, List, [], ◌∷◌, Option}
use Rattle.std.specs.Prelude.{Some, None}
use Rattle.std.specs.List.{list_all}
use Rattle.row_types.specs.RowMap.{UnnamedRow, NamedRow}
use Rattle.history_types.specs.declared.state.State.{State}

-- there is none
abbrev pub is_empty : {X : Type 0} → List X → Bool
is_empty [] = true
is_empty (x ∷ xs) = false

-- from the low number on, and below the high one
abbrev pub is_between : ℤ → ℤ → ℤ → Bool
is_between low high number = not (int_lt number low) && int_lt number high

-- the next id is there exactly in version 3, and not below 0
abbrev pub has_right_next : ℕ → Option ℤ → Bool
has_right_next version None = version == 2
has_right_next version (Some next) = version == 3 && not (int_lt next (pos 0))

-- each id is from 0 on and below the next one; where no ids are given there is none
abbrev pub has_right_ids : Option ℤ → List NamedRow → Bool
has_right_ids None rows = is_empty rows
has_right_ids (Some next) rows = list_all (λ row. is_between (pos 0) next row.0) rows

-- the last change of each row is from 0 to the table's last sequence number
abbrev pub has_right_lasts : ℤ → List UnnamedRow → Bool
has_right_lasts seq rows = list_all (λ row. not (int_lt row.0 (pos 0)) && not (int_lt seq row.0)) rows

-- a state that a history may begin with
abbrev pub is_opening : State → Bool
is_opening state =
    (state.version == 2 || state.version == 3)
    && has_right_next state.version state.next
    && not (int_lt state.seq (pos 0))
    && has_right_ids state.next state.rows
    && list_all (λ row. not (int_lt row.1.0 (pos 0)) && not (int_lt state.seq row.1.0)) state.rows
    && has_right_lasts state.seq state.unnamed
    && (is_empty state.rows || is_empty state.unnamed)
