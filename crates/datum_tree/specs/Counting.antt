-- How many items are left of those that a value may have.
use Rattle.std.specs.Prelude.{ℕ, ◌-◌, List, Option, Some, None, nat_lt, if◌then◌else◌}
use Rattle.datum_tree.specs.declared.datum.Datum.{Datum}
use Rattle.datum_tree.specs.Value.{items_in}

-- what is left of `count` once these are taken, where there are no more of them
abbrev pub items_left : ℕ → ℕ → Option ℕ
items_left left many = if nat_lt left many then None else Some (left - many)

-- the items in a pair's value
abbrev pub pair_items : List ℕ × Datum → ℕ
pair_items pair = items_in pair.1
