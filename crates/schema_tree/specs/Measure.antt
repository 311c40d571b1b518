-- How deep and how large fields and branches are, and what is left of a count after a schema.
use Rattle.std.specs.Prelude.{ℕ, ◌-◌, List, Option, Some, None, nat_lt, map, if◌then◌else◌}
use Rattle.std.specs.List.{sum}
use Rattle.schema_tree.specs.declared.schema.Schema.{Schema}
use Rattle.schema_tree.specs.declared.schema.Schema.TheFolds.{fold-Field}
use Rattle.schema_tree.specs.declared.schema.Field.{Field}
use Rattle.schema_tree.specs.Tree.{depth, depth_of, size, size_of, number_of_field, largest}

-- the deepest of the fields' schemas
abbrev pub depth_of_fields : List Field → ℕ
depth_of_fields fields = largest (map (fold-Field ℕ ℕ depth_of number_of_field) fields)

-- the deepest of the branches
abbrev pub depth_of_branches : List Schema → ℕ
depth_of_branches branches = largest (map depth branches)

-- how many schemas stand in the fields
abbrev pub size_of_fields : List Field → ℕ
size_of_fields fields = sum (map (fold-Field ℕ ℕ size_of number_of_field) fields)

-- how many schemas stand in the branches
abbrev pub size_of_branches : List Schema → ℕ
size_of_branches branches = sum (map size branches)

-- what is left of the count, where there are so many
abbrev pub left_of : ℕ → ℕ → Option ℕ
left_of left many = if nat_lt left many then None else Some (left - many)
