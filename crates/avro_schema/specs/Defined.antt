-- What was defined under full names. Avro 1.11, "Names".
use Rattle.std.specs.Prelude.{ℕ, Bool, List, [], Option, Some, None, is_some}
use Rattle.std.specs.Map.{lookup}
use Rattle.std.specs.BTreeMap.{insert_entry}
use Rattle.std.specs.Ordering.{nat_cmp}
use Rattle.std.specs.Cmp.Lexicographic.{slice_cmp}
use Rattle.std.specs.Str.{bytes_eq}
use Rattle.schema_tree.specs.declared.schema.Schema.{Schema}

-- each full name that is taken, in the order of their bytes, with the schema that it was defined as, once that is whole
abbrev pub Definitions : Type 0
Definitions = List (List ℕ × Option Schema)

-- what is known of the name: None if it is not taken
abbrev pub known_as : Definitions → List ℕ → Option (Option Schema)
known_as names name = lookup (bytes_eq name) names

-- the name is taken
abbrev pub is_taken : Definitions → List ℕ → Bool
is_taken names name = is_some (known_as names name)

-- the names, with what is known of this one now
abbrev pub with_name : Definitions → List ℕ → Option Schema → Definitions
with_name names name schema = insert_entry (slice_cmp nat_cmp) names name schema

-- the names that were met so far, and how many schemas stand in the tree so far
pub record Seen : Type 0 where
  pub names : Definitions
  pub count : ℕ

-- nothing was met
abbrev pub nothing_seen : Seen
nothing_seen = record { names = []; count = 0 }

-- the name is taken by a definition that begins
abbrev pub begun : Seen → List ℕ → Seen
begun seen name = record { names = with_name seen.names name None; count = seen.count }

-- the name is defined as this schema
abbrev pub defined : Seen → List ℕ → Schema → Seen
defined seen name schema = record { names = with_name seen.names name (Some schema); count = seen.count }
