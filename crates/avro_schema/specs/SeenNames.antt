-- The names of a map, as what was met is stated over them.
use Rattle.std.specs.Prelude.{List, Option, String, string_bytes, map}
use Rattle.std.specs.declared.alloc.Global.{Global}
use Rattle.schema_tree.specs.declared.schema.Schema.{Schema}
use Rattle.avro_schema.specs.Defined.{Definitions}

-- the entries, by the bytes of their names
abbrev pub names_of : List (String Global × Option Schema) → Definitions
names_of entries = map (λ entry. (string_bytes entry.0, entry.1)) entries
