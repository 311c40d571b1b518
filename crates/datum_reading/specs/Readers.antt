-- The readers of the schemas in a schema.
use Rattle.std.specs.Prelude.{List, length, Result, map}
use Rattle.words.specs.Reading.{◌>>=◌, map_value}
use Rattle.schema_tree.specs.declared.schema.Schema.{Schema}
use Rattle.schema_tree.specs.declared.schema.Field.{Field}
use Rattle.datum_reading.specs.declared.cursor.Cursor.{Cursor}
use Rattle.datum_reading.specs.declared.refusal.DatumRefusal.{DatumRefusal}
use Rattle.datum_reading.specs.Reading.{Reader, choice_at, branch_at, datum_at}

-- the readers of a record's fields, in their order
abbrev pub readers_of : List Field → List Reader
readers_of fields = map (λ field. datum_at field.schema) fields

-- the readers of a union's branches, in their order
abbrev pub branch_readers : List Schema → List Reader
branch_readers branches = map datum_at branches

-- the number of a branch, and a value of it
abbrev pub union_at : List Schema → Reader
union_at branches input at =
    choice_at (length branches) input at >>= λ choice. branch_at (branch_readers branches) choice.0 choice.0 input
    choice.1

-- what is read, without its value
abbrev pub passed : {A : Type 0} → Result (A × Cursor) DatumRefusal → Result Cursor DatumRefusal
passed read = map_value (λ read. read.1) read
