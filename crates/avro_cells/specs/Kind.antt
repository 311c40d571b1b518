-- Which Avro types hold the cells of a column, and the type that they are written as.
-- Iceberg spec, "Appendix A: Format-specific Requirements", "Avro".
use Rattle.std.specs.Prelude.{Bool, true, false, List, [], ◌∷◌, Option, Some, None}
use Rattle.row_types.specs.declared.column.Kind.{Kind}
use Rattle.row_types.specs.declared.column.Kind.TheVariants as kinds
use Rattle.avro_cells.specs.declared.kind.Primitive.{Primitive}
use Rattle.avro_cells.specs.declared.kind.Primitive.TheVariants as primitives
use Rattle.schema_tree.specs.declared.schema.Schema.{Schema, out-Schema}
use Rattle.schema_tree.specs.declared.schema.Schema.TheVariants as schemas
use Rattle.schema_tree.specs.declared.schema.Field.{Field}
use Rattle.schema_tree.specs.declared.schema.Schema.TheOpen.{Schema-F, Null, Boolean, Int, Long, Raw, Str, Union}
use Rattle.schema_tree.specs.declared.logical.Logical.{Logical}
use Rattle.schema_tree.specs.declared.logical.Logical.TheVariants.{Plain, Date, TimeMicros, StampMicros, StampMicrosUtc}

-- one level of a schema
abbrev pub Level : Type 0
Level = Schema-F Schema Field

-- it is the null type
abbrev pub is_null : Level → Bool
is_null Null = true
is_null _ = false

-- whether null may be there, and the type beside it
pub record Nullable : Type 0 where
  pub has_null : Bool
  pub type : Schema

-- the type of a union of two branches, of which one alone is null
abbrev pub beside_null : Bool → Bool → Schema → Schema → Option Nullable
beside_null true true first second = None
beside_null true false first second = Some (record { has_null = true; type = second })
beside_null false true first second = Some (record { has_null = true; type = first })
beside_null false false first second = None

abbrev pub of_branches : List Schema → Option Nullable
of_branches [] = None
of_branches (first ∷ []) = None
of_branches (first ∷ second ∷ []) = beside_null (is_null (out-Schema first)) (is_null (out-Schema second)) first second
of_branches (first ∷ second ∷ third ∷ others) = None

-- how a field's type is read: bare, or beside null
abbrev pub nullable_level : Schema → Level → Option Nullable
nullable_level schema (Union branches) = of_branches branches
nullable_level schema _ = Some (record { has_null = false; type = schema })

abbrev pub nullable : Schema → Option Nullable
nullable schema = nullable_level schema (out-Schema schema)

-- the primitive type of the cells of a type; None for one that holds none
abbrev pub primitive_of : Level → Option Primitive
primitive_of Boolean = Some primitives.Boolean
primitive_of (Int logical) = Some primitives.Int
primitive_of (Long logical) = Some primitives.Long
primitive_of Str = Some primitives.Text
primitive_of Raw = Some primitives.Bytes
primitive_of _ = None

-- cells of the kind are read from the primitive type
abbrev pub is_read_from : Kind → Primitive → Bool
is_read_from kinds.Boolean primitives.Boolean = true
is_read_from kinds.Int primitives.Int = true
is_read_from kinds.Long primitives.Int = true
is_read_from kinds.Long primitives.Long = true
is_read_from kinds.Date primitives.Int = true
is_read_from kinds.Time primitives.Long = true
is_read_from kinds.Timestamp primitives.Long = true
is_read_from kinds.Timestamptz primitives.Long = true
is_read_from kinds.Text primitives.Text = true
is_read_from kinds.Bytes primitives.Bytes = true
is_read_from _ _ = false

-- cells of the kind are read from the type; what a number stands for isn't asked
abbrev pub holds_as : Kind → Option Primitive → Bool
holds_as kind None = false
holds_as kind (Some primitive) = is_read_from kind primitive

abbrev pub holds : Kind → Level → Bool
holds kind level = holds_as kind (primitive_of level)

-- a column of the kind is read from a field of the type
abbrev pub is_allowed_as : Kind → Option Nullable → Bool
is_allowed_as kind None = false
is_allowed_as kind (Some found) = holds kind (out-Schema found.type)

abbrev pub is_allowed : Kind → Schema → Bool
is_allowed kind schema = is_allowed_as kind (nullable schema)

-- the kind that a number of the type is of, by what it stands for
abbrev pub int_kind : Logical → Kind
int_kind Date = kinds.Date
int_kind _ = kinds.Int

abbrev pub long_kind : Logical → Kind
long_kind TimeMicros = kinds.Time
long_kind StampMicros = kinds.Timestamp
long_kind StampMicrosUtc = kinds.Timestamptz
long_kind _ = kinds.Long

-- the kind of the cells that a type holds; None if it holds none
abbrev pub kind_of : Level → Option Kind
kind_of Boolean = Some kinds.Boolean
kind_of (Int logical) = Some (int_kind logical)
kind_of (Long logical) = Some (long_kind logical)
kind_of Str = Some kinds.Text
kind_of Raw = Some kinds.Bytes
kind_of _ = None

-- the type that the cells of a kind are written as
abbrev pub written_type : Kind → Schema
written_type kinds.Boolean = schemas.Boolean
written_type kinds.Int = schemas.Int Plain
written_type kinds.Long = schemas.Long Plain
written_type kinds.Date = schemas.Int Date
written_type kinds.Time = schemas.Long TimeMicros
written_type kinds.Timestamp = schemas.Long StampMicros
written_type kinds.Timestamptz = schemas.Long StampMicrosUtc
written_type kinds.Text = schemas.Str
written_type kinds.Bytes = schemas.Raw

-- a type beside null, which comes first
abbrev pub optional_type : Schema → Schema
optional_type type = schemas.Union (schemas.Null ∷ type ∷ [])
