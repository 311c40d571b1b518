-- A type holds the cells of its own kind, and a kind's cells are read from the type that they are written as.
use Rattle.std.proofs.Common.{◌≡◌, Bool, true, false, List, [], ◌∷◌, Some, IfSome, refl, sym, ap, ap₂}
use Rattle.std.proofs.Common.{subst, ◌∙◌}
use Rattle.row_types.specs.declared.column.Kind.{Kind}
use Rattle.row_types.specs.declared.column.Kind.TheVariants as kinds
use Rattle.schema_tree.specs.declared.schema.Schema.{Schema, out-Schema, roll-Schema, out-roll-Schema}
use Rattle.schema_tree.specs.declared.schema.Schema.TheOpen as layers
use Rattle.schema_tree.specs.declared.schema.Schema.TheOpen.{Boolean, Int, Long, Str, Raw}
use Rattle.schema_tree.specs.declared.schema.Schema.TheVariants as schemas
use Rattle.schema_tree.specs.declared.logical.Logical.{Logical}
use Rattle.schema_tree.specs.declared.logical.Logical.TheVariants.{Plain, Date, TimeMicros, StampMicros, StampMicrosUtc}
use Rattle.schema_tree.specs.Logical.{is_of_int, is_of_long}
use Rattle.avro_cells.specs.Kind.{Level, is_null, nullable_level, beside_null, holds, is_allowed_as, is_allowed}
use Rattle.avro_cells.specs.Kind.{int_kind, long_kind, kind_of, written_type, optional_type}

-- ---- the kind of a type

-- an int holds cells of the kind that it stands for
int_holds : (logical : Logical) → holds (int_kind logical) (Int logical) ≡ true
int_holds Date = refl
int_holds _ = refl

-- so does a long
long_holds : (logical : Logical) → holds (long_kind logical) (Long logical) ≡ true
long_holds TimeMicros = refl
long_holds StampMicros = refl
long_holds StampMicrosUtc = refl
long_holds _ = refl

-- a type holds cells of its own kind, where it has one
own_kind : (level : Level) → IfSome (kind_of level) (λ kind. holds kind level ≡ true)
own_kind Boolean = refl
own_kind (Int logical) = int_holds logical
own_kind (Long logical) = long_holds logical
own_kind Str = refl
own_kind Raw = refl
own_kind _ = tt

-- a type holds cells of the kind that its numbers stand for
pub kind_holds : (level : Level) (kind : Kind) → kind_of level ≡ Some kind → holds kind level ≡ true
kind_holds level kind is = subst (λ found. IfSome found (λ kind. holds kind level ≡ true)) is (own_kind level)

-- ---- the type of a kind

-- the level of the type that a kind is written as
abbrev pub written_level : Kind → Level
written_level kinds.Boolean = layers.Boolean
written_level kinds.Int = layers.Int Plain
written_level kinds.Long = layers.Long Plain
written_level kinds.Date = layers.Int Date
written_level kinds.Time = layers.Long TimeMicros
written_level kinds.Timestamp = layers.Long StampMicros
written_level kinds.Timestamptz = layers.Long StampMicrosUtc
written_level kinds.Text = layers.Str
written_level kinds.Bytes = layers.Raw

-- the type is made of this level
pub rolls_written : (kind : Kind) → roll-Schema (written_level kind) ≡ written_type kind
rolls_written kinds.Boolean = schemas.rolls-Boolean
rolls_written kinds.Int = schemas.rolls-Int Plain
rolls_written kinds.Long = schemas.rolls-Long Plain
rolls_written kinds.Date = schemas.rolls-Int Date
rolls_written kinds.Time = schemas.rolls-Long TimeMicros
rolls_written kinds.Timestamp = schemas.rolls-Long StampMicros
rolls_written kinds.Timestamptz = schemas.rolls-Long StampMicrosUtc
rolls_written kinds.Text = schemas.rolls-Str
rolls_written kinds.Bytes = schemas.rolls-Raw

-- a type of cells; a number among them stands for something that it may stand for
abbrev pub is_cell_level : Level → Bool
is_cell_level Boolean = true
is_cell_level (Int logical) = is_of_int logical
is_cell_level (Long logical) = is_of_long logical
is_cell_level Str = true
is_cell_level Raw = true
is_cell_level _ = false

-- the type is one of cells, and its kind is the one that is written as it
pub record IsWritten (kind : Kind) (schema : Schema) (level : Level) : Type 0 where
  pub cells : is_cell_level level ≡ true
  pub kind_is : kind_of level ≡ Some kind
  pub bare : nullable_level schema level ≡ Some (record { has_null = false; type = schema })
  pub not_null : is_null level ≡ false

-- this holds of each kind
pub level_written : (kind : Kind) (schema : Schema) → IsWritten kind schema (written_level kind)
level_written kinds.Boolean schema = record { cells = refl; kind_is = refl; bare = refl; not_null = refl }
level_written kinds.Int schema = record { cells = refl; kind_is = refl; bare = refl; not_null = refl }
level_written kinds.Long schema = record { cells = refl; kind_is = refl; bare = refl; not_null = refl }
level_written kinds.Date schema = record { cells = refl; kind_is = refl; bare = refl; not_null = refl }
level_written kinds.Time schema = record { cells = refl; kind_is = refl; bare = refl; not_null = refl }
level_written kinds.Timestamp schema = record { cells = refl; kind_is = refl; bare = refl; not_null = refl }
level_written kinds.Timestamptz schema = record { cells = refl; kind_is = refl; bare = refl; not_null = refl }
level_written kinds.Text schema = record { cells = refl; kind_is = refl; bare = refl; not_null = refl }
level_written kinds.Bytes schema = record { cells = refl; kind_is = refl; bare = refl; not_null = refl }

-- ---- reading what is written

-- what a schema is made of
out_of : (schema : Schema) (level : Level) → roll-Schema level ≡ schema → out-Schema schema ≡ level
out_of schema level is = ap out-Schema (sym is) ∙ out-roll-Schema level

-- a type is read as its kind
bare_allowed : (kind : Kind) (schema : Schema) (level : Level) → out-Schema schema ≡ level
    → IsWritten kind schema level → is_allowed kind schema ≡ true
bare_allowed kind schema level is written =
    ap (is_allowed_as kind) (ap (nullable_level schema) is ∙ written.bare)
    ∙ (ap (holds kind) is ∙ kind_holds level kind written.kind_is)

-- and so it is beside null
beside_allowed : (kind : Kind) (schema : Schema) (level : Level) → out-Schema schema ≡ level
    → IsWritten kind schema level → is_allowed kind (optional_type schema) ≡ true
beside_allowed kind schema level is written =
    let branches : List Schema = schemas.Null ∷ schema ∷ [] in
    let union : out-Schema (optional_type schema) ≡ layers.Union branches =
    out_of (optional_type schema) (layers.Union branches) (schemas.rolls-Union branches) in
    let null : is_null (out-Schema schemas.Null) ≡ true =
    ap is_null (out_of schemas.Null layers.Null schemas.rolls-Null) in
    let other : is_null (out-Schema schema) ≡ false = ap is_null is ∙ written.not_null in
    ap (λ (level : Level). is_allowed_as kind (nullable_level (optional_type schema) level)) union
    ∙ ap₂ (λ (first second : Bool). is_allowed_as kind (beside_null first second schemas.Null schema)) null other
    ∙ ap (holds kind) is
    ∙ kind_holds level kind written.kind_is

-- the cells of a kind are read from the type that they are written as
pub written_allowed : (kind : Kind) → is_allowed kind (written_type kind) ≡ true
written_allowed kind =
    bare_allowed kind (written_type kind) (written_level kind)
    (out_of (written_type kind) (written_level kind) (rolls_written kind)) (level_written kind (written_type kind))

-- also where it stands beside null
pub optional_allowed : (kind : Kind) → is_allowed kind (optional_type (written_type kind)) ≡ true
optional_allowed kind =
    beside_allowed kind (written_type kind) (written_level kind)
    (out_of (written_type kind) (written_level kind) (rolls_written kind)) (level_written kind (written_type kind))
