-- What is read under each kind of schema, by the readers of the schemas in it.
use Rattle.std.proofs.Common.{◌≡◌, ℕ, Bool, List, [], ◌∷◌, length, map, slice_get, Option, Ok, refl, sym, ap, ◌∙◌}
use Rattle.std.specs.Prelude.{ℤ, pos}
use Rattle.std.proofs.lemmas.List.{length-map}
use Rattle.words.specs.Reading.{◌>>=◌, map_value}
use Rattle.avro_wire.specs.Number.{long, int}
use Rattle.schema_tree.specs.declared.logical.Logical.{Logical}
use Rattle.schema_tree.specs.declared.schema.Schema.{Schema}
use Rattle.schema_tree.specs.declared.schema.Schema.TheOpen as kinds
use Rattle.schema_tree.specs.declared.schema.Schema.TheVariants as schemas
use Rattle.schema_tree.specs.declared.schema.Schema.TheViews.{roll-Schema}
use Rattle.schema_tree.specs.declared.schema.Schema.TheFolds.{fold-Field, map-Schema, fold-roll-Schema, fold_out-Field}
use Rattle.schema_tree.specs.declared.schema.Field.{Field}
use Rattle.datum_reading.specs.declared.cursor.Cursor.{Cursor}
use Rattle.datum_tree.specs.declared.datum.Datum.TheVariants as datums
use Rattle.datum_reading.specs.Reading.{Reader, flag_at, num_at, raw_at, sized_at, text_at, choice_at, fields_at}
use Rattle.datum_reading.specs.Reading.{pair_at, all_at, branch_at, layer_at, field_reader, datum_at}
use Rattle.datum_reading.specs.Readers.{readers_of, branch_readers, union_at}

-- the reader of a field
abbrev pub field_at : Field → Reader
field_at = fold-Field Reader Reader layer_at field_reader

-- a layer of a schema, with the readers of the schemas in it
abbrev pub with_readers : kinds.Schema-F Schema Field → kinds.Schema-F Reader Reader
with_readers layer = map-Schema Schema Field Reader Reader datum_at field_at layer

-- what is read under a schema is what is read under its layer
reads : (schema : Schema) (layer : kinds.Schema-F Schema Field) → roll-Schema layer ≡ schema → (input : List ℕ)
    (at : Cursor) → datum_at schema input at ≡ layer_at (with_readers layer) input at
reads schema layer is input at =
    ap (λ (s : Schema). datum_at s input at) (sym is)
    ∙ ap (λ (r : Reader). r input at) (fold-roll-Schema Reader Reader layer_at field_reader layer)

-- the readers of fields are those of their schemas
fields_read : (fields : List Field) → map field_at fields ≡ readers_of fields
fields_read [] = refl
fields_read (field ∷ fields) =
    ap (λ (r : Reader). r ∷ map field_at fields) (fold_out-Field Reader Reader layer_at field_reader field)
    ∙ ap (λ (rs : List Reader). datum_at field.schema ∷ rs) (fields_read fields)

pub reads-Null : (input : List ℕ) (at : Cursor) → datum_at schemas.Null input at ≡ Ok (datums.Null, at)
reads-Null = reads schemas.Null kinds.Null schemas.rolls-Null

pub reads-Boolean : (input : List ℕ) (at : Cursor)
    → datum_at schemas.Boolean input at ≡ flag_at (slice_get input at.place) at
reads-Boolean = reads schemas.Boolean kinds.Boolean schemas.rolls-Boolean

pub reads-Int : (logical : Logical) (input : List ℕ) (at : Cursor)
    → datum_at (schemas.Int logical) input at ≡ num_at int input at
reads-Int logical = reads (schemas.Int logical) (kinds.Int logical) (schemas.rolls-Int logical)

pub reads-Long : (logical : Logical) (input : List ℕ) (at : Cursor)
    → datum_at (schemas.Long logical) input at ≡ num_at long input at
reads-Long logical = reads (schemas.Long logical) (kinds.Long logical) (schemas.rolls-Long logical)

pub reads-Float : (input : List ℕ) (at : Cursor) → datum_at schemas.Float input at ≡ raw_at 4 input at
reads-Float = reads schemas.Float kinds.Float schemas.rolls-Float

pub reads-Double : (input : List ℕ) (at : Cursor) → datum_at schemas.Double input at ≡ raw_at 8 input at
reads-Double = reads schemas.Double kinds.Double schemas.rolls-Double

pub reads-Raw : (input : List ℕ) (at : Cursor)
    → datum_at schemas.Raw input at ≡ map_value (λ read. (datums.Raw read.0, read.1)) (sized_at input at)
reads-Raw = reads schemas.Raw kinds.Raw schemas.rolls-Raw

pub reads-Str : (input : List ℕ) (at : Cursor)
    → datum_at schemas.Str input at ≡ map_value (λ read. (datums.Str read.0, read.1)) (text_at input at)
reads-Str = reads schemas.Str kinds.Str schemas.rolls-Str

pub reads-Fixed : (name : List ℕ) (size : ℕ) (input : List ℕ) (at : Cursor)
    → datum_at (schemas.Fixed name size) input at ≡ raw_at size input at
reads-Fixed name size = reads (schemas.Fixed name size) (kinds.Fixed name size) (schemas.rolls-Fixed name size)

pub reads-Enum : (name : List ℕ) (symbols : List (List ℕ)) (input : List ℕ) (at : Cursor)
    → datum_at (schemas.Enum name symbols) input at ≡ map_value (λ read. (datums.Num (pos read.0), read.1))
    (choice_at (length symbols) input at)
reads-Enum name symbols = reads (schemas.Enum name symbols) (kinds.Enum name symbols) (schemas.rolls-Enum name symbols)

pub reads-Rec : (name : List ℕ) (fields : List Field) (input : List ℕ) (at : Cursor)
    → datum_at (schemas.Rec name fields) input at ≡ map_value (λ read. (datums.Rec read.0, read.1))
    (fields_at (readers_of fields) [] input at)
reads-Rec name fields input at =
    reads (schemas.Rec name fields) (kinds.Rec name fields) (schemas.rolls-Rec name fields) input at
    ∙ ap (λ (rs : List Reader). map_value (λ read. (datums.Rec read.0, read.1)) (fields_at rs [] input at))
    (fields_read fields)

pub reads-Array : (items : Schema) (id : Option ℤ) (keyed : Bool) (input : List ℕ) (at : Cursor)
    → datum_at (schemas.Array items id keyed) input at ≡ map_value (λ read. (datums.Array read.0, read.1))
    (all_at (datum_at items) input at)
reads-Array items id keyed =
    reads (schemas.Array items id keyed) (kinds.Array items id keyed) (schemas.rolls-Array items id keyed)

pub reads-Map : (values : Schema) (key value : Option ℤ) (input : List ℕ) (at : Cursor)
    → datum_at (schemas.Map values key value) input at ≡ map_value (λ read. (datums.Map read.0, read.1))
    (all_at (pair_at (datum_at values)) input at)
reads-Map values key value =
    reads (schemas.Map values key value) (kinds.Map values key value) (schemas.rolls-Map values key value)

pub reads-Union : (branches : List Schema) (input : List ℕ) (at : Cursor)
    → datum_at (schemas.Union branches) input at ≡ union_at branches input at
reads-Union branches input at =
    reads (schemas.Union branches) (kinds.Union branches) (schemas.rolls-Union branches) input at
    ∙ ap (λ (n : ℕ). choice_at n input at >>= λ choice.
    branch_at (branch_readers branches) choice.0 choice.0 input choice.1)
    (length-map branches datum_at)

-- what is read under each kind of schema
pub ruleset layers = (
  reads-Null,
  reads-Boolean,
  reads-Int,
  reads-Long,
  reads-Float,
  reads-Double,
  reads-Raw,
  reads-Str,
  reads-Fixed,
  reads-Enum,
  reads-Rec,
  reads-Array,
  reads-Map,
  reads-Union,
)
