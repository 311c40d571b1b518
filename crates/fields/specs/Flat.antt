-- A record, and records in it that are opened, seen as one record of all their fields: its bytes are the same.
-- Avro 1.11, "Records": the fields are encoded, in order, with nothing between them.
use Rattle.std.specs.Prelude.{ℤ, Bool, true, false, List, [], ◌∷◌, ◌++◌, map, Option, None}
use Rattle.schema_tree.specs.declared.schema.Schema.{out-Schema}
use Rattle.schema_tree.specs.declared.schema.Schema.TheOpen.{Rec}
use Rattle.schema_tree.specs.declared.schema.Field.{Field, out-Field}
use Rattle.datum_tree.specs.declared.datum.Datum.{Datum}
use Rattle.datum_reading.specs.Reading.{Reader, datum_at}
use Rattle.fields.specs.declared.leaf.Leaf.{Leaf}
use Rattle.fields.specs.declared.leaf.LentLeaf.{LentLeaf}
use Rattle.avro_cells.specs.Kind.{Level}
use Rattle.avro_cells.specs.Value.{values_of}

-- which records are opened, by the id of the field in which one stands
abbrev pub Opens : Type 0
Opens = Option ℤ → Bool

-- a field of a record in a field of the id; None: of the outer record
abbrev pub inner_leaf : Option ℤ → Field → Leaf
inner_leaf parent field = record { parent = parent; id = (out-Field field).id; schema = (out-Field field).schema }

-- the fields of the record in the field; the field itself, if none does
abbrev pub leaves_of_level : Field → Level → List Leaf
leaves_of_level field (Rec name fields) = map (inner_leaf (out-Field field).id) fields
leaves_of_level field _ = inner_leaf None field ∷ []

-- the same if the record is opened, else the field itself
abbrev pub leaves_if : Bool → Field → List Leaf
leaves_if true field = leaves_of_level field (out-Schema (out-Field field).schema)
leaves_if false field = inner_leaf None field ∷ []

abbrev pub leaves_of_field : Opens → Field → List Leaf
leaves_of_field opened field = leaves_if (opened (out-Field field).id) field

-- the fields of a record, and in their places those of the records in it that are opened
abbrev pub leaves : Opens → List Field → List Leaf
leaves opened [] = []
leaves opened (field ∷ fields) = leaves_of_field opened field ++ leaves opened fields

-- the values of those fields, by the value of each field
abbrev pub flat_of_level : Level → Datum → List Datum
flat_of_level (Rec name fields) value = values_of value
flat_of_level _ value = value ∷ []

abbrev pub flat_if : Bool → Level → Datum → List Datum
flat_if true level value = flat_of_level level value
flat_if false level value = value ∷ []

abbrev pub flat_values : Opens → List Field → List Datum → List Datum
flat_values opened [] values = values
flat_values opened (field ∷ fields) [] = []
flat_values opened (field ∷ fields) (value ∷ values) =
    flat_if (opened (out-Field field).id) (out-Schema (out-Field field).schema) value
    ++ flat_values opened fields values

-- what a leaf that is borrowed is
abbrev pub leaf_of : LentLeaf → Leaf
leaf_of leaf = record { parent = leaf.parent; id = leaf.id; schema = leaf.schema.now }

-- their readers
abbrev pub leaf_readers : List Leaf → List Reader
leaf_readers all = map (λ (leaf : Leaf). datum_at leaf.schema) all
