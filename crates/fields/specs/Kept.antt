-- The fields of a record whose values take bytes, apart from those that take none.
-- Avro 1.11, "Primitive Types", "Records": null is written as zero bytes, and a record as its fields.
use Rattle.std.specs.Prelude.{ℕ, ◌==◌, ◌+◌, Bool, true, false, ◌&&◌, List, [], ◌∷◌, map, Option, Some, None}
use Rattle.std.specs.Prelude.{get_or, if◌then◌else◌}
use Rattle.schema_tree.specs.declared.schema.Schema.{Schema}
use Rattle.schema_tree.specs.declared.schema.Schema.TheOpen.{Schema-F, Field-F, Null, Fixed, Rec}
use Rattle.schema_tree.specs.declared.schema.Schema.TheFolds.{fold-Schema, fold-Field}
use Rattle.schema_tree.specs.declared.schema.Field.{Field}
use Rattle.datum_tree.specs.declared.datum.Datum.{Datum}
use Rattle.fields.specs.declared.leaf.Leaf.{Leaf}

-- all of these
abbrev pub all_of : List Bool → Bool
all_of [] = true
all_of (test ∷ tests) = test && all_of tests

-- the values of a type take no bytes, by the types in it: null, a fixed type of size 0, or a record of only such fields
abbrev pub empty_of : Schema-F Bool Bool → Bool
empty_of Null = true
empty_of (Fixed name size) = size == 0
empty_of (Rec name fields) = all_of fields
empty_of _ = false

abbrev pub empty_field : Field-F Bool Bool → Bool
empty_field field = field.schema

-- the values of the type take no bytes
abbrev pub is_empty : Schema → Bool
is_empty = fold-Schema Bool Bool empty_of empty_field

-- the values of all fields take no bytes
abbrev pub are_empty : List Field → Bool
are_empty fields = all_of (map (fold-Field Bool Bool empty_of empty_field) fields)

-- the values of the field take no bytes
abbrev pub is_bare : Leaf → Bool
is_bare leaf = is_empty leaf.schema

-- the fields whose values take bytes
unfoldable pub kept : List Leaf → List Leaf
kept [] = []
kept (leaf ∷ leaves) = if is_bare leaf then kept leaves else leaf ∷ kept leaves

-- the values of those fields, of the values of all fields
unfoldable pub kept_values : List Leaf → List Datum → List Datum
kept_values [] values = []
kept_values (leaf ∷ leaves) [] = []
kept_values (leaf ∷ leaves) (value ∷ values) =
    if is_bare leaf then kept_values leaves values else value ∷ kept_values leaves values

-- the place of a field after so many fields whose values take bytes; none if its own take none
abbrev pub slot_of : Bool → ℕ → Option ℕ
slot_of empty many = if empty then None else Some many

-- how many fields up to this one take bytes
abbrev pub behind_slot : Bool → ℕ → ℕ
behind_slot empty many = if empty then many else many + 1

-- for each field its place among those whose values take bytes, after so many before them
unfoldable pub slots : ℕ → List Leaf → List (Option ℕ)
slots many [] = []
slots many (leaf ∷ leaves) = slot_of (is_bare leaf) many ∷ slots (behind_slot (is_bare leaf) many) leaves

-- the slot of the field at a place
abbrev pub slot_at : List (Option ℕ) → Option ℕ → Option ℕ
slot_at found None = None
slot_at found (Some place) = get_or found place None
