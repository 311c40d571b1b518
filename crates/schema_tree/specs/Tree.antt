-- How deep and how large a schema is, once its names are replaced by what they were defined as.
use Rattle.std.specs.Prelude.{ℕ, suc, max, List, [], ◌∷◌}
use Rattle.std.specs.List.{sum}
use Rattle.schema_tree.specs.declared.schema.Schema.{Schema}
use Rattle.schema_tree.specs.declared.schema.Schema.TheOpen.{Schema-F, Field-F, Null, Boolean, Int, Long, Float}
use Rattle.schema_tree.specs.declared.schema.Schema.TheOpen.{Double, Raw, Str, Fixed, Enum, Rec, Array, Map, Union}
use Rattle.schema_tree.specs.declared.schema.Schema.TheFolds.{fold-Schema}

-- the largest of the numbers; 0 if there is none
abbrev pub largest : List ℕ → ℕ
largest [] = 0
largest (n ∷ ns) = max n (largest ns)

-- the number of the field's schema
abbrev pub number_of_field : Field-F ℕ ℕ → ℕ
number_of_field field = field.schema

-- a schema is one above the deepest one in it
abbrev pub depth_of : Schema-F ℕ ℕ → ℕ
depth_of Null = 1
depth_of Boolean = 1
depth_of (Int logical) = 1
depth_of (Long logical) = 1
depth_of Float = 1
depth_of Double = 1
depth_of Raw = 1
depth_of Str = 1
depth_of (Fixed name size) = 1
depth_of (Enum name symbols) = 1
depth_of (Rec name fields) = suc (largest fields)
depth_of (Array items element_id keyed) = suc items
depth_of (Map values key_id value_id) = suc values
depth_of (Union branches) = suc (largest branches)

-- how deep a schema is: one without another in it is 1 deep
abbrev pub depth : Schema → ℕ
depth = fold-Schema ℕ ℕ depth_of number_of_field

-- a schema counts itself and those in it
abbrev pub size_of : Schema-F ℕ ℕ → ℕ
size_of Null = 1
size_of Boolean = 1
size_of (Int logical) = 1
size_of (Long logical) = 1
size_of Float = 1
size_of Double = 1
size_of Raw = 1
size_of Str = 1
size_of (Fixed name size) = 1
size_of (Enum name symbols) = 1
size_of (Rec name fields) = suc (sum fields)
size_of (Array items element_id keyed) = suc items
size_of (Map values key_id value_id) = suc values
size_of (Union branches) = suc (sum branches)

-- how many schemas stand in a schema, itself among them; fields are none
abbrev pub size : Schema → ℕ
size = fold-Schema ℕ ℕ size_of number_of_field
