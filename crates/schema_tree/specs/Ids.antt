-- The ids in a schema are numbers of 32 bits, as each value of the code's type has them.
use Rattle.std.specs.Prelude.{◌^◌, ℤ, pos, negsuc, Bool, true, ◌&&◌, List, Option, Some, None, nat_lt}
use Rattle.std.specs.List.{list_all}
use Rattle.schema_tree.specs.declared.schema.Schema.{Schema}
use Rattle.schema_tree.specs.declared.schema.Schema.TheOpen.{Schema-F, Field-F, Null, Boolean, Int, Long, Float}
use Rattle.schema_tree.specs.declared.schema.Schema.TheOpen.{Double, Raw, Str, Fixed, Enum, Rec, Array, Map, Union}
use Rattle.schema_tree.specs.declared.schema.Schema.TheFolds.{fold-Schema, fold-Field}
use Rattle.schema_tree.specs.declared.schema.Field.{Field}

-- an id of 32 bits, where there is one
abbrev pub is_id : Option ℤ → Bool
is_id None = true
is_id (Some (pos n)) = nat_lt n (2 ^ 31)
is_id (Some (negsuc n)) = nat_lt n (2 ^ 31)

-- all of them
abbrev pub all_true : List Bool → Bool
all_true = list_all (λ b. b)

-- the ids of a schema, by those in it
abbrev pub ids_of : Schema-F Bool Bool → Bool
ids_of Null = true
ids_of Boolean = true
ids_of (Int logical) = true
ids_of (Long logical) = true
ids_of Float = true
ids_of Double = true
ids_of Raw = true
ids_of Str = true
ids_of (Fixed name size) = true
ids_of (Enum name symbols) = true
ids_of (Rec name fields) = all_true fields
ids_of (Array items element_id keyed) = items && is_id element_id
ids_of (Map values key_id value_id) = values && (is_id key_id && is_id value_id)
ids_of (Union branches) = all_true branches

abbrev pub ids_of_field : Field-F Bool Bool → Bool
ids_of_field field = field.schema && is_id field.id

-- all ids in a schema have 32 bits
abbrev pub has_ids : Schema → Bool
has_ids = fold-Schema Bool Bool ids_of ids_of_field

-- all ids in a field have 32 bits
abbrev pub field_has_ids : Field → Bool
field_has_ids = fold-Field Bool Bool ids_of ids_of_field
