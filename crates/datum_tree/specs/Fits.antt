-- Which values a schema has: those that bytes spell.
use Rattle.std.specs.Prelude.{ℕ, zero, suc, ◌==◌, ◌^◌, ◌-◌, ℤ, pos, negsuc, int_lt, nat_lt, Bool, true, false, not}
use Rattle.std.specs.Prelude.{◌&&◌, List, [], ◌∷◌, length}
use Rattle.std.specs.List.{list_all}
use Rattle.schema_tree.specs.declared.schema.Schema.{Schema}
use Rattle.schema_tree.specs.declared.schema.Field.{Field}
use Rattle.schema_tree.specs.declared.schema.Schema.TheOpen.{Schema-F, Field-F, Null, Boolean, Int, Long, Float}
use Rattle.schema_tree.specs.declared.schema.Schema.TheOpen.{Double, Raw, Str, Fixed, Enum, Rec, Array, Map, Union}
use Rattle.schema_tree.specs.declared.schema.Schema.TheFolds.{fold-Schema, fold-Field}
use Rattle.datum_tree.specs.declared.datum.Datum.{Datum, out-Datum}
use Rattle.datum_tree.specs.declared.datum.Datum.TheOpen as kinds
use Rattle.datum_tree.specs.Value.{Level, items_in, most_items}

-- whether a value is one of a schema
abbrev pub Test : Type 0
Test = Datum → Bool

-- a number of `count` bits besides its sign
abbrev pub is_signed : ℕ → ℤ → Bool
is_signed bits number = not (int_lt number (negsuc (2 ^ bits - 1))) && int_lt number (pos (2 ^ bits))

-- the place of one of `count`, which is an int
abbrev pub is_place : ℕ → ℤ → Bool
is_place many (pos place) = nat_lt place many && nat_lt place (2 ^ 31)
is_place many (negsuc below) = false

-- a value of each field, in the order of the fields
abbrev pub fits_each : List Test → List Datum → Bool
fits_each [] [] = true
fits_each [] (value ∷ values) = false
fits_each (field ∷ fields) [] = false
fits_each (field ∷ fields) (value ∷ values) = field value && fits_each fields values

-- a value of the branch at the place
abbrev pub fits_branch : List Test → ℕ → Datum → Bool
fits_branch [] place value = false
fits_branch (branch ∷ branches) zero value = branch value
fits_branch (branch ∷ branches) (suc place) value = fits_branch branches place value

-- whether a value is one of a schema, by the tests of the schemas in it
abbrev pub fits_level : Schema-F Test Test → Level → Bool
fits_level Null kinds.Null = true
fits_level Boolean (kinds.Flag flag) = true
fits_level (Int logical) (kinds.Num number) = is_signed 31 number
fits_level (Long logical) (kinds.Num number) = is_signed 63 number
fits_level Float (kinds.Raw bytes) = length bytes == 4
fits_level Double (kinds.Raw bytes) = length bytes == 8
fits_level Raw (kinds.Raw bytes) = true
fits_level Str (kinds.Str text) = true
fits_level (Fixed name size) (kinds.Raw bytes) = length bytes == size
fits_level (Enum name symbols) (kinds.Num number) = is_place (length symbols) number
fits_level (Rec name fields) (kinds.Rec values) = fits_each fields values
fits_level (Array items element_id keyed) (kinds.Array values) = list_all items values
fits_level (Map values key_id value_id) (kinds.Map pairs) = list_all (λ (pair : List ℕ × Datum). values pair.1) pairs
fits_level (Union branches) (kinds.Branch place inside) = nat_lt place (2 ^ 31) && fits_branch branches place inside
fits_level _ _ = false

abbrev pub fits_of : Schema-F Test Test → Test
fits_of schema datum = fits_level schema (out-Datum datum)

-- a field's value is one of its schema
abbrev pub field_test : Field-F Test Test → Test
field_test field = field.schema

-- the value is one of the schema, whatever its items are counted at
abbrev pub fits_schema : Schema → Test
fits_schema = fold-Schema Test Test fits_of field_test

-- the value is one of the field
abbrev pub field_fits : Field → Test
field_fits = fold-Field Test Test fits_of field_test

-- the value is one of the schema, and has no more items of arrays and maps than a value may have
abbrev pub fits : Schema → Test
fits schema datum = fits_schema schema datum && not (nat_lt most_items (items_in datum))
