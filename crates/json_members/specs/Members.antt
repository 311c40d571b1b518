-- Members of an object: without some names, and with some fields.
use Rattle.std.specs.Prelude.{ℕ, List, [], ◌∷◌, Bool, true, false, ◌||◌, ◌&&◌, not, if◌then◌else◌, Option, Some, None}
use Rattle.std.specs.Str.{bytes_eq}
use Rattle.std.specs.Ordering.{nat_cmp, match_ordering}
use Rattle.std.specs.Cmp.Lexicographic.{slice_cmp}
use Rattle.serde_json.specs.Data.{Data, Members, no_members, member, put}

-- the name is among these
abbrev pub is_among : List ℕ → List (List ℕ) → Bool
is_among name [] = false
is_among name (other ∷ others) = bytes_eq other name || is_among name others

-- the members whose names are not among these
abbrev pub without : List (List ℕ) → Members → Members
without names no_members = no_members
without names (member name value members) =
    if is_among name names then without names members else member name value (without names members)

-- no member has one of these names
abbrev pub lacks : List (List ℕ) → Members → Bool
lacks names no_members = true
lacks names (member name value members) = not (is_among name names) && lacks names members

-- a name, and the value that is printed at it, if there is one
abbrev pub Field : Type 0
Field = List ℕ × Option Data

-- the members, with a field
abbrev pub with_field : List ℕ → Option Data → Members → Members
with_field name None members = members
with_field name (Some value) members = put name value members

-- the members, with these fields
abbrev pub with_fields : List Field → Members → Members
with_fields [] members = members
with_fields (field ∷ fields) members = with_field field.0 field.1 (with_fields fields members)

-- the value if there is one, else what is found elsewhere
abbrev pub first_of : Option Data → Option Data → Option Data
first_of None elsewhere = elsewhere
first_of (Some value) elsewhere = Some value

-- the field's value if the name is the field's, else what is found elsewhere
abbrev pub field_or : List ℕ → List ℕ → Option Data → Option Data → Option Data
field_or name other value elsewhere =
    match_ordering (slice_cmp nat_cmp name other) elsewhere (first_of value elsewhere) elsewhere

-- the value of the field that has the name, else what is found elsewhere
abbrev pub found_in : List ℕ → List Field → Option Data → Option Data
found_in name [] elsewhere = elsewhere
found_in name (field ∷ fields) elsewhere = field_or name field.0 field.1 (found_in name fields elsewhere)

-- if the field has a value, its name is among these
abbrev pub is_field_among : List ℕ → Option Data → List (List ℕ) → Bool
is_field_among name None names = true
is_field_among name (Some value) names = is_among name names

-- the name of each field that has a value is among these
abbrev pub are_among : List Field → List (List ℕ) → Bool
are_among [] names = true
are_among (field ∷ fields) names = is_field_among field.0 field.1 names && are_among fields names
