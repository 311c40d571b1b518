-- What is found at a name, and the value that it means, if the member may be missing.
use Rattle.std.specs.Prelude.{◌≡◌, ⊤, ℤ, pos, Option, Some, None}
use Rattle.serde_json.specs.Data.{Data, null, array, object, Items, Members}
use Rattle.json_members.specs.Form.{natural_of}
use Rattle.json_members.specs.Values.{number_in, natural_in}

-- nothing is found, or null
abbrev pub IsUnset : Option Data → Type 0
IsUnset None = ⊤
IsUnset (Some value) = value ≡ null

-- a number of 64 bits, if one is set
abbrev pub IsLongIfSet : Option Data → Option ℤ → Type 0
IsLongIfSet found None = IsUnset found
IsLongIfSet found (Some z) = number_in found ≡ Some z

-- a number that is not below 0, if one is set
abbrev pub IsNaturalIfSet : Option Data → Option ℤ → Type 0
IsNaturalIfSet found None = IsUnset found
IsNaturalIfSet found (Some z) = natural_in found ≡ Some z

-- a number that is not below 0, or 0 if nothing is found
abbrev pub IsNaturalOr0 : Option Data → ℤ → Type 0
IsNaturalOr0 None z = z ≡ pos 0
IsNaturalOr0 (Some value) z = natural_of value ≡ Some z

-- a list, if anything is found
abbrev pub IsListIfAny : Option Data → Type 0
IsListIfAny None = ⊤
IsListIfAny (Some value) = (items : Items) × (value ≡ array items)

-- an object, if anything is found
abbrev pub IsObjectIfAny : Option Data → Type 0
IsObjectIfAny None = ⊤
IsObjectIfAny (Some value) = (members : Members) × (value ≡ object members)
