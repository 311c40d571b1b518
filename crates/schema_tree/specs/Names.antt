-- Full names and namespaces. Avro 1.11, "Names".
use Rattle.std.specs.Prelude.{ℕ, ◌==◌, Bool, List, [], ◌∷◌, ◌++◌, codes, if◌then◌else◌}
use Rattle.std.specs.List.{list_any}

-- some byte is a dot
abbrev pub has_dot : List ℕ → Bool
has_dot name = list_any (λ byte. byte == 46) name

-- a name in a namespace: one with a dot is full as it stands; one without is in the namespace, if there is one
abbrev pub full_name : List ℕ → List ℕ → List ℕ
full_name [] name = name
full_name (byte ∷ namespace) name = if has_dot name then name else (byte ∷ namespace) ++ (codes "." ++ name)

-- the namespace of a full name: what comes before its last dot
unfoldable pub namespace_of : List ℕ → List ℕ
namespace_of [] = []
namespace_of (byte ∷ rest) =
    if has_dot (byte ∷ rest)
    then (if byte == 46 then (if has_dot rest then 46 ∷ namespace_of rest else []) else byte ∷ namespace_of rest)
    else []
