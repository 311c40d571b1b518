-- The last dot of a name, looked for from its end.
use Rattle.std.proofs.Common.{◌≡◌, ℕ, zero, suc, ◌<◌, ◌==◌, ◌||◌, Bool, if◌then◌else◌, true, false, List, [], ◌∷◌}
use Rattle.std.proofs.Common.{length, get_or, take, drop, refl, arith}
use Rattle.schema_tree.specs.Names.{has_dot, namespace_of}

-- a dot somewhere in a name
dot_within : (name : List ℕ) (end : ℕ) → end < length name → get_or name end 0 ≡ 46 → has_dot name ≡ true
dot_within [] end within is = absurd (omega arith)
dot_within (byte ∷ rest) zero within is = rw is refl
dot_within (byte ∷ rest) (suc end) within is = or_right (byte == 46) _ (dot_within rest end (omega arith) is)
  where
    or_right : (a b : Bool) → b ≡ true → (a || b) ≡ true
    or_right true b e = refl
    or_right false b e = e

-- the namespace ends where the last dot stands
pub last_dot : (name : List ℕ) (end : ℕ) → end < length name → get_or name end 0 ≡ 46 → has_dot (drop (suc end) name) ≡ false → namespace_of name ≡ take end name
unfolding namespace_of
last_dot [] end within is behind = absurd (omega arith)
last_dot (byte ∷ rest) zero within is behind = rw (is, behind) refl
last_dot (byte ∷ rest) (suc end) within is behind =
    rw (dot_within (byte ∷ rest) (suc end) within is, dot_within rest end (omega arith) is, last_dot rest end (omega arith) is behind) (same byte (take end rest))
  where
    same : (byte : ℕ) (front : List ℕ) → (if byte == 46 then 46 ∷ front else byte ∷ front) ≡ byte ∷ front
    same byte front = grind arith

-- a name without a dot is in no namespace
pub no_dot : (name : List ℕ) → has_dot name ≡ false → namespace_of name ≡ []
unfolding namespace_of
no_dot [] none = refl
no_dot (byte ∷ rest) none = rw none refl
