-- An input that is not read whole.
use Rattle.std.proofs.Common.{◌≡◌, ◌≢◌, ℕ, ◌+◌, ◌-◌, ◌≤◌, ◌++◌, ◌∙◌, List, [], length, Option, Some, None, refl, sym, ap}
use Rattle.std.proofs.Common.{arith, append_assoc, length-append}
use Rattle.std.specs.Io.KnownBytes.{Consumes, Keeps}
use Rattle.lineage_cli.specs.declared.input.InputRefusal.{InputRefusal}
use Rattle.lineage_cli.specs.declared.input.InputRefusal.TheVariants.{Fault, Limit, Memory}
use Rattle.lineage_cli.specs.Input.{StopsBy}

-- nothing is taken
pub takes_none : (left : Option (List ℕ)) → Consumes left left []
takes_none None = tt
takes_none (Some xs) = refl

-- some bytes are taken, and then none
pub takes_kept : (start mid now : Option (List ℕ)) (bytes : List ℕ) → Consumes start mid bytes → Keeps mid now → Consumes start now bytes
takes_kept None mid now bytes so_far kept = tt
takes_kept (Some xs) None now bytes so_far kept = absurd so_far
takes_kept (Some xs) (Some ys) None bytes so_far kept = absurd kept
takes_kept (Some xs) (Some ys) (Some zs) bytes so_far kept = so_far ∙ ap (λ (l : List ℕ). bytes ++ l) (sym kept)

-- some bytes are taken, and then some more
pub takes_then : (start mid now : Option (List ℕ)) (x y : List ℕ) → Consumes start mid x → Consumes mid now y → Consumes start now (x ++ y)
takes_then None mid now x y p q = tt
takes_then (Some xs) None now x y p q = absurd p
takes_then (Some xs) (Some ys) None x y p q = absurd q
takes_then (Some xs) (Some ys) (Some zs) x y p q = p ∙ (ap (λ (l : List ℕ). x ++ l) q ∙ sym (append_assoc x y zs))

-- no more than most were taken, and then the next piece was not
pub stops_next : (most room : ℕ) (start mid now : Option (List ℕ)) (bytes : List ℕ) (refusal : InputRefusal) → Consumes start mid bytes → length bytes ≤ most → room ≤ most + 1 - length bytes
    → refusal ≢ Limit → (refusal ≡ Fault → Keeps mid now) → (refusal ≡ Memory → (piece : List ℕ) × Consumes mid now piece × length piece ≤ room) → StopsBy most start now refusal
stops_next most room start mid now bytes Fault so_far few fits unlimited kept some = (bytes, takes_kept start mid now bytes so_far (kept refl), few)
stops_next most room start mid now bytes Limit so_far few fits unlimited kept some = absurd (unlimited refl)
stops_next most room start mid now bytes Memory so_far few fits unlimited kept some =
    let more = some refl in
    (bytes ++ more.0, takes_then start mid now bytes more.0 so_far more.1, omega (arith, length-append bytes more.0, more.2, few, fits))
