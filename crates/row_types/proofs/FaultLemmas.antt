-- The first fault of a list, item by item.
use Rattle.std.proofs.Common.{◌≡◌, ℕ, ◌<◌, Bool, true, List, length, get_or, take}
use Rattle.std.proofs.Common.{drop, refl}
use Rattle.std.specs.Prelude.{slice_get}
use Rattle.std.proofs.lemmas.List.{drop_more}
use Rattle.std.proofs.lemmas.Option.{slice_get_read}
use Rattle.row_types.specs.Columns.{first_fault}

-- an item at fault is the first one
pub fault_here : {X : Type 0} (is_fault : List X → X → Bool) (items : List X) (place : ℕ) (x : X) → place < length items → x ≡ get_or items place x → is_fault (take place items) x ≡ true
    → first_fault is_fault (take place items) (drop place items) ≡ slice_get items place
fault_here is_fault items place x within here fault = rw (drop_more items place x within, ← here, fault, slice_get_read items (length items) place x refl within here) refl
