-- Reading items one after the other, as a loop does, of which i are done.
use Rattle.std.proofs.Common.{◌≡◌, ℕ, ◌+◌, ◌-◌, ◌<◌, ◌≤◌, List, [], ◌∷◌, ◌++◌, Result, Ok, Err, sym, ap, ◌∙◌}
use Rattle.words.specs.Reading.{map_value}
use Rattle.words.specs.Laws.{repeated_on, repeated_fail, repeated_end}
use Rattle.datum_reading.specs.declared.cursor.Cursor.{Cursor}
use Rattle.datum_reading.specs.declared.refusal.DatumRefusal.{DatumRefusal}
use Rattle.datum_reading.specs.Reading.{Reads, item_at, items_at}

-- what reading items answers
abbrev Answer : Type 0 → Type 0
Answer A = Result (List A × Cursor) DatumRefusal

-- an item is refused
pub item_fails : {A : Type 0} (item : Reads A) (count i : ℕ) (before : List A) (input : List ℕ) (at : Cursor) (e : DatumRefusal) (total : Answer A) → i < count → item input at ≡ Err e → items_at item (count - i) before input at ≡ total → total ≡ Err e
unfolding items_at
item_fails item count i before input at e total lt refused so_far = repeated_fail (item_at item input) count i (before, at) e total lt (ap (map_value _) refused) so_far

-- an item is read, and others stand behind it
pub items_on : {A : Type 0} (item : Reads A) (count i : ℕ) (before more : List A) (input : List ℕ) (at : Cursor) (x : A) (after : Cursor) (total : Answer A) → i < count → item input at ≡ Ok (x, after) → more ≡ before ++ x ∷ []
    → items_at item (count - i) before input at ≡ total → items_at item (count - (i + 1)) more input after ≡ total
unfolding items_at
items_on item count i before more input at x after total lt read grown so_far =
    repeated_on (item_at item input) count i (before, at) (more, after) total lt (ap (map_value _) read ∙ ap (λ (xs : List _). Ok (xs, after)) (sym grown)) so_far

-- no item is left
pub items_end : {A : Type 0} (item : Reads A) (count i : ℕ) (before : List A) (input : List ℕ) (at : Cursor) (total : Answer A) → count ≤ i → items_at item (count - i) before input at ≡ total → total ≡ Ok (before, at)
unfolding items_at
items_end item count i before input at total le so_far = repeated_end (item_at item input) count i (before, at) total le so_far
