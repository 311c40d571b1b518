-- Reading without the values, as skipping does.
use Rattle.std.proofs.Common.{◌≡◌, ℕ, zero, suc, List, [], ◌∷◌, ◌++◌, Result, Ok, Err, refl, sym, ap, ◌∙◌}
use Rattle.words.specs.Reading.{◌>>=◌, map_value, repeated}
use Rattle.schema_tree.specs.declared.schema.Schema.{Schema}
use Rattle.datum_reading.specs.declared.cursor.Cursor.{Cursor}
use Rattle.datum_tree.specs.declared.datum.Datum.TheVariants as datums
use Rattle.datum_reading.specs.declared.refusal.DatumRefusal.{DatumRefusal}
use Rattle.datum_reading.specs.Reading.{Reads, item_at, items_at, datum_at}
use Rattle.datum_reading.specs.Readers.{union_at, passed}
use Rattle.datum_reading.specs.Agreeing.{cursor_is}
use Rattle.datum_reading.proofs.BranchSteps.{Chose, union_is}

-- what is passed is read
pub passed_ok : {A : Type 0} (read : Result (A × Cursor) DatumRefusal) (after : Cursor) → passed read ≡ Ok after → (x : A) × (read ≡ Ok (x, after))
passed_ok (Ok (x, at)) after is =
    let same : at ≡ after = cc in
    (x, ap (λ (c : Cursor). Ok (x, c)) same)
passed_ok (Err e) after is = absurd cc

-- what is refused in passing is refused
pub passed_err : {A : Type 0} (read : Result (A × Cursor) DatumRefusal) (e : DatumRefusal) → passed read ≡ Err e → read ≡ Err e
passed_err (Ok x) e is = absurd cc
passed_err (Err d) e is = cc

-- a value seen otherwise ends at the same place
passed_view : {A B : Type 0} (view : A → B) (read : Result (A × Cursor) DatumRefusal) → passed (map_value (λ read. (view read.0, read.1)) read) ≡ passed read
passed_view view (Ok x) = refl
passed_view view (Err e) = refl

-- an item, and those behind it, whatever stands before
item_pass : {A : Type 0} (item : Reads A) (count : ℕ) (before other : List A) (input : List ℕ) (read : Result (A × Cursor) DatumRefusal)
    → ((others mine : List A) (at : Cursor) → passed (repeated (item_at item input) count (others, at)) ≡ passed (repeated (item_at item input) count (mine, at)))
    → passed (map_value (λ read. (before ++ read.0 ∷ [], read.1)) read >>= repeated (item_at item input) count) ≡ passed (map_value (λ read. (other ++ read.0 ∷ [], read.1)) read >>= repeated (item_at item input) count)
item_pass item count before other input (Ok read) rest = rest (before ++ read.0 ∷ []) (other ++ read.0 ∷ []) read.1
item_pass item count before other input (Err e) rest = refl

-- where items end doesn't turn on those before them
pub items_pass : {A : Type 0} (item : Reads A) (count : ℕ) (before other : List A) (input : List ℕ) (at : Cursor) → passed (items_at item count before input at) ≡ passed (items_at item count other input at)
unfolding items_at
items_pass item zero before other input at = refl
items_pass item (suc count) before other input at = item_pass item count before other input (item input at) (λ others mine place. items_pass item count others mine input place)

-- an item that ends where it begins is followed by others that do, and so they all end there
pub items_stay : {A : Type 0} (item : Reads A) (count : ℕ) (before : List A) (input : List ℕ) (at : Cursor) (x : A) → item input at ≡ Ok (x, at) → passed (items_at item count before input at) ≡ Ok at
unfolding items_at
items_stay item zero before input at x read = refl
items_stay item (suc count) before input at x read =
    ap (λ r. passed (map_value (λ read. (before ++ read.0 ∷ [], read.1)) r >>= repeated (item_at item input) count)) read ∙ items_stay item count (before ++ x ∷ []) input at x read

-- and so ends what began before it
pub items_stand : {A : Type 0} (item : Reads A) (count : ℕ) (before : List A) (input : List ℕ) (at : Cursor) (x : A) (after : Cursor) (total : Result (List A × Cursor) DatumRefusal) → item input at ≡ Ok (x, after) → after.place ≡ at.place → after.items ≡ at.items
    → items_at item count before input at ≡ total → passed total ≡ Ok at
items_stand item count before input at x after total read place items so_far =
    let same : after ≡ at = cursor_is after at place items in
    ap passed (sym so_far) ∙ items_stay item count before input at x (read ∙ ap (λ (c : Cursor). Ok (x, c)) same)

-- where a branch's value ends is where the union's does
pub branch_passes : (branches : List Schema) (input : List ℕ) (at : Cursor) (choice : ℕ) (behind : Cursor) (branch : Schema) → Chose branches input at choice behind branch → passed (union_at branches input at) ≡ passed (datum_at branch input behind)
branch_passes branches input at choice behind branch chose = ap passed (union_is branches input at choice behind branch _ chose refl) ∙ passed_view (datums.Branch choice) (datum_at branch input behind)
