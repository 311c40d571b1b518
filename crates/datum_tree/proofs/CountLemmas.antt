-- What is left of the items that a value may have.
use Rattle.std.proofs.Common.{◌≡◌, ℕ, ◌+◌, ◌-◌, ◌<◌, ◌≤◌, List, length, take, map, get_or, Some, None, inl, inr, refl}
use Rattle.std.proofs.Common.{sym, ap, ◌∙◌, arith}
use Rattle.std.specs.List.{sum}
use Rattle.std.proofs.lemmas.Bool.{cases_lt, lt-ltb, le-ltb}
use Rattle.std.proofs.lemmas.List.{length-map}
use Rattle.std.proofs.lemmas.Simd.{map-map}
use Rattle.std.proofs.lemmas.List.Sums.{sum-map, sum_by-take-drop, sum_by-drop_more}
use Rattle.datum_tree.specs.declared.datum.Datum.{Datum}
use Rattle.datum_tree.specs.declared.datum.Datum.TheOpen as kinds
use Rattle.datum_tree.specs.declared.datum.Datum.TheVariants as datums
use Rattle.datum_tree.specs.declared.datum.Datum.TheFolds.{fold-roll-Datum}
use Rattle.datum_tree.specs.Value.{items_of, items_in}
use Rattle.datum_tree.specs.Counting.{items_left, pair_items}

-- more than are left
pub too_many : (left many : ℕ) → left < many → None ≡ items_left left many
too_many left many more = rw (lt-ltb left many more) refl

-- nothing is no number
nothing_there : {n : ℕ} → None ≡ Some n → ⊥
nothing_there h = cc

-- where nothing is left there were more
pub were_too_many : (left many : ℕ) → None ≡ items_left left many → left < many
were_too_many left many none =
    elim (cases_lt left many) [
      | inl more ↦ more
      | inr few ↦ let some : None ≡ Some (left - many) = rw (le-ltb left many few) at none in absurd (nothing_there some)
    ]

-- items that are taken in two parts
pub items_left_in_two : (left first second : ℕ) → first ≤ left → items_left (left - first) second ≡ items_left left (first + second)
items_left_in_two left first second few =
    elim (cases_lt (left - first) second) [
      | inl more ↦ sym (too_many (left - first) second more) ∙ too_many left (first + second) (omega arith)
      | inr rest ↦
          let same : left - first - second ≡ left - (first + second) = omega arith in
          rw (le-ltb (left - first) second rest, le-ltb left (first + second) (omega arith), same) refl
    ]

-- the numbers up to one are no more than all
pub sum_within : {A : Type 0} (f : A → ℕ) (items : List A) (i : ℕ) (item : A) → i < length items → item ≡ get_or items i item → sum (map f (take i items)) + f item ≤ sum (map f items)
sum_within f items i item some is =
    let here : f item ≡ f (get_or items i item) = ap f is in
    rw (sum-map f (take i items), sum-map f items) (omega (arith, here, sum_by-take-drop f items i, sum_by-drop_more f items i item some))

-- more are taken one by one than are left
pub each_too_many : {A : Type 0} (f : A → ℕ) (items : List A) (i : ℕ) (item : A) (rest left : ℕ) → i < length items → item ≡ get_or items i item → rest + sum (map f (take i items)) ≡ left → None ≡ items_left rest (f item)
    → None ≡ items_left left (sum (map f items))
each_too_many f items i item rest left some is so_far none =
    let more : rest < f item = were_too_many rest (f item) none in
    too_many left (sum (map f items)) (omega (arith, sum_within f items i item some is))

-- the items in a map
pub map_items : (pairs : List (List ℕ × Datum)) → items_in (datums.Map pairs) ≡ length pairs + sum (map pair_items pairs)
map_items pairs = ap items_in (sym (datums.rolls-Map pairs)) ∙ (fold-roll-Datum ℕ items_of (kinds.Map pairs) ∙ simp (length-map, map-map))

-- what is left once the items of a map are taken
pub map_taken : (datum : Datum) (pairs lent : List (List ℕ × Datum)) (many left : ℕ) → datum ≡ datums.Map pairs → lent ≡ pairs → many ≡ length pairs → many ≤ left → items_left (left - many) (sum (map pair_items lent)) ≡ items_left left (items_in datum)
map_taken datum pairs lent many left is same count few =
    let all : items_in datum ≡ many + sum (map pair_items pairs) = ap items_in is ∙ (map_items pairs ∙ ap (λ (n : ℕ). n + sum (map pair_items pairs)) (sym count)) in
    ap (λ (l : List (List ℕ × Datum)). items_left (left - many) (sum (map pair_items l))) same
    ∙ (items_left_in_two left many (sum (map pair_items pairs)) few ∙ ap (items_left left) (sym all))
