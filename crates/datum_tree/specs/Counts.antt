-- How many items of arrays and maps stand in each kind of value.
use Rattle.std.proofs.Common.{◌≡◌, ℕ, ◌+◌, Bool, List, [], ◌∷◌, map, refl, sym, ap, ap₂, ◌∙◌}
use Rattle.std.specs.Prelude.{ℤ}
use Rattle.std.specs.List.{sum}
use Rattle.std.proofs.lemmas.List.{length-map}
use Rattle.datum_tree.specs.declared.datum.Datum.{Datum}
use Rattle.datum_tree.specs.declared.datum.Datum.TheOpen as kinds
use Rattle.datum_tree.specs.declared.datum.Datum.TheVariants as datums
use Rattle.datum_tree.specs.declared.datum.Datum.TheViews.{roll-Datum}
use Rattle.datum_tree.specs.declared.datum.Datum.TheFolds.{map-Datum, fold-roll-Datum}
use Rattle.datum_tree.specs.Value.{items_of, items_in}
use Rattle.datum_tree.specs.Sums.{each, each_sum, with_each}

-- of a value by its layer
counts : (datum : Datum) (layer : kinds.Datum-F Datum) → roll-Datum layer ≡ datum
    → items_in datum ≡ items_of (map-Datum Datum ℕ items_in layer)
counts datum layer is = ap items_in (sym is) ∙ fold-roll-Datum ℕ items_of layer

pub counts-Null : items_in datums.Null ≡ 0
counts-Null = counts datums.Null kinds.Null datums.rolls-Null

pub counts-Flag : (flag : Bool) → items_in (datums.Flag flag) ≡ 0
counts-Flag flag = counts (datums.Flag flag) (kinds.Flag flag) (datums.rolls-Flag flag)

pub counts-Num : (number : ℤ) → items_in (datums.Num number) ≡ 0
counts-Num number = counts (datums.Num number) (kinds.Num number) (datums.rolls-Num number)

pub counts-Raw : (bytes : List ℕ) → items_in (datums.Raw bytes) ≡ 0
counts-Raw bytes = counts (datums.Raw bytes) (kinds.Raw bytes) (datums.rolls-Raw bytes)

pub counts-Str : (text : List ℕ) → items_in (datums.Str text) ≡ 0
counts-Str text = counts (datums.Str text) (kinds.Str text) (datums.rolls-Str text)

pub counts-Branch : (place : ℕ) (inside : Datum) → items_in (datums.Branch place inside) ≡ items_in inside
counts-Branch place inside =
    counts (datums.Branch place inside) (kinds.Branch place inside) (datums.rolls-Branch place inside)

pub counts-Rec : (values : List Datum) → items_in (datums.Rec values) ≡ each items_in values
counts-Rec values = counts (datums.Rec values) (kinds.Rec values) (datums.rolls-Rec values) ∙ each_sum items_in values

-- as many values as there are, and the items in each
pub counts-Array : (items : List Datum) → items_in (datums.Array items) ≡ with_each items_in items
counts-Array items =
    counts (datums.Array items) (kinds.Array items) (datums.rolls-Array items)
    ∙ ap₂ (λ (n m : ℕ). n + m) (length-map items items_in) (each_sum items_in items)

-- the items of a pair are those of its value
abbrev pub in_pair : List ℕ × Datum → ℕ
in_pair pair = items_in pair.1

-- the values of pairs whose values are counted
values_counted : (pairs : List (List ℕ × Datum)) → map (λ (pair : List ℕ × ℕ). pair.1)
    (map (λ (pair : List ℕ × Datum). (pair.0, items_in pair.1)) pairs) ≡ map in_pair pairs
values_counted [] = refl
values_counted (pair ∷ pairs) = ap (λ (ns : List ℕ). items_in pair.1 ∷ ns) (values_counted pairs)

pub counts-Map : (pairs : List (List ℕ × Datum)) → items_in (datums.Map pairs) ≡ with_each in_pair pairs
counts-Map pairs =
    counts (datums.Map pairs) (kinds.Map pairs) (datums.rolls-Map pairs)
    ∙ ap₂ (λ (n m : ℕ). n + m)
    (length-map pairs (λ (pair : List ℕ × Datum). (pair.0, items_in pair.1)))
    (ap sum (values_counted pairs) ∙ each_sum in_pair pairs)
