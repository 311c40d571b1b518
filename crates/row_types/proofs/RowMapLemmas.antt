-- A row whose id is above those before it goes to the end.
use Rattle.std.proofs.Common.{◌≡◌, ◌<◌, ℤ, List, [], ◌∷◌, ◌++◌, length, get_or, refl, ap, ◌∙◌, arith, length-append}
use Rattle.std.proofs.Common.{append_assoc}
use Rattle.std.specs.declared.cmp.Ordering.TheVariants.{Less, Greater}
use Rattle.std.specs.Ordering.{int_cmp, ordering_reverse}
use Rattle.std.specs.Map.{keys_of}
use Rattle.std.proofs.lemmas.Cmp.{int_cmp_total}
use Rattle.std.proofs.lemmas.List.{map-append, get_or_at}
use Rattle.std.proofs.lemmas.Map.Keys.{sorted_tail}
use Rattle.std.proofs.lemmas.Map.Views.{All-after_first}
use Rattle.row_types.specs.RowMap.{NamedRow, UnnamedRow, IsRising, with_row}

-- the id of a later row is above the first one
above_first : (first : NamedRow) (rows : List NamedRow) (id : ℤ) (row : UnnamedRow) (rest : List NamedRow) → IsRising (first ∷ rows ++ (id, row) ∷ rest) → int_cmp id first.0 ≡ Greater
above_first first rows id row rest rising =
    let split : keys_of (rows ++ (id, row) ∷ rest) ≡ keys_of rows ++ id ∷ keys_of rest = map-append (λ (e : NamedRow). e.0) rows ((id, row) ∷ rest) in
    let here : get_or (keys_of (rows ++ (id, row) ∷ rest)) (length (keys_of rows)) id ≡ id = rw split (get_or_at (keys_of rows) id (keys_of rest) id (length (keys_of rows)) refl) in
    let within : length (keys_of rows) < length (keys_of (rows ++ (id, row) ∷ rest)) = rw split (omega (arith, length-append (keys_of rows) (id ∷ keys_of rest))) in
    let less : int_cmp first.0 id ≡ Less = rw here at (All-after_first int_cmp first.0 (keys_of (rows ++ (id, row) ∷ rest)) rising (length (keys_of rows)) id within) in
    int_cmp_total.antisymm id first.0 ∙ ap ordering_reverse less

-- so it goes behind all of them
pub with_row-last : (rows : List NamedRow) (id : ℤ) (row : UnnamedRow) (rest : List NamedRow) → IsRising (rows ++ (id, row) ∷ rest) → with_row rows id row ≡ rows ++ (id, row) ∷ []
with_row-last [] id row rest rising = refl
with_row-last (first ∷ rows) id row rest rising =
    rw (above_first first rows id row rest rising) (ap (λ (tail : List NamedRow). first ∷ tail) (with_row-last rows id row rest (sorted_tail int_cmp first.0 _ rising)))

-- a step of the copy: the rows so far and those that are left stay all the rows
pub goes_on : (all so_far left after new : List NamedRow) (id : ℤ) (row copy : UnnamedRow) → so_far ++ left ≡ all → IsRising all → left ≡ (id, row) ∷ after → copy ≡ row → new ≡ with_row so_far id copy → new ++ after ≡ all
goes_on all so_far left after new id row copy parts rising first same grown =
    let whole : so_far ++ (id, row) ∷ after ≡ all = rw first at parts in
    let still : IsRising (so_far ++ (id, row) ∷ after) = rw whole rising in
    let last : with_row so_far id row ≡ so_far ++ (id, row) ∷ [] = with_row-last so_far id row after still in
    rw (grown, same, last, append_assoc so_far ((id, row) ∷ []) after) whole
