-- Wanted fields that stand in the order of a record's fields.
use Rattle.std.proofs.Common.{◌≡◌, ℕ, zero, suc, ◌+◌, ◌-◌, ◌<◌, ◌≤◌, List, [], ◌∷◌, ◌++◌, length, map, take, drop, get_or, refl, sym, ap, ap₂, ◌∙◌, subst, arith, append_assoc}
use Rattle.std.specs.Prelude.{replicate}
use Rattle.std.specs.declared.option.Option.{Option}
use Rattle.std.specs.declared.option.Option.TheVariants.{Some, None}
use Rattle.std.proofs.lemmas.List.{take_more, take-append-drop, map-append, length-append, length-replicate, length-map, length-drop, length-take-le, append-nil}
use Rattle.std.proofs.Math.Seq.{take-append_seam, drop-append_seam}
use Rattle.row_types.specs.declared.cell.Cell.{Cell}
use Rattle.row_types.specs.declared.cell.Cell.TheVariants as cells
use Rattle.row_types.specs.declared.cell_ref.CellRef.{CellRef}
use Rattle.row_types.specs.declared.cell_ref.CellRef.TheVariants.{Null}
use Rattle.row_types.specs.CellRef.{lent_cell}
use Rattle.fields.specs.Order.{places_from, AreInOrder}
use Rattle.fields.specs.Record.{pick}

-- ---- how it is found

-- one more, at the end
replicate_more : {A : Type 0} (n : ℕ) (x : A) → replicate (suc n) x ≡ replicate n x ++ x ∷ []
replicate_more zero x = refl
replicate_more {A = A} (suc n) x = ap (λ (l : List A). x ∷ l) (replicate_more n x)

places_more : (place many : ℕ) → places_from place (suc many) ≡ places_from place many ++ Some (place + many) ∷ []
unfolding places_from
places_more place zero = ap (λ (n : ℕ). Some n ∷ []) (omega arith)
places_more place (suc many) =
    let next : place + 1 + many ≡ place + suc many = omega arith in
    ap (λ (l : List (Option ℕ)). Some place ∷ l) (places_more (place + 1) many ∙ ap (λ (n : ℕ). places_from (place + 1) many ++ Some n ∷ []) next)

-- no place is the first of none
pub place_none : [] ≡ places_from 0 0
unfolding places_from
place_none = refl

-- each of the first is its place, and so is the next one
pub place_on : (sources : List (Option ℕ)) (i : ℕ) → i < length sources → get_or sources i None ≡ Some i → take i sources ≡ places_from 0 i → take (i + 1) sources ≡ places_from 0 (i + 1)
place_on sources i lt is so_far =
    let next : suc i ≡ i + 1 = omega arith in
    let same : i ≡ 0 + i = omega arith in
    take_more sources i None lt ∙ (ap₂ (λ (a : List (Option ℕ)) (b : Option ℕ). a ++ b ∷ []) so_far is
    ∙ (ap (λ (n : ℕ). places_from 0 i ++ Some n ∷ []) same ∙ (sym (places_more 0 i) ∙ ap (places_from 0) next)))

-- the two parts, joined
pub in_order : (sources : List (Option ℕ)) (missing many : ℕ) → take missing sources ≡ replicate missing None → drop missing sources ≡ places_from 0 many → AreInOrder sources many missing
in_order sources missing many front back = sym (take-append-drop missing sources) ∙ ap₂ (λ (a b : List (Option ℕ)). a ++ b) front back

-- ---- what it is good for

picks_none : (all : List Cell) (n : ℕ) → map (pick all) (replicate n None) ≡ replicate n cells.Null
picks_none all zero = refl
picks_none all (suc n) = ap (λ (l : List Cell). cells.Null ∷ l) (picks_none all n)

get_behind : (before : List Cell) (cell : Cell) (behind : List Cell) → get_or (before ++ cell ∷ behind) (length before) cells.Null ≡ cell
get_behind [] cell behind = refl
get_behind (b ∷ before) cell behind = get_behind before cell behind

picks_behind : (before all : List Cell) → map (pick (before ++ all)) (places_from (length before) (length all)) ≡ all
unfolding places_from
picks_behind before [] = refl
picks_behind before (cell ∷ all) =
    let more : before ++ cell ∷ all ≡ (before ++ cell ∷ []) ++ all = sym (append_assoc before (cell ∷ []) all) in
    let size : length before + 1 ≡ length (before ++ cell ∷ []) = sym (length-append before (cell ∷ [])) in
    let rest = ap₂ (λ (l : List Cell) (n : ℕ). map (pick l) (places_from n (length all))) more size ∙ picks_behind (before ++ cell ∷ []) all in
    ap₂ (λ (c : Cell) (cs : List Cell). c ∷ cs) (get_behind before cell all) rest

-- what is picked of all cells: nulls, and then the cells in their order
pub picked_in_order : (sources : List (Option ℕ)) (missing : ℕ) (all : List Cell) → AreInOrder sources (length all) missing → map (pick all) sources ≡ replicate missing cells.Null ++ all
picked_in_order sources missing all order =
    ap (map (pick all)) order ∙ (map-append (pick all) (replicate missing None) (places_from 0 (length all))
    ∙ ap₂ (λ (a b : List Cell). a ++ b) (picks_none all missing) (picks_behind [] all))

-- ---- the cells of a record in this order

lent_nulls : (n : ℕ) → map lent_cell (replicate n Null) ≡ replicate n cells.Null
lent_nulls zero = refl
lent_nulls (suc n) = ap (λ (l : List Cell). cells.Null ∷ l) (lent_nulls n)

-- the cells behind the nulls
pub behind_nulls : (missing many : ℕ) (nulls held : List CellRef) → nulls ≡ replicate many Null → many ≡ missing → drop missing (nulls ++ held) ≡ held
behind_nulls missing many nulls held are same =
    let size : missing ≡ length nulls = sym same ∙ (sym (length-replicate many Null) ∙ ap length (sym are)) in
    ap (λ (n : ℕ). drop n (nulls ++ held)) size ∙ drop-append_seam nulls held

-- they are what is picked
pub in_order_picked : (sources : List (Option ℕ)) (missing many some : ℕ) (nulls held : List CellRef) → nulls ≡ replicate some Null → some ≡ missing → length held ≡ many
    → AreInOrder sources many missing → map lent_cell (nulls ++ held) ≡ map (pick (map lent_cell (drop missing (nulls ++ held)))) sources
in_order_picked sources missing many some nulls held are same width order =
    let all = map lent_cell held in
    let wide : length all ≡ many = length-map held lent_cell ∙ width in
    let picked = picked_in_order sources missing all (subst (λ (n : ℕ). AreInOrder sources n missing) (sym wide) order) in
    let front : map lent_cell nulls ≡ replicate missing cells.Null = ap (map lent_cell) are ∙ (lent_nulls some ∙ ap (λ (n : ℕ). replicate n cells.Null) same) in
    map-append lent_cell nulls held ∙ (ap (λ (l : List Cell). l ++ all) front ∙ (sym picked
    ∙ ap (λ (l : List CellRef). map (pick (map lent_cell l)) sources) (sym (behind_nulls missing some nulls held are same))))

-- how many there are
pub places_many : (place many : ℕ) → length (places_from place many) ≡ many
unfolding places_from
places_many place zero = refl
places_many place (suc many) = ap suc (places_many (place + 1) many)

pub order_width : (sources : List (Option ℕ)) (many missing : ℕ) → AreInOrder sources many missing → length sources ≡ missing + many
order_width sources many missing order =
    ap length order ∙ (length-append (replicate missing None) (places_from 0 many) ∙ ap₂ (λ (a b : ℕ). a + b) (length-replicate missing None) (places_many 0 many))

-- ---- cells that are put in two parts

-- the nulls, and then the others
joined : (missing some : ℕ) (nulls rest held tail : List CellRef) → nulls ≡ replicate some Null → some ≡ missing → tail ≡ [] → take missing (nulls ++ rest) ++ (held ++ tail) ≡ nulls ++ held
joined missing some nulls rest held tail are same none =
    let size : missing ≡ length nulls = sym same ∙ (sym (length-replicate some Null) ∙ ap length (sym are)) in
    ap₂ (λ (a b : List CellRef). a ++ b) (ap (λ (n : ℕ). take n (nulls ++ rest)) size ∙ take-append_seam nulls rest) (ap (λ (l : List CellRef). held ++ l) none ∙ append-nil held)

pub parts_picked : (sources : List (Option ℕ)) (missing many some : ℕ) (nulls rest held tail : List CellRef) → nulls ≡ replicate some Null → some ≡ missing → length held ≡ many → tail ≡ []
    → AreInOrder sources many missing → map lent_cell (take missing (nulls ++ rest) ++ (held ++ tail)) ≡ map (pick (map lent_cell (drop missing (take missing (nulls ++ rest) ++ (held ++ tail))))) sources
parts_picked sources missing many some nulls rest held tail are same width none order =
    subst (λ (all : List CellRef). map lent_cell all ≡ map (pick (map lent_cell (drop missing all))) sources)
    (sym (joined missing some nulls rest held tail are same none)) (in_order_picked sources missing many some nulls held are same width order)

-- how many the others are
pub rest_width : (missing some : ℕ) (nulls rest : List CellRef) → nulls ≡ replicate some Null → some ≡ missing → length (take (length (nulls ++ rest) - missing) (drop missing (nulls ++ rest))) ≡ length rest
rest_width missing some nulls rest are same =
    let size : missing ≡ length nulls = sym same ∙ (sym (length-replicate some Null) ∙ ap length (sym are)) in
    let whole = length-append nulls rest in
    let behind = length-drop missing (nulls ++ rest) in
    length-take-le (length (nulls ++ rest) - missing) (drop missing (nulls ++ rest)) (omega (arith, behind)) ∙ omega (arith, whole, size)

-- what is put over all items of a list
pub put_back : (new items : List CellRef) (many : ℕ) → length new ≡ many → take many (new ++ drop (length new) items) ≡ new
put_back new items many same =
    ap (λ (n : ℕ). take n (new ++ drop (length new) items)) (sym same) ∙ take-append_seam new (drop (length new) items)
