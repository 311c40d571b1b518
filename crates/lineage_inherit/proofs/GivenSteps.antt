-- The steps of the loops over the manifests of a commit.
use Rattle.std.proofs.Common.{◌≡◌, ℕ, ◌+◌, ◌-◌, ◌^◌, ◌<◌, ℤ, pos, ◌+ℤ◌, ◌≤ℤ◌, int_lt, Bool, true, false, List, [], ◌∷◌, ◌++◌, length, get_or, drop}
use Rattle.std.proofs.Common.{append_assoc, Option, Some, Ok, Err, if◌then◌else◌, None, refl, sym, ap, subst, ◌∙◌, arith}
use Rattle.std.proofs.lemmas.List.{at_drop_more, drop_more}
use Rattle.std.proofs.lemmas.Int.{ints}
use Rattle.std.proofs.Math.IntN.{+ℤ_assoc}
use Rattle.file_types.specs.declared.list_entry.ListEntry.{ListEntry}
use Rattle.lineage_inherit.specs.declared.refusal.InheritRefusal.TheVariants.{IdsSpent}
use Rattle.lineage_inherit.specs.Assignment.{needs_id, rows_given, id_of, assigned_rows, assigned_ids, at_most_max, end_of, assign, AreNatural}

-- ---- one manifest

-- its rows aren't below 0
given_natural : (needs : Bool) (rows : ℤ) → pos 0 ≤ℤ rows → pos 0 ≤ℤ (if needs then rows else pos 0)
given_natural true rows natural = natural
given_natural false rows natural = omega arith

-- the ids from it on
ids_by : (needs : Bool) (next rows : ℤ) (own : Option ℤ) (others : ℤ → List (Option ℤ))
    → (if needs then Some next ∷ others (next +ℤ rows) else own ∷ others next)
    ≡ (if needs then Some next else own) ∷ others (next +ℤ (if needs then rows else pos 0))
ids_by true next rows own others = refl
ids_by false next rows own others =
    let same : next +ℤ pos 0 ≡ next = grind (arith, ints) in
    rw same

-- ---- what is left behind a place

pub ids_on : (ms : List ListEntry) (live : List ℤ) (i : ℕ) (m : ListEntry) (r next : ℤ) → i < length ms → i < length live
    → m ≡ get_or ms i m → r ≡ get_or live i (pos 0)
    → assigned_ids next (drop i ms) (drop i live)
    ≡ id_of next m ∷ assigned_ids (next +ℤ rows_given m r) (drop (i + 1) ms) (drop (i + 1) live)
ids_on ms live i m r next lt lt_live is is_live =
    at_drop_more (λ (rest : List ListEntry). assigned_ids next rest (drop i live)) ms i m lt
    ∙ at_drop_more (λ (rest : List ℤ). assigned_ids next (get_or ms i m ∷ drop (i + 1) ms) rest) live i (pos 0) lt_live
    ∙ ap (λ (rows : ℤ). assigned_ids next (get_or ms i m ∷ drop (i + 1) ms) (rows ∷ drop (i + 1) live)) (sym is_live)
    ∙ ap (λ (manifest : ListEntry). assigned_ids next (manifest ∷ drop (i + 1) ms) (r ∷ drop (i + 1) live)) (sym is)
    ∙ ids_by (needs_id m) next r m.first_row_id (λ (n : ℤ). assigned_ids n (drop (i + 1) ms) (drop (i + 1) live))

pub rows_on : (ms : List ListEntry) (live : List ℤ) (i : ℕ) (m : ListEntry) (r : ℤ) → i < length ms → i < length live
    → m ≡ get_or ms i m → r ≡ get_or live i (pos 0)
    → assigned_rows (drop i ms) (drop i live) ≡ rows_given m r +ℤ assigned_rows (drop (i + 1) ms) (drop (i + 1) live)
rows_on ms live i m r lt lt_live is is_live =
    at_drop_more (λ (rest : List ListEntry). assigned_rows rest (drop i live)) ms i m lt
    ∙ at_drop_more (λ (rest : List ℤ). assigned_rows (get_or ms i m ∷ drop (i + 1) ms) rest) live i (pos 0) lt_live
    ∙ ap (λ (rows : ℤ). assigned_rows (get_or ms i m ∷ drop (i + 1) ms) (rows ∷ drop (i + 1) live)) (sym is_live)
    ∙ ap (λ (manifest : ListEntry). assigned_rows (manifest ∷ drop (i + 1) ms) (r ∷ drop (i + 1) live)) (sym is)

pub natural_on : (live : List ℤ) (i : ℕ) (r : ℤ) → i < length live → r ≡ get_or live i (pos 0) → AreNatural (drop i live)
    → (pos 0 ≤ℤ r) × AreNatural (drop (i + 1) live)
natural_on live i r lt is natural =
    let parts : (pos 0 ≤ℤ get_or live i (pos 0)) × AreNatural (drop (i + 1) live) = subst AreNatural (drop_more live i (pos 0) lt) natural in
    (subst (λ (rows : ℤ). pos 0 ≤ℤ rows) (sym is) parts.0, parts.1)

-- the rows of a manifest aren't below 0
pub one_natural : (m : ListEntry) (r : ℤ) → pos 0 ≤ℤ r → pos 0 ≤ℤ rows_given m r
one_natural m r natural = given_natural (needs_id m) r natural

sum_natural : (a b : ℤ) → pos 0 ≤ℤ a → pos 0 ≤ℤ b → pos 0 ≤ℤ (a +ℤ b)
sum_natural a b first second = omega (arith, ints)

-- nor those of all
pub all_natural : (ms : List ListEntry) (live : List ℤ) → AreNatural live → pos 0 ≤ℤ assigned_rows ms live
all_natural [] live natural = omega arith
all_natural (m ∷ ms) [] natural = omega arith
all_natural (m ∷ ms) (r ∷ live) natural =
    sum_natural (rows_given m r) (assigned_rows ms live) (one_natural m r natural.0) (all_natural ms live natural.1)

-- ---- the sum

at_most_small : (z : ℤ) → int_lt z (pos (2 ^ 63)) ≡ true → at_most_max z ≡ z
at_most_small z is = ap (λ (b : Bool). if b then z else pos (2 ^ 63 - 1)) is

at_most_big : (z : ℤ) → int_lt z (pos (2 ^ 63)) ≡ false → at_most_max z ≡ pos (2 ^ 63 - 1)
at_most_big z is = ap (λ (b : Bool). if b then z else pos (2 ^ 63 - 1)) is

-- rows behind the greatest number
at_top : (rows : ℤ) → pos 0 ≤ℤ rows → at_most_max (pos (2 ^ 63 - 1) +ℤ rows) ≡ pos (2 ^ 63 - 1)
at_top rows natural = by (int_lt (pos (2 ^ 63 - 1) +ℤ rows) (pos (2 ^ 63))) refl
  where
    by : (t : Bool) → int_lt (pos (2 ^ 63 - 1) +ℤ rows) (pos (2 ^ 63)) ≡ t → at_most_max (pos (2 ^ 63 - 1) +ℤ rows) ≡ pos (2 ^ 63 - 1)
    by true is =
        let no_rows : pos (2 ^ 63 - 1) +ℤ rows ≡ pos (2 ^ 63 - 1) = grind (arith, ints) in
        at_most_small (pos (2 ^ 63 - 1) +ℤ rows) is ∙ no_rows
    by false is = at_most_big (pos (2 ^ 63 - 1) +ℤ rows) is

-- a sum that stops at the greatest number stays there
pub most_twice : (sum rows : ℤ) → pos 0 ≤ℤ rows → at_most_max (at_most_max sum +ℤ rows) ≡ at_most_max (sum +ℤ rows)
most_twice sum rows natural = by (int_lt sum (pos (2 ^ 63))) refl
  where
    by : (t : Bool) → int_lt sum (pos (2 ^ 63)) ≡ t → at_most_max (at_most_max sum +ℤ rows) ≡ at_most_max (sum +ℤ rows)
    by true is = ap (λ (z : ℤ). at_most_max (z +ℤ rows)) (at_most_small sum is)
    by false is =
        let spent : int_lt (sum +ℤ rows) (pos (2 ^ 63)) ≡ false = grind (arith, ints) in
        ap (λ (z : ℤ). at_most_max (z +ℤ rows)) (at_most_big sum is) ∙ at_top rows natural ∙ sym (at_most_big (sum +ℤ rows) spent)

-- a sum isn't below 0
pub most_natural : (sum : ℤ) → pos 0 ≤ℤ sum → pos 0 ≤ℤ at_most_max sum
most_natural sum natural = by (int_lt sum (pos (2 ^ 63)))
  where
    by : (t : Bool) → pos 0 ≤ℤ (if t then sum else pos (2 ^ 63 - 1))
    by true = natural
    by false = omega arith

-- the sum goes on
pub sum_goes_on : (ms : List ListEntry) (live : List ℤ) (i : ℕ) (m : ListEntry) (r sum total : ℤ) → i < length ms → i < length live
    → m ≡ get_or ms i m → r ≡ get_or live i (pos 0) → AreNatural (drop (i + 1) live)
    → at_most_max (sum +ℤ assigned_rows (drop i ms) (drop i live)) ≡ total
    → at_most_max (at_most_max (sum +ℤ rows_given m r) +ℤ assigned_rows (drop (i + 1) ms) (drop (i + 1) live)) ≡ total
sum_goes_on ms live i m r sum total lt lt_live is is_live natural so_far =
    most_twice (sum +ℤ rows_given m r) (assigned_rows (drop (i + 1) ms) (drop (i + 1) live)) (all_natural (drop (i + 1) ms) (drop (i + 1) live) natural)
    ∙ ap (λ (z : ℤ). at_most_max z) (+ℤ_assoc sum (rows_given m r) (assigned_rows (drop (i + 1) ms) (drop (i + 1) live)))
    ∙ sym (ap (λ (z : ℤ). at_most_max (sum +ℤ z)) (rows_on ms live i m r lt lt_live is is_live))
    ∙ so_far

-- ---- the ids

some_is : (b : Bool) (z end : ℤ) → (if b then Some z else None) ≡ Some end → z ≡ end
some_is true z end is = cc
some_is false z end is = absurd cc

none_is : (b : Bool) (z : ℤ) → (if b then Some z else None) ≡ None → b ≡ false
none_is true z is = absurd cc
none_is false z is = refl

-- the next id behind a manifest
pub end_is : (next r end : ℤ) (m : ListEntry) → end_of next m r ≡ Some end → next +ℤ rows_given m r ≡ end
end_is next r end m is = some_is (int_lt (next +ℤ rows_given m r) (pos (2 ^ 63))) (next +ℤ rows_given m r) end is

-- the rows go on
pub rows_go_on : (ms : List ListEntry) (live : List ℤ) (i : ℕ) (m : ListEntry) (r next end total : ℤ) → i < length ms → i < length live
    → m ≡ get_or ms i m → r ≡ get_or live i (pos 0) → end_of next m r ≡ Some end
    → next +ℤ assigned_rows (drop i ms) (drop i live) ≡ total
    → end +ℤ assigned_rows (drop (i + 1) ms) (drop (i + 1) live) ≡ total
rows_go_on ms live i m r next end total lt lt_live is is_live fits so_far =
    ap (λ (z : ℤ). z +ℤ assigned_rows (drop (i + 1) ms) (drop (i + 1) live)) (sym (end_is next r end m fits))
    ∙ +ℤ_assoc next (rows_given m r) (assigned_rows (drop (i + 1) ms) (drop (i + 1) live))
    ∙ sym (ap (λ (z : ℤ). next +ℤ z) (rows_on ms live i m r lt lt_live is is_live)) ∙ so_far

-- the ids go on
pub ids_go_on : (ms : List ListEntry) (live : List ℤ) (i : ℕ) (m : ListEntry) (r next end : ℤ) (found total : List (Option ℤ)) → i < length ms → i < length live
    → m ≡ get_or ms i m → r ≡ get_or live i (pos 0) → end_of next m r ≡ Some end
    → found ++ assigned_ids next (drop i ms) (drop i live) ≡ total
    → (found ++ id_of next m ∷ []) ++ assigned_ids end (drop (i + 1) ms) (drop (i + 1) live) ≡ total
ids_go_on ms live i m r next end found total lt lt_live is is_live fits so_far =
    append_assoc found (id_of next m ∷ []) (assigned_ids end (drop (i + 1) ms) (drop (i + 1) live))
    ∙ ap (λ (z : ℤ). found ++ id_of next m ∷ assigned_ids z (drop (i + 1) ms) (drop (i + 1) live)) (sym (end_is next r end m fits))
    ∙ sym (ap (λ (ids : List (Option ℤ)). found ++ ids) (ids_on ms live i m r next lt lt_live is is_live)) ∙ so_far

-- the ids pass the greatest one
pub assign_spent : (ms : List ListEntry) (live : List ℤ) (i : ℕ) (m : ListEntry) (r next start : ℤ) → i < length ms → i < length live
    → m ≡ get_or ms i m → r ≡ get_or live i (pos 0) → end_of next m r ≡ None → AreNatural (drop i live)
    → next +ℤ assigned_rows (drop i ms) (drop i live) ≡ start +ℤ assigned_rows ms live
    → assign start ms live ≡ Err (IdsSpent start (at_most_max (assigned_rows ms live)))
assign_spent ms live i m r next start lt lt_live is is_live none natural so_far =
    let here : int_lt (next +ℤ rows_given m r) (pos (2 ^ 63)) ≡ false =
    none_is (int_lt (next +ℤ rows_given m r) (pos (2 ^ 63))) (next +ℤ rows_given m r) none in
    let others = all_natural (drop (i + 1) ms) (drop (i + 1) live) (natural_on live i r lt_live is_live natural).1 in
    let whole = +ℤ_assoc next (rows_given m r) (assigned_rows (drop (i + 1) ms) (drop (i + 1) live))
    ∙ sym (ap (λ (z : ℤ). next +ℤ z) (rows_on ms live i m r lt lt_live is is_live)) ∙ so_far in
    ap (λ (b : Bool). if b then Ok (assigned_ids start ms live, start +ℤ assigned_rows ms live) else Err (IdsSpent start (at_most_max (assigned_rows ms live))))
    (spent_more (next +ℤ rows_given m r) (assigned_rows (drop (i + 1) ms) (drop (i + 1) live)) (start +ℤ assigned_rows ms live) here others whole)
  where
    spent_more : (a b z : ℤ) → int_lt a (pos (2 ^ 63)) ≡ false → pos 0 ≤ℤ b → a +ℤ b ≡ z → int_lt z (pos (2 ^ 63)) ≡ false
    spent_more a b z passed natural sum = grind (arith, ints)

-- ---- the steps, by what the calls returned

-- the sum isn't below 0
pub sum_still_natural : (m : ListEntry) (r sum given now : ℤ) → pos 0 ≤ℤ r → pos 0 ≤ℤ sum → given ≡ rows_given m r → now ≡ at_most_max (sum +ℤ given)
    → pos 0 ≤ℤ now
sum_still_natural m r sum given now natural begun given_is now_is =
    let more : pos 0 ≤ℤ given = subst (λ (z : ℤ). pos 0 ≤ℤ z) (sym given_is) (one_natural m r natural) in
    subst (λ (z : ℤ). pos 0 ≤ℤ z) (sym now_is) (most_natural (sum +ℤ given) (sum_natural sum given begun more))

-- the sum goes on
pub sum_step : (ms : List ListEntry) (live : List ℤ) (i : ℕ) (m : ListEntry) (r sum given now total : ℤ) → i < length ms → i < length live
    → m ≡ get_or ms i m → r ≡ get_or live i (pos 0) → AreNatural (drop (i + 1) live) → given ≡ rows_given m r → now ≡ at_most_max (sum +ℤ given)
    → at_most_max (sum +ℤ assigned_rows (drop i ms) (drop i live)) ≡ total
    → at_most_max (now +ℤ assigned_rows (drop (i + 1) ms) (drop (i + 1) live)) ≡ total
sum_step ms live i m r sum given now total lt lt_live is is_live natural given_is now_is so_far =
    ap (λ (z : ℤ). at_most_max (z +ℤ assigned_rows (drop (i + 1) ms) (drop (i + 1) live))) (now_is ∙ ap (λ (z : ℤ). at_most_max (sum +ℤ z)) given_is)
    ∙ sum_goes_on ms live i m r sum total lt lt_live is is_live natural so_far

-- the ids go on
pub ids_step : (ms : List ListEntry) (live : List ℤ) (i : ℕ) (m : ListEntry) (r next end : ℤ) (id : Option ℤ) (found now total : List (Option ℤ)) → i < length ms
    → i < length live → m ≡ get_or ms i m → r ≡ get_or live i (pos 0) → end_of next m r ≡ Some end → id ≡ id_of next m → now ≡ found ++ id ∷ []
    → found ++ assigned_ids next (drop i ms) (drop i live) ≡ total
    → now ++ assigned_ids end (drop (i + 1) ms) (drop (i + 1) live) ≡ total
ids_step ms live i m r next end id found now total lt lt_live is is_live fits id_is now_is so_far =
    ap (λ (ids : List (Option ℤ)). ids ++ assigned_ids end (drop (i + 1) ms) (drop (i + 1) live)) (now_is ∙ ap (λ (own : Option ℤ). found ++ own ∷ []) id_is)
    ∙ ids_go_on ms live i m r next end found total lt lt_live is is_live fits so_far
