-- Laws of the columns of a table: a list is accepted exactly if it is such columns, for then no fault is found in it.
use Rattle.std.specs.declared.option.Option.{Option}
use Rattle.std.specs.declared.option.Option.TheVariants.{None, Some}
use Rattle.std.specs.Prelude.{int_lt, nat_lt, ◌||◌}
use Rattle.std.specs.Bool.{Decides}
use Rattle.std.specs.List.{list_any}
use Rattle.std.specs.Ordering.{int_eq}
use Rattle.std.specs.Str.{bytes_eq}
use Rattle.std.proofs.Common.{◌≡◌, ◌≢◌, ℕ, zero, suc, ◌<◌, ◌≤◌, ℤ, ◌≤ℤ◌, Bool, true, false, List, [], ◌∷◌, ◌++◌, length}
use Rattle.std.proofs.Common.{get_or, take, refl, sym, subst, ◌∙◌, arith, Ok, append_assoc, append-nil, inl, inr}
use Rattle.std.proofs.lemmas.Bool.{or_from, or_parts, le-ltb, ltb-false, false_from_ne_true, false≢true, cases_Bool}
use Rattle.std.proofs.lemmas.Bool.Decides.{Decides-int_eq}
use Rattle.std.proofs.lemmas.Int.{ints}
use Rattle.std.proofs.lemmas.List.{get_or-take, get_or_default, length-take-le}
use Rattle.std.proofs.lemmas.List.Folds.{list_any_none, list_any_at}
use Rattle.std.proofs.lemmas.Slice.Eq.{bytes_eq-Decides}
use Rattle.words.specs.Steps.{bind_ok, ok_is, test_failed}
use Rattle.row_types.specs.declared.column.Column.{Column}
use Rattle.row_types.specs.declared.columns.ColumnsRefusal.{ColumnsRefusal}
use Rattle.row_types.specs.declared.columns.ColumnsRefusal.TheVariants.{Id, Name}
use Rattle.row_types.specs.Columns.{IsColumns, first_fault, has_wrong_id, has_wrong_name, refused, counted, columns_of}

-- ---- columns are accepted

-- if no item is at fault, none is found
none_found : {X : Type 0} (is_fault : List X → X → Bool) (before rest : List X)
    → ((i : ℕ) (d : X) → i < length rest → is_fault (before ++ take i rest) (get_or rest i d) ≡ false)
    → first_fault is_fault before rest ≡ None
none_found is_fault before [] right = refl
none_found is_fault before (x ∷ rest) right =
    let here : is_fault before x ≡ false = rw append-nil at (right 0 x (omega arith)) in
    rw here (none_found is_fault (before ++ x ∷ []) rest (λ i d lt. rw append_assoc (right (suc i) d (omega arith))))

-- so from the start of a list
none_found_from_start : {X : Type 0} (is_fault : List X → X → Bool) (items : List X)
    → ((i : ℕ) (d : X) → i < length items → is_fault (take i items) (get_or items i d) ≡ false)
    → first_fault is_fault [] items ≡ None
none_found_from_start is_fault items right = none_found is_fault [] items right

-- if all earlier items differ from the later one, none has its key
none_before : {X K : Type 0} (eq : K → K → Bool) (same : (a b : K) → Decides (eq a b) (a ≡ b)) (key : X → K)
    (items : List X) (j : ℕ) (d : X) → j < length items
    → ((i : ℕ) → i < j → key (get_or items i d) ≢ key (get_or items j d))
    → list_any (λ x. eq (key x) (key (get_or items j d))) (take j items) ≡ false
none_before eq same key items j d within differ =
    list_any_none (λ x. eq (key x) (key (get_or items j d))) (take j items) (λ i e lt.
    let before : i < j = rw (length-take-le j items (omega arith)) at lt in
    let at : get_or (take j items) i e ≡ get_or items i d =
    get_or_default (take j items) i e d lt ∙ get_or-take j items i d before in
    rw at (false_from_ne_true _ (λ equal. differ i before ((same _ _).0 equal))))

-- a number that is no smaller isn't below
not_below_from : (a b : ℤ) → b ≤ℤ a → int_lt a b ≡ false
not_below_from a b h = grind (arith, ints)

-- the columns of a table are accepted
pub columns_accepted : (list : List Column) → IsColumns list → columns_of list ≡ Ok list
unfolding columns_of
columns_accepted list right =
    let ids : first_fault has_wrong_id [] list ≡ None = none_found_from_start has_wrong_id list (λ j d lt.
    or_from _ _ (or_from _ _ (not_below_from _ _ (right.ids j d lt).0) (not_below_from _ _ (right.ids j d lt).1))
    (none_before int_eq Decides-int_eq (λ (column : Column). column.id) list j d lt
    (λ i before. right.distinct_ids i j d before lt))) in
    let names : first_fault has_wrong_name [] list ≡ None = none_found_from_start has_wrong_name list (λ j d lt.
    or_from _ _ (or_from _ _ (le-ltb _ _ (right.names j d lt).0) (le-ltb _ _ (right.names j d lt).1))
    (none_before bytes_eq bytes_eq-Decides (λ (column : Column). column.name) list j d lt
    (λ i before. right.distinct_names i j d before lt))) in
    let some : nat_lt (length list) 1 ≡ false = le-ltb _ _ right.some in
    let few : nat_lt 200 (length list) ≡ false = le-ltb _ _ right.few in
    rw (some, few, ids, names) refl

-- ---- what is accepted are columns

-- if no fault is found, the first item has none
head_right : {X : Type 0} (is_fault : List X → X → Bool) (before : List X) (x : X) (rest : List X)
    → first_fault is_fault before (x ∷ rest) ≡ None → is_fault before x ≡ false
head_right is_fault before x rest none =
    elim (cases_Bool (is_fault before x)) [
      | inl fault ↦ let found : Some x ≡ None = rw fault at none in cc
      | inr right ↦ right
    ]

-- nor has any other
all_right : {X : Type 0} (is_fault : List X → X → Bool) (before rest : List X) → first_fault is_fault before rest ≡ None
    → (i : ℕ) (d : X) → i < length rest → is_fault (before ++ take i rest) (get_or rest i d) ≡ false
all_right is_fault before [] none i d lt = absurd (omega arith)
all_right is_fault before (x ∷ rest) none zero d lt = rw append-nil (head_right is_fault before x rest none)
all_right is_fault before (x ∷ rest) none (suc i) d lt =
    let right = head_right is_fault before x rest none in
    let none_later : first_fault is_fault (before ++ x ∷ []) rest ≡ None = rw right at none in
    let later = all_right is_fault (before ++ x ∷ []) rest none_later i d (omega arith) in
    rw append_assoc at later

-- if no earlier item has the key of the later one, they differ
apart : {X K : Type 0} (eq : K → K → Bool) (same : (a b : K) → Decides (eq a b) (a ≡ b)) (key : X → K) (items : List X)
    (i j : ℕ) (d : X) → i < j → j < length items
    → list_any (λ x. eq (key x) (key (get_or items j d))) (take j items) ≡ false
    → key (get_or items i d) ≢ key (get_or items j d)
apart eq same key items i j d before within none equal =
    let at : get_or (take j items) i d ≡ get_or items i d = get_or-take j items i d before in
    let inside : i < length (take j items) = rw (length-take-le j items (omega arith)) before in
    let test : eq (key (get_or (take j items) i d)) (key (get_or items j d)) ≡ true = rw at ((same _ _).1 equal) in
    false≢true (sym none ∙ list_any_at (λ x. eq (key x) (key (get_or items j d))) (take j items) i d inside test)

not_below : (a b : ℤ) → int_lt a b ≡ false → b ≤ℤ a
not_below a b h = grind (arith, ints)

-- a list in which no fault is found is the columns of a table
pub are_columns : (list : List Column) → 1 ≤ length list → length list ≤ 200 → first_fault has_wrong_id [] list ≡ None
    → first_fault has_wrong_name [] list ≡ None → IsColumns list
are_columns list some few ids_none names_none =
    let ids = all_right has_wrong_id [] list ids_none in
    let names = all_right has_wrong_name [] list names_none in
    record {
      some = some;
      few = few;
      ids = λ k d lt.
          let parts = or_parts _ _ (or_parts _ _ (ids k d lt)).0 in (not_below _ _ parts.0, not_below _ _ parts.1);
      distinct_ids = λ i j d before within.
          apart int_eq Decides-int_eq (λ (c : Column). c.id) list i j d before within (or_parts _ _ (ids j d within)).1;
      names = λ k d lt.
          let parts = or_parts _ _ (or_parts _ _ (names k d lt)).0 in (ltb-false _ _ parts.0, ltb-false _ _ parts.1);
      distinct_names = λ i j d before within.
          apart bytes_eq bytes_eq-Decides (λ (c : Column). c.name) list i j d before within
          (or_parts _ _ (names j d within)).1;
    }

none_refused : (refusal : Column → ColumnsRefusal) (fault : Option Column) (x : Unit {0})
    → refused refusal fault ≡ Ok x → fault ≡ None
none_refused refusal None x is = refl
none_refused refusal (Some column) x is = absurd cc

-- a list that is accepted is returned
pub accepted_same : (list columns : List Column) → columns_of list ≡ Ok columns → list ≡ columns
unfolding columns_of
accepted_same list columns is =
    let a = bind_ok (counted list) _ columns is in
    let b = bind_ok (refused (λ column. Id column.id) (first_fault has_wrong_id [] list)) _ columns a.2 in
    let c = bind_ok (refused (λ column. Name column.name) (first_fault has_wrong_name [] list)) _ columns b.2 in
    ok_is list columns c.2

-- and it is the columns of a table
pub accepted_columns : (list columns : List Column) → columns_of list ≡ Ok columns → IsColumns columns
unfolding columns_of
accepted_columns list columns is =
    let a = bind_ok (counted list) _ columns is in
    let b = bind_ok (refused (λ column. Id column.id) (first_fault has_wrong_id [] list)) _ columns a.2 in
    let c = bind_ok (refused (λ column. Name column.name) (first_fault has_wrong_name [] list)) _ columns b.2 in
    let count = or_parts _ _ (test_failed (nat_lt (length list) 1 || nat_lt 200 (length list)) _ _ a.0 a.1).0 in
    subst IsColumns (ok_is list columns c.2)
    (are_columns list (ltb-false _ _ count.0) (ltb-false _ _ count.1) (none_refused _ _ b.0 b.1)
    (none_refused _ _ c.0 c.1))
