-- The first required field that a field holds, as a loop does.
use Rattle.std.proofs.Common.{◌≡◌, ℕ, suc, ◌+◌, ◌-◌, ◌<◌, ◌≤◌, true, false, Bool, List, [], ◌∷◌, ◌++◌, length, map}
use Rattle.std.proofs.Common.{get_or, drop, refl, ap, sym, ◌∙◌, arith, append_assoc}
use Rattle.std.specs.Prelude.{if◌then◌else◌}
use Rattle.std.specs.declared.option.Option.{Option}
use Rattle.std.proofs.lemmas.List.{drop_more, drop_all, append-nil}
use Rattle.fields.specs.declared.wanted.Wanted.{Wanted}
use Rattle.fields.specs.declared.leaf.LentLeaf.{LentLeaf}
use Rattle.fields.specs.declared.leaf.Leaf.{Leaf}
use Rattle.fields.specs.Flat.{leaf_of}
use Rattle.fields.specs.Kept.{is_bare, kept, slot_of, behind_slot, slots}
use Rattle.fields.specs.Nulls.{first_of, is_at, is_needed, needed_from}

-- ---- the required field that a field holds

-- it is found
pub first_here : (wanted : List Wanted) (sources : List (Option ℕ)) (index place : ℕ) (w : Wanted) (s : Option ℕ) → index < length wanted → length sources ≡ length wanted
    → is_needed place (get_or wanted index w) (get_or sources index s) ≡ true → first_of (is_at place) (drop index wanted) (drop index sources) ≡ 0
unfolding first_of
first_here wanted sources index place w s within each here =
    rw (drop_more wanted index w within, drop_more sources index s (omega (arith, within, each)), here) refl

-- another one is passed over
pub first_later : (wanted : List Wanted) (sources : List (Option ℕ)) (index place : ℕ) (w : Wanted) (s : Option ℕ) → index < length wanted → length sources ≡ length wanted
    → is_needed place (get_or wanted index w) (get_or sources index s) ≡ false
    → first_of (is_at place) (drop index wanted) (drop index sources) ≡ suc (first_of (is_at place) (drop (index + 1) wanted) (drop (index + 1) sources))
unfolding first_of
first_later wanted sources index place w s within each other =
    rw (drop_more wanted index w within, drop_more sources index s (omega (arith, within, each)), other) refl

-- none is left
pub first_none : (wanted : List Wanted) (sources : List (Option ℕ)) (index place : ℕ) → length wanted ≤ index → first_of (is_at place) (drop index wanted) sources ≡ 0
unfolding first_of
first_none wanted sources index place all = rw (drop_all index wanted all) refl

-- these steps
pub ruleset first_steps = (first_here, first_later, first_none)

-- ---- those that all fields hold

-- one more
pub needed_on : (wanted : List Wanted) (sources : List (Option ℕ)) (place many : ℕ) → place < many
    → needed_from wanted sources place (many - place) ≡ first_of (is_at place) wanted sources ∷ needed_from wanted sources (place + 1) (many - (place + 1))
unfolding needed_from
needed_on wanted sources place many within =
    let left : many - place ≡ suc (many - (place + 1)) = omega (arith, within) in
    rw left refl

-- no field is left
pub needed_end : (wanted : List Wanted) (sources : List (Option ℕ)) (place many : ℕ) → many ≤ place → needed_from wanted sources place (many - place) ≡ []
unfolding needed_from
needed_end wanted sources place many all =
    let left : many - place ≡ 0 = omega (arith, all) in
    rw left refl

-- these steps
pub ruleset needed_steps = (needed_on, needed_end)

-- ---- the fields that take bytes

kept_one : (leaf : Leaf) (leaves : List Leaf) (bare : Bool) → (if bare then kept leaves else leaf ∷ kept leaves) ≡ (if bare then kept [] else leaf ∷ kept []) ++ kept leaves
unfolding kept
kept_one leaf leaves true = refl
kept_one leaf leaves false = refl

-- the first of some fields, and the others
kept_split : (leaf : Leaf) (leaves : List Leaf) → kept (leaf ∷ leaves) ≡ kept (leaf ∷ []) ++ kept leaves
unfolding kept
kept_split leaf leaves = kept_one leaf leaves (is_bare leaf)

-- the fields from a place on are the one there, and those behind it
leaves_from : (lent : List LentLeaf) (place : ℕ) (d : LentLeaf) → place < length lent → map leaf_of (drop place lent) ≡ leaf_of (get_or lent place d) ∷ map leaf_of (drop (place + 1) lent)
leaves_from lent place d within = ap (map leaf_of) (drop_more lent place d within)

-- one more
pub kept_on : (lent : List LentLeaf) (place : ℕ) (d : LentLeaf) → place < length lent
    → kept (map leaf_of (drop place lent)) ≡ kept (leaf_of (get_or lent place d) ∷ []) ++ kept (map leaf_of (drop (place + 1) lent))
kept_on lent place d within = ap kept (leaves_from lent place d within) ∙ kept_split (leaf_of (get_or lent place d)) (map leaf_of (drop (place + 1) lent))

-- no field is left
pub kept_end : (lent : List LentLeaf) (place : ℕ) → length lent ≤ place → kept (map leaf_of (drop place lent)) ≡ []
unfolding kept
kept_end lent place all = rw (drop_all place lent all) refl

-- these steps
pub ruleset kept_steps = (kept_on, kept_end)

-- one more slot
pub slots_on : (lent : List LentLeaf) (many place : ℕ) (d : LentLeaf) → place < length lent
    → slots many (map leaf_of (drop place lent)) ≡ slot_of (is_bare (leaf_of (get_or lent place d))) many ∷ slots (behind_slot (is_bare (leaf_of (get_or lent place d))) many) (map leaf_of (drop (place + 1) lent))
unfolding slots
slots_on lent many place d within = rw (leaves_from lent place d within) refl

-- no field is left
pub slots_end : (lent : List LentLeaf) (many place : ℕ) → length lent ≤ place → slots many (map leaf_of (drop place lent)) ≡ []
unfolding slots
slots_end lent many place all = rw (drop_all place lent all) refl

-- these steps
pub ruleset slots_steps = (slots_on, slots_end)

-- ---- the loops

-- one field more that is kept, or left out
pub kept_step : (lent : List LentLeaf) (place : ℕ) (leaf : LentLeaf) (old new total : List Leaf) → place < length lent → leaf ≡ get_or lent place leaf → new ≡ old ++ kept (leaf_of leaf ∷ [])
    → old ++ kept (map leaf_of (drop place lent)) ≡ total → new ++ kept (map leaf_of (drop (place + 1) lent)) ≡ total
kept_step lent place leaf old new total within is more so_far =
    let rest = kept (map leaf_of (drop (place + 1) lent)) in
    let next = kept_on lent place leaf within ∙ ap (λ (l : LentLeaf). kept (leaf_of l ∷ []) ++ rest) (sym is) in
    ap (λ (ls : List Leaf). ls ++ rest) more ∙ append_assoc old (kept (leaf_of leaf ∷ [])) rest ∙ ap (λ (ls : List Leaf). old ++ ls) (sym next) ∙ so_far

pub kept_done : (lent : List LentLeaf) (place : ℕ) (old total : List Leaf) → length lent ≤ place → old ++ kept (map leaf_of (drop place lent)) ≡ total → old ≡ total
kept_done lent place old total all so_far = sym (append-nil old) ∙ ap (λ (ls : List Leaf). old ++ ls) (sym (kept_end lent place all)) ∙ so_far

-- no more fields take bytes than there are
pub behind_few : (empty : Bool) (many : ℕ) → behind_slot empty many ≤ many + 1
behind_few true many = omega arith
behind_few false many = omega arith

-- one slot more
pub slots_step : (lent : List LentLeaf) (many next place : ℕ) (leaf : LentLeaf) (old new total : List (Option ℕ)) → place < length lent → leaf ≡ get_or lent place leaf → new ≡ old ++ slot_of (is_bare (leaf_of leaf)) many ∷ []
    → next ≡ behind_slot (is_bare (leaf_of leaf)) many → old ++ slots many (map leaf_of (drop place lent)) ≡ total → new ++ slots next (map leaf_of (drop (place + 1) lent)) ≡ total
slots_step lent many next place leaf old new total within is more next_is so_far =
    let others = map leaf_of (drop (place + 1) lent) in
    let here = slots_on lent many place leaf within ∙ ap (λ (l : LentLeaf). slot_of (is_bare (leaf_of l)) many ∷ slots (behind_slot (is_bare (leaf_of l)) many) others) (sym is) in
    ap (λ (n : ℕ). new ++ slots n others) next_is
    ∙ ap (λ (xs : List (Option ℕ)). xs ++ slots (behind_slot (is_bare (leaf_of leaf)) many) others) more
    ∙ append_assoc old (slot_of (is_bare (leaf_of leaf)) many ∷ []) (slots (behind_slot (is_bare (leaf_of leaf)) many) others)
    ∙ ap (λ (xs : List (Option ℕ)). old ++ xs) (sym here) ∙ so_far

pub slots_done : (lent : List LentLeaf) (many place : ℕ) (old total : List (Option ℕ)) → length lent ≤ place → old ++ slots many (map leaf_of (drop place lent)) ≡ total → old ≡ total
slots_done lent many place old total all so_far = sym (append-nil old) ∙ ap (λ (xs : List (Option ℕ)). old ++ xs) (sym (slots_end lent many place all)) ∙ so_far

-- one field more, with the first required field that it holds
pub needed_step : (wanted : List Wanted) (sources : List (Option ℕ)) (place many x : ℕ) (old new total : List ℕ) → place < many → new ≡ old ++ x ∷ [] → x ≡ first_of (is_at place) wanted sources
    → old ++ needed_from wanted sources place (many - place) ≡ total → new ++ needed_from wanted sources (place + 1) (many - (place + 1)) ≡ total
needed_step wanted sources place many x old new total within more is so_far =
    let rest = needed_from wanted sources (place + 1) (many - (place + 1)) in
    ap (λ (ns : List ℕ). ns ++ rest) more ∙ append_assoc old (x ∷ []) rest ∙ ap (λ (n : ℕ). old ++ n ∷ rest) is
    ∙ ap (λ (ns : List ℕ). old ++ ns) (sym (needed_on wanted sources place many within)) ∙ so_far

pub needed_done : (wanted : List Wanted) (sources : List (Option ℕ)) (place many : ℕ) (old total : List ℕ) → many ≤ place → old ++ needed_from wanted sources place (many - place) ≡ total → old ≡ total
needed_done wanted sources place many old total all so_far = sym (append-nil old) ∙ ap (λ (ns : List ℕ). old ++ ns) (sym (needed_end wanted sources place many all)) ∙ so_far

-- no required field is left
pub first_done : (wanted : List Wanted) (sources : List (Option ℕ)) (index place total : ℕ) → index ≤ length wanted → length wanted ≤ index → index + first_of (is_at place) (drop index wanted) (drop index sources) ≡ total → length wanted ≡ total
first_done wanted sources index place total within all so_far = omega (arith, within, all, so_far, first_none wanted (drop index sources) index place all)
