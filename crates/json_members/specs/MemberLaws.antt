-- Members without some names: what is left, and what a look-up finds.
use Rattle.std.proofs.Common.{◌≡◌, ℕ, List, [], ◌∷◌, Some, None, Bool, true, false, ◌||◌, cond, if◌then◌else◌}
use Rattle.std.proofs.Common.{Ordering, Less, Equal, Greater, is_eq, nat_cmp, refl, sym, ap, ◌∙◌}
use Rattle.std.proofs.lemmas.Map.Text.{is_eq-slice_cmp}
use Rattle.std.proofs.lemmas.Slice.Eq.{bytes_eq-Decides}
use Rattle.std.specs.Cmp.Lexicographic.{slice_cmp}
use Rattle.std.specs.Ordering.{match_ordering}
use Rattle.std.specs.Str.{bytes_eq}
use Rattle.serde_json.specs.Data.{Data, Members, no_members, member}
use Rattle.serde_json.specs.Find.{get_member}
use Rattle.json_members.specs.Members.{is_among, without}

-- ---- one member

ordered : {A : Type 0} (o : Ordering) (a b : A) → match_ordering o a b a ≡ cond (is_eq o) b a
ordered Less a b = refl
ordered Equal a b = refl
ordered Greater a b = refl

-- a look-up finds the first member's value if the first member has the name
pub get_first : (name key : List ℕ) (d : Data) (ms : Members)
    → get_member name (member key d ms) ≡ cond (bytes_eq name key) (Some d) (get_member name ms)
get_first name key d ms =
    ordered (slice_cmp nat_cmp name key) (get_member name ms) (Some d)
    ∙ ap (λ b. cond b (Some d) (get_member name ms)) (is_eq-slice_cmp name key)

-- two names are one if all their bytes are equal
pub one_name : (a b : List ℕ) → bytes_eq a b ≡ true → a ≡ b
one_name a b is = (bytes_eq-Decides a b).0 is

-- ---- left out

absent_step : (name key : List ℕ) (d : Data) (ms : Members) (b : Bool)
    → (get_member name ms ≡ None → without (name ∷ []) ms ≡ ms) → cond b (Some d) (get_member name ms) ≡ None
    → (if b || false then without (name ∷ []) ms else member key d (without (name ∷ []) ms)) ≡ member key d ms
absent_step name key d ms true rec is = absurd cc
absent_step name key d ms false rec is = ap (member key d) (rec is)

-- leaving out a name that no member has changes nothing
pub without_absent : (name : List ℕ) (ms : Members) → get_member name ms ≡ None → without (name ∷ []) ms ≡ ms
without_absent name no_members none = refl
without_absent name (member key d ms) none =
    absent_step name key d ms (bytes_eq name key) (without_absent name ms) (sym (get_first name key d ms) ∙ none)

more_step : (name key : List ℕ) (names : List (List ℕ)) (d : Data) (rest left : Members) (b : Bool)
    → without names rest ≡ left
    → without names (if b || false then rest else member key d rest) ≡
    (if b || is_among key names then left else member key d left)
more_step name key names d rest left true rec = rec
more_step name key names d rest left false rec = ap (λ kept. if is_among key names then kept else member key d kept) rec

-- names may be left out one after the other
pub without_more : (name : List ℕ) (names : List (List ℕ)) (ms : Members)
    → without names (without (name ∷ []) ms) ≡ without (name ∷ names) ms
without_more name names no_members = refl
without_more name names (member key d ms) =
    more_step name key names d (without (name ∷ []) ms) (without (name ∷ names) ms) (bytes_eq name key)
    (without_more name names ms)

twice_step : (key : List ℕ) (names : List (List ℕ)) (d : Data) (left : Members) (b : Bool) → is_among key names ≡ b
    → without names left ≡ left
    → without names (if b then left else member key d left) ≡ (if b then left else member key d left)
twice_step key names d left true is rec = rec
twice_step key names d left false is rec = rw is (ap (member key d) rec)

-- leaving out twice is leaving out once
pub without_twice : (names : List (List ℕ)) (ms : Members) → without names (without names ms) ≡ without names ms
without_twice names no_members = refl
without_twice names (member key d ms) =
    twice_step key names d (without names ms) (is_among key names) refl (without_twice names ms)

same_among : (name key : List ℕ) (names : List (List ℕ)) → bytes_eq name key ≡ true
    → is_among key names ≡ is_among name names
same_among name key names same = ap (λ (k : List ℕ). is_among k names) (sym (one_name name key same))

left_out_step : (name key : List ℕ) (names : List (List ℕ)) (d : Data) (left : Members) (b same : Bool)
    → is_among name names ≡ true → is_among key names ≡ b → bytes_eq name key ≡ same → get_member name left ≡ None
    → get_member name (if b then left else member key d left) ≡ None
left_out_step name key names d left true same among is named rec = rec
left_out_step name key names d left false true among is named rec =
    absurd (let e : is_among key names ≡ is_among name names = same_among name key names named in cc)
left_out_step name key names d left false false among is named rec =
    get_first name key d left ∙ ap (λ b. cond b (Some d) (get_member name left)) named ∙ rec

-- a look-up of a name that is left out finds nothing
pub get_left_out : (name : List ℕ) (names : List (List ℕ)) (ms : Members) → is_among name names ≡ true
    → get_member name (without names ms) ≡ None
get_left_out name names no_members among = refl
get_left_out name names (member key d ms) among =
    left_out_step name key names d (without names ms) (is_among key names) (bytes_eq name key) among refl refl
    (get_left_out name names ms among)

kept_step : (name key : List ℕ) (names : List (List ℕ)) (d : Data) (left ms : Members) (b same : Bool)
    → is_among name names ≡ false → is_among key names ≡ b → bytes_eq name key ≡ same
    → get_member name left ≡ get_member name ms
    → get_member name (if b then left else member key d left) ≡ cond same (Some d) (get_member name ms)
kept_step name key names d left ms true true among is named rec =
    absurd (let e : is_among key names ≡ is_among name names = same_among name key names named in cc)
kept_step name key names d left ms true false among is named rec = rec
kept_step name key names d left ms false same among is named rec =
    get_first name key d left ∙ ap (λ b. cond b (Some d) (get_member name left)) named
    ∙ ap (λ v. cond same (Some d) v) rec

-- a look-up of another name finds what it found before
pub get_kept : (name : List ℕ) (names : List (List ℕ)) (ms : Members) → is_among name names ≡ false
    → get_member name (without names ms) ≡ get_member name ms
get_kept name names no_members among = refl
get_kept name names (member key d ms) among =
    kept_step name key names d (without names ms) ms (is_among key names) (bytes_eq name key) among refl refl
    (get_kept name names ms among) ∙ sym (get_first name key d ms)

known_step : (name key : List ℕ) (names : List (List ℕ)) (d : Data) (left more : Members) (b : Bool)
    → bytes_eq name key ≡ b → is_among name names ≡ true → more ≡ left
    → (if b || is_among key names then more else member key d more) ≡
    (if is_among key names then left else member key d left)
known_step name key names d left more true named among rec =
    let here : is_among key names ≡ true = same_among name key names named ∙ among in
    rec ∙ ap (λ (b : Bool). if b then left else member key d left) (sym here)
known_step name key names d left more false named among rec =
    ap (λ (kept : Members). if is_among key names then kept else member key d kept) rec

-- a name that is left out twice may be left out once
pub without_known : (name : List ℕ) (names : List (List ℕ)) (ms : Members) → is_among name names ≡ true
    → without (name ∷ names) ms ≡ without names ms
without_known name names no_members among = refl
without_known name names (member key d ms) among =
    known_step name key names d (without names ms) (without (name ∷ names) ms) (bytes_eq name key) refl among
    (without_known name names ms among)
