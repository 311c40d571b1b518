-- Members that lack some names.
use Rattle.std.proofs.Common.{◌≡◌, ℕ, List, None, Bool, true, false, not, ◌&&◌, if◌then◌else◌, Ordering, Less, Equal}
use Rattle.std.proofs.Common.{Greater, nat_cmp, refl, sym, ap, ◌∙◌}
use Rattle.std.specs.Cmp.Lexicographic.{slice_cmp}
use Rattle.std.specs.Ordering.{match_ordering}
use Rattle.serde_json.specs.Data.{Data, Members, no_members, member, put}
use Rattle.serde_json.specs.Find.{get_member}
use Rattle.json_members.specs.Members.{is_among, without, lacks}
use Rattle.json_members.specs.MemberLaws.{get_left_out}

none : (b c : Bool) → (not b && c) ≡ true → (b ≡ false) × (c ≡ true)
none true c is = absurd cc
none false c is = (refl, is)

-- if members lack the names, leaving these out changes nothing
pub without_lacking : (names : List (List ℕ)) (ms : Members) → lacks names ms ≡ true → without names ms ≡ ms
without_lacking names no_members h = refl
without_lacking names (member key d ms) h =
    let p = none (is_among key names) (lacks names ms) h in
    ap (λ (b : Bool). if b then without names ms else member key d (without names ms)) p.0
    ∙ ap (member key d) (without_lacking names ms p.1)

lacks_step : (names : List (List ℕ)) (key : List ℕ) (d : Data) (left : Members) (b c : Bool) → is_among key names ≡ c
    → lacks names left ≡ true → (b ≡ false → c ≡ false) → lacks names (if b then left else member key d left) ≡ true
lacks_step names key d left true c is rest other = rest
lacks_step names key d left false c is rest other =
    ap (λ (b : Bool). not b && lacks names left) (is ∙ other refl) ∙ rest

-- members without the names lack them
pub lacks_without : (names : List (List ℕ)) (ms : Members) → lacks names (without names ms) ≡ true
lacks_without names no_members = refl
lacks_without names (member key d ms) =
    lacks_step names key d (without names ms) (is_among key names) (is_among key names) refl (lacks_without names ms)
    (λ h. h)

-- members that lack the names still do if others are left out
pub lacks_left : (names others : List (List ℕ)) (ms : Members) → lacks names ms ≡ true
    → lacks names (without others ms) ≡ true
lacks_left names others no_members h = refl
lacks_left names others (member key d ms) h =
    let p = none (is_among key names) (lacks names ms) h in
    lacks_step names key d (without others ms) (is_among key others) (is_among key names) refl
    (lacks_left names others ms p.1) (λ _. p.0)

put_step : (names : List (List ℕ)) (key other : List ℕ) (d e : Data) (ms : Members) (o : Ordering)
    → is_among key names ≡ false → is_among other names ≡ false → lacks names ms ≡ true
    → lacks names (put key d ms) ≡ true
    → lacks names (match_ordering o (member key d (member other e ms)) (member other d ms)
    (member other e (put key d ms))) ≡ true
put_step names key other d e ms Less here there rest rec =
    ap (λ (b : Bool). not b && lacks names (member other e ms)) here
    ∙ ap (λ (b : Bool). not b && lacks names ms) there ∙ rest
put_step names key other d e ms Equal here there rest rec = ap (λ (b : Bool). not b && lacks names ms) there ∙ rest
put_step names key other d e ms Greater here there rest rec =
    ap (λ (b : Bool). not b && lacks names (put key d ms)) there ∙ rec

-- members that lack the names still do if a member of another name is put in
pub lacks_put : (names : List (List ℕ)) (key : List ℕ) (d : Data) (ms : Members) → is_among key names ≡ false
    → lacks names ms ≡ true → lacks names (put key d ms) ≡ true
lacks_put names key d no_members other h = ap (λ (b : Bool). not b && true) other
lacks_put names key d (member name e ms) other h =
    let p = none (is_among name names) (lacks names ms) h in
    put_step names key name d e ms (slice_cmp nat_cmp key name) other p.0 p.1 (lacks_put names key d ms other p.1)

-- a look-up of a name that is lacked finds nothing
pub get_lacked : (name : List ℕ) (names : List (List ℕ)) (ms : Members) → is_among name names ≡ true
    → lacks names ms ≡ true → get_member name ms ≡ None
get_lacked name names ms among h =
    ap (get_member name) (sym (without_lacking names ms h)) ∙ get_left_out name names ms among
