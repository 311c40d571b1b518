-- Members with fields: what a look-up finds, and what is left without the fields' names.
use Rattle.std.proofs.Common.{◌≡◌, ℕ, List, [], ◌∷◌, Option, Some, None, Bool, true, false, ◌&&◌, if◌then◌else◌}
use Rattle.std.proofs.Common.{Ordering, Less, Equal, Greater, is_eq, nat_cmp, refl, sym, ap, ◌∙◌}
use Rattle.std.proofs.lemmas.Map.Text.{is_eq-slice_cmp}
use Rattle.std.proofs.lemmas.Slice.Eq.{bytes_eq-Decides}
use Rattle.std.specs.Cmp.Lexicographic.{slice_cmp}
use Rattle.std.specs.Ordering.{match_ordering}
use Rattle.std.specs.Str.{bytes_eq}
use Rattle.serde_json.specs.Data.{Data, Members, no_members, member, put}
use Rattle.serde_json.specs.Find.{get_member}
use Rattle.serde_json.proofs.Views.{get_member-put, get_member-put_other}
use Rattle.json_members.specs.Members.{is_among, without, Field, with_field, with_fields, field_or, found_in}
use Rattle.json_members.specs.Members.{is_field_among, are_among}
use Rattle.json_members.specs.MemberLaws.{one_name}

apart : (a b : List ℕ) (o : Ordering) → slice_cmp nat_cmp a b ≡ o → is_eq o ≡ false → a ≡ b → ⊥
apart a b o is other same =
    let tested : bytes_eq a b ≡ false = sym (is_eq-slice_cmp a b) ∙ ap is_eq is ∙ other in
    let equal : bytes_eq a b ≡ true = (bytes_eq-Decides a b).1 same in
    cc

met : (a b : List ℕ) → slice_cmp nat_cmp a b ≡ Equal → a ≡ b
met a b is = one_name a b (sym (is_eq-slice_cmp a b) ∙ ap is_eq is)

get_put : (name other : List ℕ) (d : Data) (ms : Members) (o : Ordering) → slice_cmp nat_cmp name other ≡ o
    → get_member name (put other d ms) ≡ match_ordering o (get_member name ms) (Some d) (get_member name ms)
get_put name other d ms Less is = get_member-put_other name other d ms (apart name other Less is refl)
get_put name other d ms Equal is =
    ap (λ (k : List ℕ). get_member name (put k d ms)) (sym (met name other is)) ∙ get_member-put name d ms
get_put name other d ms Greater is = get_member-put_other name other d ms (apart name other Greater is refl)

all_same : (o : Ordering) (found : Option Data) → found ≡ match_ordering o found found found
all_same Less found = refl
all_same Equal found = refl
all_same Greater found = refl

-- a look-up in members with a field
pub get_field : (name other : List ℕ) (value : Option Data) (ms : Members)
    → get_member name (with_field other value ms) ≡ field_or name other value (get_member name ms)
get_field name other None ms = all_same (slice_cmp nat_cmp name other) (get_member name ms)
get_field name other (Some d) ms = get_put name other d ms (slice_cmp nat_cmp name other) refl

-- a look-up in members with fields
pub get_fields : (name : List ℕ) (fields : List Field) (ms : Members)
    → get_member name (with_fields fields ms) ≡ found_in name fields (get_member name ms)
get_fields name [] ms = refl
get_fields name (field ∷ fields) ms =
    get_field name field.0 field.1 (with_fields fields ms)
    ∙ ap (field_or name field.0 field.1) (get_fields name fields ms)

-- ---- left out

put_step : (names : List (List ℕ)) (key other : List ℕ) (d e : Data) (ms : Members) (o : Ordering)
    → is_among key names ≡ true → slice_cmp nat_cmp key other ≡ o → without names (put key d ms) ≡ without names ms
    → without names (match_ordering o (member key d (member other e ms)) (member other d ms)
    (member other e (put key d ms))) ≡ without names (member other e ms)
put_step names key other d e ms Less among is rec = rw among refl
put_step names key other d e ms Equal among is rec =
    let here : is_among other names ≡ true = ap (λ (k : List ℕ). is_among k names) (sym (met key other is)) ∙ among in
    rw here refl
put_step names key other d e ms Greater among is rec =
    ap (λ left. if is_among other names then left else member other e left) rec

-- a member that is put at a name and then left out changes nothing
pub without_put : (names : List (List ℕ)) (key : List ℕ) (d : Data) (ms : Members) → is_among key names ≡ true
    → without names (put key d ms) ≡ without names ms
without_put names key d no_members among = rw among refl
without_put names key d (member other e ms) among =
    put_step names key other d e ms (slice_cmp nat_cmp key other) among refl (without_put names key d ms among)

pub both : (a b : Bool) → (a && b) ≡ true → (a ≡ true) × (b ≡ true)
both true true is = (refl, refl)
both true false is = absurd cc
both false b is = absurd cc

without_field : (names : List (List ℕ)) (key : List ℕ) (value : Option Data) (ms : Members)
    → is_field_among key value names ≡ true → without names (with_field key value ms) ≡ without names ms
without_field names key None ms among = refl
without_field names key (Some d) ms among = without_put names key d ms among

-- fields that are all left out change nothing
pub without_fields : (names : List (List ℕ)) (fields : List Field) (ms : Members) → are_among fields names ≡ true
    → without names (with_fields fields ms) ≡ without names ms
without_fields names [] ms among = refl
without_fields names (field ∷ fields) ms among =
    let p = both (is_field_among field.0 field.1 names) (are_among fields names) among in
    without_field names field.0 field.1 (with_fields fields ms) p.0 ∙ without_fields names fields ms p.1
