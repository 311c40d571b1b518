-- Values without floats that nest at most as deep as a bound: what keeps them so.
use Rattle.std.proofs.Common.{◌≡◌, ℕ, suc, ℤ, pos, negsuc, List, [], ◌∷◌, Option, Some, None, option_map, Bool, true}
use Rattle.std.proofs.Common.{false, ◌||◌, cond, if◌then◌else◌, Ordering, Less, Equal, Greater, nat_cmp, refl, sym, ap}
use Rattle.std.proofs.Common.{subst, ◌∙◌, arith}
use Rattle.std.proofs.lemmas.Bool.{or_parts}
use Rattle.std.specs.Cmp.Lexicographic.{slice_cmp}
use Rattle.std.specs.Ordering.{match_ordering}
use Rattle.std.specs.Str.{bytes_eq}
use Rattle.serde_json.specs.Data.{Data, string, object, array, Items, no_items, item, Members, no_members, member, put}
use Rattle.serde_json.specs.Written.{has_float, items_have_float, members_have_float}
use Rattle.serde_json.specs.Find.{get_member}
use Rattle.json_members.specs.Members.{is_among, without, Field, with_field, with_fields}
use Rattle.json_members.specs.Plain.{IsPlain, ArePlain, ItemsArePlain, FieldIsPlain, FieldsArePlain}
use Rattle.json_members.specs.MemberLaws.{get_first}
use Rattle.json_members.specs.Values.{whole}

plain_more : (room : ℕ) (key : List ℕ) (d : Data) (ms : Members) → IsPlain room d → ArePlain room ms
    → ArePlain room (member key d ms)
plain_more room key d ms here rest =
    record {
      shallow = omega (arith, here.shallow, rest.shallow);
      whole = ap (λ b. b || members_have_float ms) here.whole ∙ rest.whole;
    }

plain_first : (room : ℕ) (key : List ℕ) (d : Data) (ms : Members) → ArePlain room (member key d ms) → IsPlain room d
plain_first room key d ms all =
    record { shallow = omega (arith, all.shallow); whole = (or_parts (has_float d) _ all.whole).0 }

plain_rest : (room : ℕ) (key : List ℕ) (d : Data) (ms : Members) → ArePlain room (member key d ms) → ArePlain room ms
plain_rest room key d ms all =
    record { shallow = omega (arith, all.shallow); whole = (or_parts (has_float d) _ all.whole).1 }

without_step : (room : ℕ) (key : List ℕ) (d : Data) (left : Members) (b : Bool) → IsPlain room d → ArePlain room left
    → ArePlain room (if b then left else member key d left)
without_step room key d left true here rest = rest
without_step room key d left false here rest = plain_more room key d left here rest

-- members with some left out
pub plain_without : (room : ℕ) (names : List (List ℕ)) (ms : Members) → ArePlain room ms
    → ArePlain room (without names ms)
plain_without room names no_members all = all
plain_without room names (member key d ms) all =
    without_step room key d (without names ms) (is_among key names) (plain_first room key d ms all)
    (plain_without room names ms (plain_rest room key d ms all))

put_step : (room : ℕ) (key other : List ℕ) (d e : Data) (ms : Members) (o : Ordering) → IsPlain room d
    → IsPlain room e → ArePlain room ms → ArePlain room (put key d ms)
    → ArePlain room (match_ordering o (member key d (member other e ms)) (member other d ms)
    (member other e (put key d ms)))
put_step room key other d e ms Less here there rest rec =
    plain_more room key d (member other e ms) here (plain_more room other e ms there rest)
put_step room key other d e ms Equal here there rest rec = plain_more room other d ms here rest
put_step room key other d e ms Greater here there rest rec = plain_more room other e (put key d ms) there rec

-- members with one put in
pub plain_put : (room : ℕ) (key : List ℕ) (d : Data) (ms : Members) → IsPlain room d → ArePlain room ms
    → ArePlain room (put key d ms)
plain_put room key d no_members here all = plain_more room key d no_members here all
plain_put room key d (member other e ms) here all =
    let there = plain_first room other e ms all in
    let rest = plain_rest room other e ms all in
    put_step room key other d e ms (slice_cmp nat_cmp key other) here there rest (plain_put room key d ms here rest)

plain_field : (room : ℕ) (key : List ℕ) (value : Option Data) (ms : Members) → FieldIsPlain room value
    → ArePlain room ms → ArePlain room (with_field key value ms)
plain_field room key None ms here all = all
plain_field room key (Some d) ms here all = plain_put room key d ms here all

pub plain_fields : (room : ℕ) (fields : List Field) (ms : Members) → FieldsArePlain room fields → ArePlain room ms
    → ArePlain room (with_fields fields ms)
plain_fields room [] ms here all = all
plain_fields room (field ∷ fields) ms here all =
    plain_field room field.0 field.1 (with_fields fields ms) here.0 (plain_fields room fields ms here.1 all)

found_step : (room : ℕ) (name : List ℕ) (e d : Data) (ms : Members) (b : Bool) → IsPlain room e
    → (get_member name ms ≡ Some d → IsPlain room d) → cond b (Some e) (get_member name ms) ≡ Some d → IsPlain room d
found_step room name e d ms true here rec is = let same : e ≡ d = cc in subst (IsPlain room) same here
found_step room name e d ms false here rec is = rec is

-- the value that a look-up finds
pub plain_found : (room : ℕ) (name : List ℕ) (ms : Members) (d : Data) → ArePlain room ms
    → get_member name ms ≡ Some d → IsPlain room d
plain_found room name no_members d all is = absurd cc
plain_found room name (member key e ms) d all is =
    found_step room name e d ms (bytes_eq name key) (plain_first room key e ms all)
    (plain_found room name ms d (plain_rest room key e ms all)) (sym (get_first name key e ms) ∙ is)

-- ---- lists and objects

pub plain_object : (room : ℕ) (ms : Members) → IsPlain (suc room) (object ms) → ArePlain room ms
plain_object room ms all = record { shallow = omega (arith, all.shallow); whole = all.whole }

pub object_plain : (room : ℕ) (ms : Members) → ArePlain room ms → IsPlain (suc room) (object ms)
object_plain room ms all = record { shallow = omega (arith, all.shallow); whole = all.whole }

pub plain_array : (room : ℕ) (ds : Items) → IsPlain (suc room) (array ds) → ItemsArePlain room ds
plain_array room ds all = record { shallow = omega (arith, all.shallow); whole = all.whole }

pub array_plain : (room : ℕ) (ds : Items) → ItemsArePlain room ds → IsPlain (suc room) (array ds)
array_plain room ds all = record { shallow = omega (arith, all.shallow); whole = all.whole }

pub plain_item : (room : ℕ) (d : Data) (ds : Items) → ItemsArePlain room (item d ds)
    → IsPlain room d × ItemsArePlain room ds
plain_item room d ds all =
    let p = or_parts (has_float d) _ all.whole in (
      record { shallow = omega (arith, all.shallow); whole = p.0 },
      record { shallow = omega (arith, all.shallow); whole = p.1 },
    )

pub item_plain : (room : ℕ) (d : Data) (ds : Items) → IsPlain room d → ItemsArePlain room ds
    → ItemsArePlain room (item d ds)
item_plain room d ds here rest =
    record {
      shallow = omega (arith, here.shallow, rest.shallow);
      whole = ap (λ b. b || items_have_float ds) here.whole ∙ rest.whole;
    }

-- ---- numbers and texts

pub whole_plain : (room : ℕ) (z : ℤ) → IsPlain room (whole z)
whole_plain room (pos n) = record { shallow = omega arith; whole = refl }
whole_plain room (negsuc n) = record { shallow = omega arith; whole = refl }

pub string_plain : (room : ℕ) (s : List ℕ) → IsPlain room (string s)
string_plain room s = record { shallow = omega arith; whole = refl }

-- a number that may be missing
pub number_plain : (room : ℕ) (o : Option ℤ) → FieldIsPlain room (option_map whole o)
number_plain room None = tt
number_plain room (Some z) = whole_plain room z

-- no items
pub none_plain : (room : ℕ) → ItemsArePlain room no_items
none_plain room = record { shallow = omega arith; whole = refl }
