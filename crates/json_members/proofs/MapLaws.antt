-- Members of a map, as those of the object that it is.
use Rattle.std.proofs.Common.{◌≡◌, ℕ, List, [], ◌∷◌, Bor, Option, Some, None, Bool, true, false, ◌||◌, cond}
use Rattle.std.proofs.Common.{if◌then◌else◌, option_map, is_eq, nat_cmp, refl, sym, ap, ◌∙◌}
use Rattle.std.proofs.lemmas.Map.Text.{is_eq-slice_cmp}
use Rattle.std.specs.Cmp.Lexicographic.{slice_cmp}
use Rattle.std.specs.Option.{option_copied}
use Rattle.std.specs.BTreeMap.{BTreeMap, get_by_text, is_at}
use Rattle.std.specs.Map.{remove_entry}
use Rattle.std.specs.Prelude.{String, string_bytes}
use Rattle.std.specs.Str.{bytes_eq}
use Rattle.std.specs.declared.alloc.Global.{Global}
use Rattle.serde_json.specs.Data.{member}
use Rattle.serde_json.specs.Find.{get_member}
use Rattle.serde_json.specs.View.{view, members_view}
use Rattle.serde_json.specs.declared.value.Value.{Value}
use Rattle.serde_json.proofs.Views.{Entry, view-lookup, view_of_ref}
use Rattle.json_members.specs.Members.{without}
use Rattle.json_members.specs.MemberLaws.{get_first, without_absent}

-- what is found in a map is the member of its object
pub found_member : (members : BTreeMap (String Global) Value) (key : List ℕ) (found : Option (Bor Value))
    → option_copied found ≡ get_by_text members key
    → option_map (λ value. view value.now) found ≡ get_member key (members_view members.entries)
found_member members key found is = view_of_ref found ∙ ap (option_map view) is ∙ view-lookup key members.entries

-- what is taken out of a map is the member of its object
pub taken_member : (members : BTreeMap (String Global) Value) (key : List ℕ) (taken : Option Value)
    → taken ≡ get_by_text members key
    → option_map view taken ≡ get_member key (members_view members.entries)
taken_member members key taken is = ap (option_map view) is ∙ view-lookup key members.entries

abbrev at_name : List ℕ → String Global → Bool
at_name name = is_at (λ k. slice_cmp nat_cmp name (string_bytes k))

removed_step : (name : List ℕ) (e : Entry) (es : List Entry) (b is : Bool)
    → (get_member name (members_view (remove_entry (at_name name) es)) ≡ None
    → members_view (remove_entry (at_name name) es) ≡ without (name ∷ []) (members_view es))
    → bytes_eq name (string_bytes e.0) ≡ is → b ≡ is
    → get_member name (members_view (cond b es (e ∷ remove_entry (at_name name) es))) ≡ None
    → members_view (cond b es (e ∷ remove_entry (at_name name) es)) ≡
    (if is || false then without (name ∷ []) (members_view es) else member (string_bytes e.0) (view e.1)
    (without (name ∷ []) (members_view es)))
removed_step name e es true true rec named same left = sym (without_absent name (members_view es) left)
removed_step name e es false false rec named same left =
    let later = members_view (remove_entry (at_name name) es) in
    ap (member (string_bytes e.0) (view e.1))
    (rec (ap (λ b. cond b (Some (view e.1)) (get_member name later)) (sym named)
    ∙ sym (get_first name (string_bytes e.0) (view e.1) later) ∙ left))
removed_step name e es true false rec named same left = absurd cc
removed_step name e es false true rec named same left = absurd cc

-- a map without the entry of a name, if no other entry has the name
pub without_removed : (name : List ℕ) (es : List Entry)
    → get_member name (members_view (remove_entry (is_at (λ k. slice_cmp nat_cmp name (string_bytes k))) es)) ≡ None
    → members_view (remove_entry (is_at (λ k. slice_cmp nat_cmp name (string_bytes k))) es) ≡ without (name ∷ [])
    (members_view es)
without_removed name [] none = refl
without_removed name (e ∷ es) none =
    removed_step name e es (is_eq (slice_cmp nat_cmp name (string_bytes e.0))) (bytes_eq name (string_bytes e.0))
    (without_removed name es) refl (is_eq-slice_cmp name (string_bytes e.0)) none
