-- Names that come between others.
use Rattle.std.proofs.Common.{◌≡◌, ℕ, List, [], ◌∷◌, ◌++◌, Bool, true, false, not, ◌&&◌, ◌||◌}
use Rattle.std.proofs.lemmas.Bool.{or_parts}
use Rattle.std.proofs.Common.{if◌then◌else◌, refl, ap, ◌∙◌}
use Rattle.std.specs.Str.{bytes_eq}
use Rattle.serde_json.specs.Data.{Data, Members, no_members, member}
use Rattle.json_members.specs.Members.{is_among, without, lacks}

lacked : (b c : Bool) → (not b && c) ≡ true → (b ≡ false) × (c ≡ true)
lacked true c is = absurd cc
lacked false c is = (refl, is)

pub behind : (key : List ℕ) (middle back : List (List ℕ)) → is_among key back ≡ false → is_among key middle ≡ false
    → is_among key (middle ++ back) ≡ false
behind key [] back is other = is
behind key (name ∷ middle) back is other =
    let p = or_parts (bytes_eq name key) (is_among key middle) other in
    ap (λ (b : Bool). b || is_among key (middle ++ back)) p.0 ∙ behind key middle back is p.1

pub between : (key : List ℕ) (front middle back : List (List ℕ)) → is_among key (front ++ back) ≡ false
    → is_among key middle ≡ false → is_among key (front ++ (middle ++ back)) ≡ false
between key [] middle back is other = behind key middle back is other
between key (name ∷ front) middle back is other =
    let p = or_parts (bytes_eq name key) (is_among key (front ++ back)) is in
    ap (λ (b : Bool). b || is_among key (front ++ (middle ++ back))) p.0 ∙ between key front middle back p.1 other

pub lacks_step : (front middle back : List (List ℕ)) (key : List ℕ) (d : Data) (left : Members) (b : Bool)
    → is_among key middle ≡ b → is_among key (front ++ back) ≡ false → lacks (front ++ (middle ++ back)) left ≡ true
    → lacks (front ++ (middle ++ back)) (if b then left else member key d left) ≡ true
lacks_step front middle back key d left true is other rest = rest
lacks_step front middle back key d left false is other rest =
    ap (λ (b : Bool). not b && lacks (front ++ (middle ++ back)) left) (between key front middle back other is) ∙ rest

-- members that lack some names, without names between these, lack them all
pub lacks_between : (front middle back : List (List ℕ)) (ms : Members) → lacks (front ++ back) ms ≡ true
    → lacks (front ++ (middle ++ back)) (without middle ms) ≡ true
lacks_between front middle back no_members h = refl
lacks_between front middle back (member key d ms) h =
    let p = lacked (is_among key (front ++ back)) (lacks (front ++ back) ms) h in
    lacks_step front middle back key d (without middle ms) (is_among key middle) refl p.0
    (lacks_between front middle back ms p.1)
