-- Readers that did not refuse: what their steps answered.
use Rattle.std.proofs.Common.{◌≡◌, ℕ, ◌+◌, ◌≤◌, Bool, true, false, ◌||◌, if◌then◌else◌, nat_lt, List, Option, Some}
use Rattle.std.proofs.Common.{None, Result, Ok, Err, codes, refl, sym, ap, subst}
use Rattle.std.proofs.lemmas.Bool.{ltb-false, le-ltb}
use Rattle.words.specs.Reading.{◌>>=◌}
use Rattle.words.specs.Steps.{ok_is}
use Rattle.schema_tree.specs.declared.schema.Field.{Field}
use Rattle.avro_schema.specs.declared.refusal.SchemaRefusal.{SchemaRefusal}
use Rattle.avro_schema.specs.declared.refusal.SchemaRefusal.TheVariants.{Form, Nesting}
use Rattle.avro_schema.specs.Refusal.{under}
use Rattle.avro_schema.specs.Member.{or_form}
use Rattle.avro_schema.specs.Defined.{Definitions, Seen}
use Rattle.avro_schema.specs.Reading.{counted, has_field, new_field_name}

-- what is read of a piece is read
pub under_ok : {A : Type 0} (piece : List ℕ) (r : Result A SchemaRefusal) (x : A) → under piece r ≡ Ok x → r ≡ Ok x
under_ok piece (Ok y) x e = cc
under_ok piece (Err d) x e = absurd cc

-- what has a form is there
pub form_ok : {A : Type 0} (piece : List ℕ) (o : Option A) (x : A) → or_form piece o ≡ Ok x → o ≡ Some x
form_ok piece (Some y) x e = cc
form_ok piece None x e = absurd cc

-- the text that is read is the name of a field, where no field before has it
pub field_named : (read : Result (List ℕ) SchemaRefusal) (before : List Field) (text name : List ℕ)
    → read ≡ Ok text → has_field before text ≡ false → name ≡ text → (read >>= new_field_name before) ≡ Ok name
field_named read before text name is new same =
    let fresh =
    subst (λ (taken : Bool). (if taken then Err (Form (codes "name")) else Ok text) ≡ Ok name) (sym new)
    (ap Ok (sym same)) in
    subst (λ (r : Result (List ℕ) SchemaRefusal). (r >>= new_field_name before) ≡ Ok name) (sym is) fresh

-- ---- counts

-- what was met, by its parts
abbrev pub met : Definitions → ℕ → Seen
met names count = record { names = names; count = count }

-- so many more were met
abbrev pub more : Seen → ℕ → Seen
more seen many = record { names = seen.names; count = seen.count + many }

-- two tests that refuse, and neither does
passed : {A P : Type 0} (a b : Bool) (x : Result A SchemaRefusal) (y : A) → (if a || b then Err Nesting else x) ≡ Ok y
    → (a ≡ false → b ≡ false → x ≡ Ok y → P) → P
passed true b x y e go = absurd cc
passed false true x y e go = absurd cc
passed false false x y e go = go refl refl e

-- what is counted fits
pub count_then : {P : Type 0} (room levels many : ℕ) (seen after : Seen) → counted room levels many seen ≡ Ok after
    → (levels ≤ room → seen.count + many ≤ 65536 → more seen many ≡ after → P) → P
count_then room levels many seen after e go =
    passed (nat_lt room levels) (nat_lt 65536 (seen.count + many)) (Ok (more seen many)) after e (λ deep large is.
    go (ltb-false room levels deep) (ltb-false 65536 (seen.count + many) large) (ok_is (more seen many) after is))

-- what fits is counted
pub count_only : (room levels many : ℕ) (seen : Seen) → levels ≤ room → seen.count + many ≤ 65536
    → counted room levels many seen ≡ Ok (more seen many)
count_only room levels many seen deep large =
    both (nat_lt room levels) (nat_lt 65536 (seen.count + many)) (le-ltb room levels deep)
    (le-ltb 65536 (seen.count + many) large)
  where
    both : (a b : Bool) → a ≡ false → b ≡ false
        → (if a || b then Err Nesting else Ok (more seen many)) ≡ Ok (more seen many)
    both true b e f = absurd cc
    both false true e f = absurd cc
    both false false e f = refl
