-- Steps of the reading.
use Rattle.std.proofs.Common.{◌≡◌, ◌↔◌, ◌==◌, ℕ, suc, List, [], ◌∷◌, length, Option, Some, None}
use Rattle.std.proofs.Common.{option_and_then, Result, Ok, Err, IsOk, codes, true≢false, arith, refl, sym, ap, ◌∙◌}
use Rattle.std.proofs.lemmas.Bool.{ne_eqb}
use Rattle.uuid.specs.Text.{parsed}
use Rattle.words.specs.Reading.{◌>>=◌}
use Rattle.words.specs.Steps.{bind_only}
use Rattle.serde_json.specs.Data.{Data}
use Rattle.serde_json.specs.View.{items_view}
use Rattle.serde_json.specs.declared.value.Value.{Value}
use Rattle.json_members.specs.Rows.{Lookup}
use Rattle.json_members.specs.Values.{text_in}
use Rattle.metadata_reading.specs.declared.refusal.MetaRefusal.{MetaRefusal}
use Rattle.metadata_reading.specs.declared.refusal.MetaRefusal.TheVariants.{Wrong}
use Rattle.metadata_reading.specs.Reading.{uuid_by, head_by}
use Rattle.metadata_reading.specs.Schemas.{are_none}
use Rattle.metadata_reading.specs.Version.{format, version_in, uuid_in, uuid_of}

-- a text that is refused is no id
abbrev no_id : {E : Type 0} → E → Result (List ℕ) E
no_id e = Err e

pub no_uuid : {E : Type 0} (e : E) (text : List ℕ) → (IsOk (no_id e) ↔ ((u : List ℕ) × (parsed text ≡ Some u)))
    → parsed text ≡ None
no_uuid e text ok = by_parsed (parsed text) refl
  where
    by_parsed : (o : Option (List ℕ)) → parsed text ≡ o → o ≡ None
    by_parsed None is = refl
    by_parsed (Some u) is = absurd (true≢false (sym (ok.1 (u, is))))

pub uuid_wrong : (found : Option Data) (text : List ℕ) (e : MetaRefusal) → Some text ≡ text_in found
    → parsed text ≡ None → e ≡ Wrong (codes "table-uuid") → uuid_in found ≡ Err e
uuid_wrong found text e is none wrong =
    ap (λ (o : Option (List ℕ)). uuid_of (option_and_then parsed o)) (sym is) ∙ ap uuid_of none ∙ ap Err (sym wrong)

-- there are no items, or some
pub none_is : (vs : List Value) → (length vs == 0) ≡ are_none (items_view vs)
none_is [] = refl
none_is (v ∷ vs) = ne_eqb (suc (length vs)) 0 (λ is. omega (arith, is))

-- ---- the whole

pub head_is : (found : Lookup) (version : ℕ) (uuid : List ℕ) → version_in (found (codes "format-version")) ≡ Ok version
    → uuid_by (format version) found ≡ Ok uuid → head_by found ≡ Ok (version, uuid)
head_is found version uuid is then =
    bind_only _ _ version _ is (bind_only _ _ uuid _ then refl)

pub head_refused : (found : Lookup) (version : ℕ) (e : MetaRefusal)
    → version_in (found (codes "format-version")) ≡ Ok version → uuid_by (format version) found ≡ Err e
    → head_by found ≡ Err e
head_refused found version e is then =
    bind_only _ _ version _ is
    (ap (λ (r : Result (List ℕ) MetaRefusal). r >>= (λ uuid. Ok (version, uuid))) then)
