-- What is read of a schema's parts, and what the relation says of them: names, texts, members.
use Rattle.std.proofs.Common.{◌≡◌, ◌≢◌, ℕ, ◌+◌, false, List, [], ◌∷◌, ◌++◌, codes, Option, Some, None, Result, Ok}
use Rattle.std.proofs.Common.{Err, decimal, append_assoc, append-nil, refl, sym, ap, subst, ◌∙◌}
use Rattle.words.specs.Reading.{◌>>=◌}
use Rattle.serde_json.specs.Data.{Data, null, boolean, number, string, array, object, Members}
use Rattle.serde_json.specs.Find.{get_member}
use Rattle.schema_tree.specs.declared.schema.Schema.{Schema}
use Rattle.schema_tree.specs.declared.schema.Field.{Field}
use Rattle.avro_schema.specs.declared.refusal.SchemaRefusal.{SchemaRefusal}
use Rattle.avro_schema.specs.declared.refusal.SchemaRefusal.TheVariants.{Form}
use Rattle.avro_schema.specs.Member.{text_of, or_form, needed, text_at}
use Rattle.avro_schema.specs.Defined.{Seen, is_taken}
use Rattle.schema_tree.specs.Names.{full_name}
use Rattle.avro_schema.specs.Reading.{scope_of, namespace_at, checked_name, name_at, has_field, new_field_name}
use Rattle.avro_schema.specs.Reading.{texts_at, branch_at}
use Rattle.avro_schema.specs.Meaning.{Defines, AreTexts, IsNoUnion}
use Rattle.words.specs.Steps.{bind_then, test_then, ok_is}
use Rattle.avro_schema.proofs.Steps.{form_ok}

-- ---- the name of a definition

-- a name that is read is not taken, and its namespace is a text
checked_then : {P : Type 0} (seen : Seen) (name read : List ℕ) (namespace : Option (Option (List ℕ)))
    → checked_name seen name namespace ≡ Ok read
    → (is_taken seen.names name ≡ false → namespace ≢ Some None → name ≡ read → P) → P
checked_then seen name read None e go =
    test_then (is_taken seen.names name) (Form (codes "name")) (Ok name) read e
    (λ free is. go free (λ h. absurd cc) (ok_is name read is))
checked_then seen name read (Some None) e go =
    test_then (is_taken seen.names name) (Form (codes "name")) (Err (Form (codes "namespace"))) read e
    (λ free is. absurd cc)
checked_then seen name read (Some (Some namespace)) e go =
    test_then (is_taken seen.names name) (Form (codes "name")) (Ok name) read e
    (λ free is. go free (λ h. absurd cc) (ok_is name read is))

-- a name that is not taken, beside a namespace that is a text, is read
checked_only : (seen : Seen) (name : List ℕ) (namespace : Option (Option (List ℕ))) → is_taken seen.names name ≡ false
    → namespace ≢ Some None → checked_name seen name namespace ≡ Ok name
checked_only seen name None free text = rw free refl
checked_only seen name (Some None) free text = absurd (text refl)
checked_only seen name (Some (Some namespace)) free text = rw free refl

-- a name that is read is defined
pub name_found : (scope : List ℕ) (seen : Seen) (members : Members) (name : List ℕ)
    → name_at scope seen members ≡ Ok name → Defines scope seen.names members name
name_found scope seen members name read =
    bind_then (text_at (codes "name") members) _ name read (λ written named rest.
    checked_then seen (full_name (scope_of scope (namespace_at members)) written) name (namespace_at members) rest
    (λ free text full.
    let is : Defines scope seen.names members (full_name (scope_of scope (namespace_at members)) written) = record
    { written = written; named = named; namespace = text; full = refl; free = free } in
    subst (Defines scope seen.names members) full is))

-- a name that is defined is read
pub name_only : (scope : List ℕ) (seen : Seen) (members : Members) (name : List ℕ)
    → Defines scope seen.names members name → name_at scope seen members ≡ Ok name
name_only scope seen members name is =
    ap (λ (r : Result (List ℕ) SchemaRefusal). r >>= λ written. checked_name seen
    (full_name (scope_of scope (namespace_at members)) written) (namespace_at members)) is.named
    ∙ subst (λ (full : List ℕ). checked_name seen full (namespace_at members) ≡ Ok name) is.full
    (checked_only seen name (namespace_at members) is.free is.namespace)

-- ---- the name of a field

-- a name that is read has no field before
pub new_then : {P : Type 0} (before : List Field) (name read : List ℕ) → new_field_name before name ≡ Ok read
    → (has_field before name ≡ false → name ≡ read → P) → P
new_then before name read e go =
    test_then (has_field before name) (Form (codes "name")) (Ok name) read e (λ free is. go free (ok_is name read is))

-- a name that no field before has is read
pub new_only : (before : List Field) (name : List ℕ) → has_field before name ≡ false
    → new_field_name before name ≡ Ok name
new_only before name free = rw free refl

-- ---- members

-- a member that is read is there
pub needed_found : (key : List ℕ) (members : Members) (value : Data) → needed key members ≡ Ok value
    → get_member key members ≡ Some value
needed_found key members value read = form_ok key (get_member key members) value read

-- a member that is there is read
pub needed_only : (key : List ℕ) (members : Members) (value : Data) → get_member key members ≡ Some value
    → needed key members ≡ Ok value
needed_only key pairs value is = ap (or_form key) is

-- ---- texts

-- texts that are read stand behind those before
pub record TextsFound (before : List (List ℕ)) (values : List Data) (all : List (List ℕ)) : Type 0 where
  pub texts : List (List ℕ)
  pub all_is : all ≡ before ++ texts
  pub are : AreTexts values texts

-- values that are read are texts
pub texts_found : (place : ℕ) (before : List (List ℕ)) (values : List Data) (all : List (List ℕ))
    → texts_at place before values ≡ Ok all → TextsFound before values all
unfolding texts_at
texts_found place before [] all read =
    record { texts = []; all_is = sym (ok_is before all read) ∙ sym (append-nil before); are = tt }
texts_found place before (value ∷ values) all read =
    bind_then (or_form (decimal place) (text_of value)) _ all read (λ text text_is rest.
    let others : TextsFound (before ++ text ∷ []) values all = texts_found (place + 1) (before ++ text ∷ []) values
    all rest in
    record {
      texts =
          text ∷ others.texts;
      all_is = others.all_is
          ∙ append_assoc before (text ∷ []) others.texts;
      are = (form_ok (decimal place) (text_of value) text text_is, others.are);
    })

-- values that are texts are read
pub texts_only : (place : ℕ) (before : List (List ℕ)) (values : List Data) (texts : List (List ℕ))
    → AreTexts values texts → texts_at place before values ≡ Ok (before ++ texts)
unfolding texts_at
texts_only place before [] [] are = ap Ok (sym (append-nil before))
texts_only place before [] (text ∷ texts) are = absurd are
texts_only place before (value ∷ values) [] are = absurd are
texts_only place before (value ∷ values) (text ∷ texts) are =
    ap (λ (o : Option (List ℕ)). or_form (decimal place) o >>= λ read. texts_at (place + 1) (before ++ read ∷ [])
    values) are.0
    ∙ texts_only (place + 1) (before ++ text ∷ []) values texts are.1
    ∙ ap Ok (append_assoc before (text ∷ []) texts)

-- ---- branches

-- a branch that is read is no union
pub branch_then : {P : Type 0} (schema_in : Seen → Data → Result (Schema × Seen) SchemaRefusal) (seen : Seen)
    (value : Data) (taken : Schema × Seen) → branch_at schema_in seen value ≡ Ok taken
    → (IsNoUnion value → schema_in seen value ≡ Ok taken → P) → P
branch_then schema_in seen (array items) taken e go = absurd cc
branch_then schema_in seen null taken e go = go (λ items h. absurd cc) e
branch_then schema_in seen (boolean flag) taken e go = go (λ items h. absurd cc) e
branch_then schema_in seen (number num) taken e go = go (λ items h. absurd cc) e
branch_then schema_in seen (string text) taken e go = go (λ items h. absurd cc) e
branch_then schema_in seen (object pairs) taken e go = go (λ items h. absurd cc) e

-- a schema that is no union is read as a branch
pub branch_only : (schema_in : Seen → Data → Result (Schema × Seen) SchemaRefusal) (seen : Seen) (value : Data)
    → IsNoUnion value → branch_at schema_in seen value ≡ schema_in seen value
branch_only schema_in seen (array items) none = absurd (none items refl)
branch_only schema_in seen null none = refl
branch_only schema_in seen (boolean flag) none = refl
branch_only schema_in seen (number num) none = refl
branch_only schema_in seen (string text) none = refl
branch_only schema_in seen (object pairs) none = refl
