-- Items that are read one behind the other: one that is read, one that is refused, and none left.
use Rattle.std.proofs.Common.{◌≡◌, ℕ, ◌+◌, ◌<◌, ◌≤◌, List, [], ◌∷◌, ◌++◌, length, map, get_or, drop, Bool, true}
use Rattle.std.proofs.Common.{false, true≢false, Ok, Err, Result, refl, sym, ap, ◌∙◌}
use Rattle.std.proofs.lemmas.List.{at_drop_more, drop_all}
use Rattle.std.specs.Fmt.{decimal}
use Rattle.std.specs.Bool.{OnFalse}
use Rattle.words.specs.Reading.{◌>>=◌, Gives, map_value}
use Rattle.serde_json.specs.Data.{Data}
use Rattle.serde_json.specs.View.{view}
use Rattle.serde_json.specs.declared.value.Value.{Value}
use Rattle.schema_tree.specs.declared.schema.Schema.{Schema}
use Rattle.schema_tree.specs.declared.schema.Field.{Field}
use Rattle.avro_schema.specs.declared.refusal.SchemaRefusal.{SchemaRefusal}
use Rattle.avro_schema.specs.declared.refusal.SchemaRefusal.TheVariants.{NotJson, Form, Unknown, Nesting, Memory}
use Rattle.avro_schema.specs.Refusal.{is_memory, refusal_under, under}
use Rattle.avro_schema.specs.Member.{or_form, text_of}
use Rattle.avro_schema.specs.Defined.{Seen}
use Rattle.avro_schema.specs.Reading.{texts_at, field_at, fields_at, branch_at, branches_at}

-- a list from the item at a place on
at_item : {B : Type 0} (f : List Data → B) (values : List Value) (i : ℕ) (value : Value) → i < length values → value ≡ get_or values i value
    → f (map view (drop i values)) ≡ f (view value ∷ map view (drop (i + 1) values))
at_item f values i value within is = at_drop_more (λ (vs : List Value). f (map view vs)) values i value within ∙ rw (← is) refl

-- no item is left
past_items : {B : Type 0} (f : List Data → B) (values : List Value) (i : ℕ) → length values ≤ i → f (map view (drop i values)) ≡ f []
past_items f values i over = ap (λ (vs : List Value). f (map view vs)) (drop_all i values over)

-- a reader goes on from what was read
bound : {A B : Type 0} (read : Result A SchemaRefusal) (next : A → Result B SchemaRefusal) (x : A) → read ≡ Ok x → (read >>= next) ≡ next x
bound read next x is = ap (λ r. r >>= next) is

-- a reader stops at a refusal
stopped : {A B : Type 0} (read : Result A SchemaRefusal) (next : A → Result B SchemaRefusal) (e : SchemaRefusal) → read ≡ Err e → (read >>= next) ≡ Err e
stopped read next e is = ap (λ r. r >>= next) is

-- ---- texts

module _ (place : ℕ) (before : List (List ℕ)) (values : List Value) (i : ℕ) (total : Result (List (List ℕ)) SchemaRefusal) where
  texts_here : (value : Value) → i < length values → value ≡ get_or values i value → texts_at place before (map view (drop i values)) ≡ total
      → (or_form (decimal place) (text_of (view value)) >>= λ text. texts_at (place + 1) (before ++ text ∷ []) (map view (drop (i + 1) values))) ≡ total
  unfolding texts_at
  texts_here value within is so_far = sym (at_item (texts_at place before) values i value within is) ∙ so_far

  pub texts_on : (value : Value) (text : List ℕ) → i < length values → value ≡ get_or values i value → texts_at place before (map view (drop i values)) ≡ total
      → or_form (decimal place) (text_of (view value)) ≡ Ok text → texts_at (place + 1) (before ++ text ∷ []) (map view (drop (i + 1) values)) ≡ total
  texts_on value text within is so_far read = sym (bound _ _ text read) ∙ texts_here value within is so_far

  pub texts_fail : (value : Value) (e : SchemaRefusal) → i < length values → value ≡ get_or values i value → texts_at place before (map view (drop i values)) ≡ total
      → or_form (decimal place) (text_of (view value)) ≡ Err e → total ≡ Err e
  texts_fail value e within is so_far read = sym (texts_here value within is so_far) ∙ stopped _ _ e read

  pub texts_end : length values ≤ i → texts_at place before (map view (drop i values)) ≡ total → total ≡ Ok before
  unfolding texts_at
  texts_end over so_far = sym so_far ∙ past_items (texts_at place before) values i over

-- ---- what is read of a piece

-- whether a reader answered a value
abbrev has_value : {A : Type 0} → Result A SchemaRefusal → Bool
has_value (Ok x) = true
has_value (Err e) = false

-- the refusal, where there is one
abbrev cause : {A : Type 0} → Result A SchemaRefusal → SchemaRefusal
cause (Ok x) = Memory
cause (Err e) = e

-- what is read of a piece is what the code read of it
pub under_gives : {A B : Type 0} (piece : List ℕ) (seen : A → B) (result : Result A SchemaRefusal) (read : Result B SchemaRefusal) (x : A)
    → Gives is_memory seen result read → under piece result ≡ Ok x → under piece read ≡ Ok (seen x)
under_gives piece seen (Ok y) read x given is = ap (under piece) given ∙ ap (map_value seen) is
under_gives piece seen (Err e) read x given is = absurd (true≢false (sym (ap has_value is)))

-- a refusal that is memory's under a piece was memory's before
memory_under : (piece : List ℕ) (e : SchemaRefusal) → is_memory (refusal_under piece e) ≡ is_memory e
memory_under piece NotJson = refl
memory_under piece (Form path) = refl
memory_under piece (Unknown name) = refl
memory_under piece Nesting = refl
memory_under piece Memory = refl

-- what is refused for certain
certain : (b : Bool) {P : Type 0} → b ≡ false → OnFalse b P → P
certain true is h = absurd (true≢false is)
certain false is h = h

-- it suffices to look at answers that are not memory's
unless_memory : (b : Bool) {P : Type 0} → (b ≡ false → P) → OnFalse b P
unless_memory true h = tt
unless_memory false h = h refl

-- a refusal of the piece is one of what is read of it
pub under_refuses : {A B : Type 0} (piece : List ℕ) (seen : A → B) (result : Result A SchemaRefusal) (read : Result B SchemaRefusal) (e : SchemaRefusal)
    → Gives is_memory seen result read → OnFalse (is_memory e) (under piece result ≡ Err e) → OnFalse (is_memory e) (under piece read ≡ Err e)
under_refuses piece seen (Ok y) read e given refused = unless_memory (is_memory e) (λ free. absurd (true≢false (ap has_value (certain (is_memory e) free refused))))
under_refuses piece seen (Err r) read e given refused = unless_memory (is_memory e) (λ free.
    let is : refusal_under piece r ≡ e = ap cause (certain (is_memory e) free refused) in
    let kept : is_memory r ≡ false = sym (memory_under piece r) ∙ ap is_memory is ∙ free in
    ap (under piece) (certain (is_memory r) kept given) ∙ ap Err is)

-- ---- fields

module _ (schema_in : Seen → Data → Result (Schema × Seen) SchemaRefusal) (place : ℕ) (before : List Field) (seen : Seen) (values : List Value) (i : ℕ) (total : Result (List Field × Seen) SchemaRefusal) where
  fields_here : (value : Value) → i < length values → value ≡ get_or values i value → fields_at schema_in place before seen (map view (drop i values)) ≡ total
      → (under (decimal place) (field_at schema_in before seen (view value)) >>= λ field. fields_at schema_in (place + 1) (before ++ field.0 ∷ []) field.1 (map view (drop (i + 1) values))) ≡ total
  unfolding fields_at
  fields_here value within is so_far = sym (at_item (fields_at schema_in place before seen) values i value within is) ∙ so_far

  pub fields_on : (value : Value) (field : Field) (after : Seen) → i < length values → value ≡ get_or values i value → fields_at schema_in place before seen (map view (drop i values)) ≡ total
      → under (decimal place) (field_at schema_in before seen (view value)) ≡ Ok (field, after) → fields_at schema_in (place + 1) (before ++ field ∷ []) after (map view (drop (i + 1) values)) ≡ total
  fields_on value field after within is so_far read = sym (bound _ _ (field, after) read) ∙ fields_here value within is so_far

  pub fields_fail : (value : Value) (e : SchemaRefusal) → i < length values → value ≡ get_or values i value → fields_at schema_in place before seen (map view (drop i values)) ≡ total
      → under (decimal place) (field_at schema_in before seen (view value)) ≡ Err e → total ≡ Err e
  fields_fail value e within is so_far read = sym (fields_here value within is so_far) ∙ stopped _ _ e read

  pub fields_end : length values ≤ i → fields_at schema_in place before seen (map view (drop i values)) ≡ total → total ≡ Ok (before, seen)
  unfolding fields_at
  fields_end over so_far = sym so_far ∙ past_items (fields_at schema_in place before seen) values i over

-- ---- branches

module _ (schema_in : Seen → Data → Result (Schema × Seen) SchemaRefusal) (place : ℕ) (before : List Schema) (seen : Seen) (values : List Value) (i : ℕ) (total : Result (List Schema × Seen) SchemaRefusal) where
  branches_here : (value : Value) → i < length values → value ≡ get_or values i value → branches_at schema_in place before seen (map view (drop i values)) ≡ total
      → (under (decimal place) (branch_at schema_in seen (view value)) >>= λ branch. branches_at schema_in (place + 1) (before ++ branch.0 ∷ []) branch.1 (map view (drop (i + 1) values))) ≡ total
  unfolding branches_at
  branches_here value within is so_far = sym (at_item (branches_at schema_in place before seen) values i value within is) ∙ so_far

  pub branches_on : (value : Value) (branch : Schema) (after : Seen) → i < length values → value ≡ get_or values i value → branches_at schema_in place before seen (map view (drop i values)) ≡ total
      → under (decimal place) (branch_at schema_in seen (view value)) ≡ Ok (branch, after) → branches_at schema_in (place + 1) (before ++ branch ∷ []) after (map view (drop (i + 1) values)) ≡ total
  branches_on value branch after within is so_far read = sym (bound _ _ (branch, after) read) ∙ branches_here value within is so_far

  pub branches_fail : (value : Value) (e : SchemaRefusal) → i < length values → value ≡ get_or values i value → branches_at schema_in place before seen (map view (drop i values)) ≡ total
      → under (decimal place) (branch_at schema_in seen (view value)) ≡ Err e → total ≡ Err e
  branches_fail value e within is so_far read = sym (branches_here value within is so_far) ∙ stopped _ _ e read

  pub branches_end : length values ≤ i → branches_at schema_in place before seen (map view (drop i values)) ≡ total → total ≡ Ok (before, seen)
  unfolding branches_at
  branches_end over so_far = sym so_far ∙ past_items (branches_at schema_in place before seen) values i over
