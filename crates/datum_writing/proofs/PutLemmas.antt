-- The steps of the puts: what is put behind what, and how far a record, and which branch.
use Rattle.std.proofs.Common.{◌≡◌, ℕ, zero, suc, ◌+◌, ◌<◌, ◌≤◌, List, [], ◌∷◌, ◌++◌, length, take, drop, map, get_or}
use Rattle.std.proofs.Common.{pos, Result, Ok, Err, OnOk, OnErr, refl, sym, ap, subst, ◌∙◌, arith, append_assoc}
use Rattle.std.proofs.Common.{add-one}
use Rattle.std.proofs.lemmas.List.{take-append-drop, append-nil, length-map, get_or-map}
use Rattle.std.proofs.Math.Seq.{take-append_seam}
use Rattle.avro_wire.specs.Writing.{number_text}
use Rattle.schema_tree.specs.declared.schema.Schema.{Schema}
use Rattle.schema_tree.specs.declared.schema.Field.{Field}
use Rattle.schema_tree.specs.declared.schema.Schema.TheFolds.{fold_out-Field}
use Rattle.datum_tree.specs.declared.datum.Datum.{Datum}
use Rattle.datum_writing.specs.Canonical.{Encoder, each_text, branch_text, text_of, field_text, canonical}
use Rattle.datum_writing.specs.Canonical.{field_canonical}
use Rattle.datum_writing.specs.Writing.{IsFront}

-- what keeps the bytes in front keeps those that they begin with
pub front_then : (old middle new text : List ℕ) → middle ≡ old ++ text → IsFront middle new → IsFront old new
front_then old middle new text parts front =
    let rest = drop (length middle) new in
    let whole : old ++ (text ++ rest) ≡ new = sym (append_assoc old text rest) ∙ (ap (λ (m : List ℕ). m ++ rest) (sym parts ∙ sym front) ∙ take-append-drop (length middle) new) in
    subst (λ (n : List ℕ). take (length old) n ≡ old) whole (take-append_seam old (text ++ rest))

-- one more field, behind those before it
pub each_more : (fields : List Encoder) (values : List Datum) (i : ℕ) (text : Encoder) (value : Datum) → i < length fields → i < length values
    → each_text (take (suc i) fields) (take (suc i) values) ≡ each_text (take i fields) (take i values) ++ get_or fields i text (get_or values i value)
each_more [] values i text value some_field some_value = absurd (omega arith)
each_more (f ∷ fields) [] i text value some_field some_value = absurd (omega arith)
each_more (f ∷ fields) (v ∷ values) zero text value some_field some_value = append-nil (f v)
each_more (f ∷ fields) (v ∷ values) (suc i) text value some_field some_value =
    ap (λ (rest : List ℕ). f v ++ rest) (each_more fields values i text value (omega arith) (omega arith)) ∙ sym (append_assoc (f v) (each_text (take i fields) (take i values)) (get_or fields i text (get_or values i value)))

-- no field is left
pub each_field : (fields : List Encoder) (values : List Datum) (i : ℕ) → length fields ≤ i → each_text (take i fields) (take i values) ≡ each_text fields values
each_field [] values zero none = refl
each_field [] values (suc i) none = refl
each_field (f ∷ fields) values zero none = absurd (omega arith)
each_field (f ∷ fields) [] (suc i) none = refl
each_field (f ∷ fields) (v ∷ values) (suc i) none = ap (λ (rest : List ℕ). f v ++ rest) (each_field fields values i (omega arith))

-- no value is left
pub each_value : (fields : List Encoder) (values : List Datum) (i : ℕ) → length values ≤ i → each_text (take i fields) (take i values) ≡ each_text fields values
each_value [] values zero none = refl
each_value [] values (suc i) none = refl
each_value (f ∷ fields) [] zero none = refl
each_value (f ∷ fields) [] (suc i) none = refl
each_value (f ∷ fields) (v ∷ values) zero none = absurd (omega arith)
each_value (f ∷ fields) (v ∷ values) (suc i) none = ap (λ (rest : List ℕ). f v ++ rest) (each_value fields values i (omega arith))

-- a field's value is written as one of its schema
pub field_written : (field : Field) (value : Datum) → field_canonical field value ≡ canonical field.schema value
field_written field value = ap (λ (f : Encoder). f value) (fold_out-Field Encoder Encoder text_of field_text field)

-- one more field is put
pub field_put : (fields : List Field) (values : List Datum) (i : ℕ) (field : Field) (value : Datum) (old between new : List ℕ)
    → i < length fields → i < length values → field ≡ get_or fields i field → value ≡ get_or values i value
    → between ≡ old ++ each_text (take i (map field_canonical fields)) (take i values) → new ≡ between ++ canonical (get_or fields i field).schema value
    → new ≡ old ++ each_text (take (i + 1) (map field_canonical fields)) (take (i + 1) values)
field_put fields values i field value old between new some_field some_value is_field is_value before put =
    let texts = map field_canonical fields in
    let here = get_or fields i field in
    let parts = each_text (take i texts) (take i values) in
    let some_text : i < length texts = rw (length-map fields field_canonical) some_field in
    let text : get_or texts i (field_canonical field) ≡ field_canonical here = get_or-map field_canonical fields i field (field_canonical field) some_field in
    let last : get_or texts i (field_canonical field) (get_or values i value) ≡ canonical here.schema value =
    ap (λ (f : Encoder). f (get_or values i value)) text ∙ (ap (field_canonical here) (sym is_value) ∙ field_written here value) in
    let more : each_text (take (i + 1) texts) (take (i + 1) values) ≡ parts ++ canonical here.schema value = rw add-one (each_more texts values i (field_canonical field) value some_text some_value ∙ ap (λ (t : List ℕ). parts ++ t) last) in
    rw (more, put, before) (append_assoc old parts (canonical here.schema value))

-- the branch at the place
pub branch_found : (branches : List Schema) (place : ℕ) (value : Datum) (branch : Schema) → place < length branches → branch ≡ get_or branches place branch → branch_text (map canonical branches) place value ≡ canonical branch value
branch_found [] place value branch some is = absurd (omega arith)
branch_found (x ∷ branches) zero value branch some is = ap (λ (s : Schema). canonical s value) (sym is)
branch_found (x ∷ branches) (suc place) value branch some is = branch_found branches place value branch (omega arith) is

-- no branch stands there
pub branch_absent : (branches : List Schema) (place : ℕ) (value : Datum) → length branches ≤ place → branch_text (map canonical branches) place value ≡ []
branch_absent [] place value none = refl
branch_absent (x ∷ branches) zero value none = absurd (omega arith)
branch_absent (x ∷ branches) (suc place) value none = branch_absent branches place value (omega arith)

-- a branch that isn't there puts its place alone
pub place_put : (branches : List Schema) (place : ℕ) (value : Datum) (old new : List ℕ) → length branches ≤ place → new ≡ old ++ number_text (pos place) → new ≡ old ++ (number_text (pos place) ++ branch_text (map canonical branches) place value)
place_put branches place value old new none put = rw (branch_absent branches place value none, append-nil (number_text (pos place))) put

-- and one that is there its value behind it
pub branch_put : (branches : List Schema) (place : ℕ) (value : Datum) (branch : Schema) (old between new : List ℕ) → place < length branches → branch ≡ get_or branches place branch → between ≡ old ++ number_text (pos place) → new ≡ between ++ canonical branch value
    → new ≡ old ++ (number_text (pos place) ++ branch_text (map canonical branches) place value)
branch_put branches place value branch old between new some is before put =
    rw (branch_found branches place value branch some is, put, before) (append_assoc old (number_text (pos place)) (canonical branch value))

-- what holds anyway holds of a refusal
pub on_err : {X E : Type 0} (r : Result X E) (P : Type 0) → P → OnErr r P
on_err (Ok x) P p = tt
on_err (Err e) P p = p

-- what follows from what holds of an answer
pub on_ok : {X E : Type 0} (r : Result X E) (P Q : Type 0) → (P → Q) → OnOk r P → OnOk r Q
on_ok (Ok x) P Q f p = f p
on_ok (Err e) P Q f p = tt

-- and what follows from what holds of a refusal
pub on_err_then : {X E : Type 0} (r : Result X E) (P Q : Type 0) → (P → Q) → OnErr r P → OnErr r Q
on_err_then (Ok x) P Q f p = tt
on_err_then (Err e) P Q f p = f p
