-- How far a loop of the puts has come in what its bytes spell.
use Rattle.std.proofs.Common.{◌≡◌, ℕ, zero, suc, ◌+◌, ◌<◌, ◌≤◌, ◌^◌, ℤ, Bool, List, [], ◌∷◌, ◌++◌, length, take}
use Rattle.std.proofs.Common.{get_or, Option, Some, Result, Ok, Err, OnOk, sym, ap, subst, ◌∙◌, append_assoc, arith}
use Rattle.std.proofs.Common.{add-one}
use Rattle.std.specs.Prelude.{IfSome}
use Rattle.std.specs.List.{All, flat_map}
use Rattle.std.specs.Str.{IsUtf8}
use Rattle.std.proofs.lemmas.List.{take_all, take_more, append-nil}
use Rattle.std.proofs.lemmas.List.Elements.{All-more}
use Rattle.std.proofs.lemmas.Grind.{flat_map-append}
use Rattle.avro_wire.specs.Writing.{bytes_text}
use Rattle.schema_tree.specs.declared.schema.Schema.{Schema}
use Rattle.schema_tree.specs.declared.schema.Field.{Field}
use Rattle.schema_tree.specs.declared.schema.Schema.TheVariants as schemas
use Rattle.datum_tree.specs.declared.datum.Datum.{Datum, out-Datum}
use Rattle.datum_writing.specs.Canonical.{pair_text, canonical}
use Rattle.datum_tree.specs.Kinds.{fields_in, array_in, pairs_in, branch_in}
use Rattle.datum_writing.specs.Spelled.{IsSpelled, IsSized, EachIsSpelled, PairIsSpelled, AllAreSpelled}
use Rattle.datum_writing.specs.Spelled.{BranchIsSpelled}
use Rattle.datum_writing.proofs.SpelledLemmas.{record_spelled, array_spelled, map_spelled, union_spelled}

-- one more field
each_more : (fields : List Field) (values : List Datum) (i : ℕ) (field : Field) (value : Datum) → i < length fields → i < length values → EachIsSpelled (take i fields) (take i values)
    → IsSpelled (get_or fields i field).schema (get_or values i value) → EachIsSpelled (take (suc i) fields) (take (suc i) values)
each_more [] values i field value some_field some_value before here = absurd (omega arith)
each_more (f ∷ fields) [] i field value some_field some_value before here = absurd (omega arith)
each_more (f ∷ fields) (v ∷ values) zero field value some_field some_value before here = (here, tt)
each_more (f ∷ fields) (v ∷ values) (suc i) field value some_field some_value before here = (before.0, each_more fields values i field value (omega arith) (omega arith) before.1 here)

pub each_spelled_more : (fields : List Field) (values : List Datum) (i : ℕ) (field : Field) (value : Datum) → i < length fields → i < length values → value ≡ get_or values i value → EachIsSpelled (take i fields) (take i values)
    → IsSpelled (get_or fields i field).schema value → EachIsSpelled (take (i + 1) fields) (take (i + 1) values)
each_spelled_more fields values i field value some_field some_value is before here =
    let there : IsSpelled (get_or fields i field).schema (get_or values i value) = subst (λ (v : Datum). IsSpelled (get_or fields i field).schema v) is here in
    rw add-one (each_more fields values i field value some_field some_value before there)

-- no field is left
pub each_spelled_field : (fields : List Field) (values : List Datum) (i : ℕ) → length fields ≤ i → EachIsSpelled (take i fields) (take i values) → EachIsSpelled fields values
each_spelled_field [] values i none each = tt
each_spelled_field (f ∷ fields) values zero none each = absurd (omega arith)
each_spelled_field (f ∷ fields) [] (suc i) none each = tt
each_spelled_field (f ∷ fields) (v ∷ values) (suc i) none each = (each.0, each_spelled_field fields values i (omega arith) each.1)

-- no value is left
pub each_spelled_value : (fields : List Field) (values : List Datum) (i : ℕ) → length values ≤ i → EachIsSpelled (take i fields) (take i values) → EachIsSpelled fields values
each_spelled_value [] values i none each = tt
each_spelled_value (f ∷ fields) [] i none each = tt
each_spelled_value (f ∷ fields) (v ∷ values) zero none each = absurd (omega arith)
each_spelled_value (f ∷ fields) (v ∷ values) (suc i) none each = (each.0, each_spelled_value fields values i (omega arith) each.1)

-- no item is left
pub all_spelled : {A : Type 0} (ItemIsSpelled : A → Type 0) (items : List A) (i : ℕ) → length items ≤ i → length items < 2 ^ 63 → All ItemIsSpelled (take i items) → AllAreSpelled ItemIsSpelled items
all_spelled ItemIsSpelled items i none few each = record { each = subst (λ (those : List _). All ItemIsSpelled those) (take_all i items none) each; few = few }

-- the branch at the place
pub branch_spelled : (branches : List Schema) (place : ℕ) (inside : Datum) (branch : Schema) → place < length branches → branch ≡ get_or branches place branch → IsSpelled branch inside → BranchIsSpelled branches place inside
branch_spelled [] place inside branch some is spelled = absurd (omega arith)
branch_spelled (x ∷ branches) zero inside branch some is spelled = subst (λ (s : Schema). IsSpelled s inside) is spelled
branch_spelled (x ∷ branches) (suc place) inside branch some is spelled = branch_spelled branches place inside branch (omega arith) is spelled

-- no branch stands there
pub no_branch_spelled : (branches : List Schema) (place : ℕ) (inside : Datum) → length branches ≤ place → BranchIsSpelled branches place inside
no_branch_spelled [] place inside none = tt
no_branch_spelled (x ∷ branches) zero inside none = absurd (omega arith)
no_branch_spelled (x ∷ branches) (suc place) inside none = no_branch_spelled branches place inside (omega arith)

-- what holds anyway holds of an answer
pub always_ok : {X E : Type 0} (r : Result X E) (P : Type 0) → P → OnOk r P
always_ok (Ok x) P p = p
always_ok (Err e) P p = tt

-- what is spelled under a schema is under one that equals it
pub of_schema : (this other : Schema) (datum : Datum) → this ≡ other → IsSpelled other datum → IsSpelled this datum
of_schema this other datum same spelled = subst (λ (s : Schema). IsSpelled s datum) (sym same) spelled

-- ---- one more item

-- its bytes are put behind those before it
pub item_put : {A : Type 0} (text : A → List ℕ) (items : List A) (i : ℕ) (item : A) (old count between new : List ℕ) → i < length items → item ≡ get_or items i item
    → between ≡ old ++ (count ++ flat_map text (take i items)) → new ≡ between ++ text item → new ≡ old ++ (count ++ flat_map text (take (i + 1) items))
item_put text items i item old count between new some is before put =
    let texts = flat_map text (take i items) in
    let last : flat_map text (get_or items i item ∷ []) ≡ text item = append-nil (text (get_or items i item)) ∙ ap text (sym is) in
    let more : flat_map text (take (i + 1) items) ≡ texts ++ text item =
    ap (flat_map text) (take_more items i item some) ∙ (flat_map-append text (take i items) (get_or items i item ∷ []) ∙ ap (λ (t : List ℕ). texts ++ t) last) in
    rw (more, put, before) (append_assoc old (count ++ texts) (text item) ∙ ap (λ (t : List ℕ). old ++ t) (append_assoc count texts (text item)))

-- and it is spelled, as those before it
pub item_spelled : {A : Type 0} (ItemIsSpelled : A → Type 0) (items : List A) (i : ℕ) (item : A) → i < length items → item ≡ get_or items i item → All ItemIsSpelled (take i items) → ItemIsSpelled item → All ItemIsSpelled (take (i + 1) items)
item_spelled ItemIsSpelled items i item some is each here = All-more ItemIsSpelled items i item some each (subst ItemIsSpelled is here)

-- a pair's bytes are those of its key and of its value
pub pair_put : (values : Schema) (pair : List ℕ × Datum) (key between middle new : List ℕ) → key ≡ pair.0 → middle ≡ between ++ bytes_text key → new ≡ middle ++ canonical values pair.1 → new ≡ between ++ pair_text (canonical values) pair
pair_put values pair key between middle new is before put =
    put ∙ (ap (λ (m : List ℕ). m ++ canonical values pair.1) (before ∙ ap (λ (k : List ℕ). between ++ bytes_text k) is) ∙ append_assoc between (bytes_text pair.0) (canonical values pair.1))

-- and it is spelled, where its value is
pub pair_spelled : (values : Schema) (pair : List ℕ × Datum) (key : List ℕ) → key ≡ pair.0 → IsSized key → IsUtf8 key → IsSpelled values pair.1 → PairIsSpelled values pair
pair_spelled values pair key is sized text spelled = ((subst IsSized is sized, subst IsUtf8 is text), spelled)

-- ---- values that hold others, of schemas that are lent

-- a record
pub record_at : (schema : Schema) (name : List ℕ) (fields lent : List Field) (datum : Datum) (values : List Datum) → schema ≡ schemas.Rec name fields → lent ≡ fields → Some values ≡ fields_in (out-Datum datum)
    → EachIsSpelled lent values → IsSpelled schema datum
record_at schema name fields lent datum values is same seen each =
    let there = subst (λ (those : Option (List Datum)). IfSome those (EachIsSpelled lent)) seen each in
    of_schema schema (schemas.Rec name fields) datum is (record_spelled name fields datum (subst (λ (f : List Field). IfSome (fields_in (out-Datum datum)) (EachIsSpelled f)) same there))

-- an array
pub array_at : (schema items lent : Schema) (id : Option ℤ) (keyed : Bool) (datum : Datum) (values : List Datum) → schema ≡ schemas.Array items id keyed → lent ≡ items → Some values ≡ array_in (out-Datum datum)
    → AllAreSpelled (IsSpelled lent) values → IsSpelled schema datum
array_at schema items lent id keyed datum values is same seen each =
    let there = subst (λ (those : Option (List Datum)). IfSome those (AllAreSpelled (IsSpelled lent))) seen each in
    of_schema schema (schemas.Array items id keyed) datum is (array_spelled items id keyed datum (subst (λ (s : Schema). IfSome (array_in (out-Datum datum)) (AllAreSpelled (IsSpelled s))) same there))

-- a map
pub map_at : (schema values lent : Schema) (key_id value_id : Option ℤ) (datum : Datum) (pairs : List (List ℕ × Datum)) → schema ≡ schemas.Map values key_id value_id → lent ≡ values → Some pairs ≡ pairs_in (out-Datum datum)
    → AllAreSpelled (PairIsSpelled lent) pairs → IsSpelled schema datum
map_at schema values lent key_id value_id datum pairs is same seen each =
    let there = subst (λ (those : Option (List (List ℕ × Datum))). IfSome those (AllAreSpelled (PairIsSpelled lent))) seen each in
    of_schema schema (schemas.Map values key_id value_id) datum is (map_spelled values key_id value_id datum (subst (λ (s : Schema). IfSome (pairs_in (out-Datum datum)) (AllAreSpelled (PairIsSpelled s))) same there))

-- a union
pub union_at : (schema : Schema) (branches lent : List Schema) (datum : Datum) (place : ℕ) (inside : Datum) → schema ≡ schemas.Union branches → lent ≡ branches → Some (place, inside) ≡ branch_in (out-Datum datum)
    → BranchIsSpelled lent place inside → IsSpelled schema datum
union_at schema branches lent datum place inside is same seen each =
    let there = subst (λ (those : Option (ℕ × Datum)). IfSome those (λ branch. BranchIsSpelled lent branch.0 branch.1)) seen each in
    of_schema schema (schemas.Union branches) datum is (union_spelled branches datum (subst (λ (b : List Schema). IfSome (branch_in (out-Datum datum)) (λ branch. BranchIsSpelled b branch.0 branch.1)) same there))
