-- The first schema with an id is the one that is read.
use Rattle.std.proofs.Common.{◌≡◌, ◌≢◌, inl, inr, ℤ, List, ℕ, Bool, true, false, if◌then◌else◌, Option, Some, None}
use Rattle.std.proofs.Common.{codes, refl, sym, ap, ◌∙◌}
use Rattle.std.proofs.lemmas.Bool.{false≢true, false_from_ne_true}
use Rattle.std.proofs.lemmas.Bool.Decides.{Decides-int_eq}
use Rattle.serde_json.specs.Data.{Data, null, boolean, number, string, array, object, Items, no_items, item, Members}
use Rattle.serde_json.specs.Find.{as_object}
use Rattle.metadata_reading.specs.Relation.{IsFirstSchema}
use Rattle.metadata_reading.specs.CurrentSchema.{LackSchema}
use Rattle.metadata_reading.specs.Schemas.{number_of, is_that, schema_of}

-- ---- one item

-- a number that passes the test is the id
that_is : (id : ℤ) (o : Option ℤ) → is_that id o ≡ true → o ≡ Some id
that_is id None is = absurd cc
that_is id (Some other) is = ap Some ((Decides-int_eq other id).0 is)

-- the id passes it
is_that_one : (id : ℤ) (o : Option ℤ) → o ≡ Some id → is_that id o ≡ true
is_that_one id o is = ap (is_that id) is ∙ (Decides-int_eq id id).1 refl

-- one that fails it isn't the id
that_is_not : (id : ℤ) (o : Option ℤ) → is_that id o ≡ false → o ≢ Some id
that_is_not id o is same = false≢true (sym is ∙ is_that_one id o same)

-- another one fails it
is_not_that : (id : ℤ) (o : Option ℤ) → o ≢ Some id → is_that id o ≡ false
is_not_that id o other = false_from_ne_true (is_that id o) (λ is. other (that_is id o is))

-- the object that a value is
pub object_of : (value : Data) (ms : Members) → as_object value ≡ Some ms → value ≡ object ms
object_of null ms is = absurd cc
object_of (boolean b) ms is = absurd cc
object_of (number n) ms is = absurd cc
object_of (string s) ms is = absurd cc
object_of (array items) ms is = absurd cc
object_of (object other) ms is = let same : other ≡ ms = cc in ap object same

-- a value that is no object has no number
no_number : (name : List ℕ) (value : Data) (id : ℤ) → as_object value ≡ None → number_of name value ≢ Some id
no_number name null id none is = absurd cc
no_number name (boolean b) id none is = absurd cc
no_number name (number n) id none is = absurd cc
no_number name (string s) id none is = absurd cc
no_number name (array items) id none is = absurd cc
no_number name (object ms) id none is = absurd cc

-- ---- a list

-- the schema that is read is the first one with the id
pub first_found : (id : ℤ) (items : Items) (schema : Members) → schema_of id items ≡ Some schema
    → IsFirstSchema id items schema
first_found id no_items schema is = absurd cc
first_found id (item value items) schema is =
    by_test (is_that id (number_of (codes "schema-id") value)) refl (first_found id items schema) is
  where
    by_test : (b : Bool) → is_that id (number_of (codes "schema-id") value) ≡ b
        → (schema_of id items ≡ Some schema → IsFirstSchema id items schema)
        → (if b then as_object value else schema_of id items) ≡ Some schema → IsFirstSchema id (item value items) schema
    by_test true here later is = inl (object_of value schema is, that_is id (number_of (codes "schema-id") value) here)
    by_test false here later is = inr (that_is_not id (number_of (codes "schema-id") value) here, later is)

-- and that one is read
pub found_first : (id : ℤ) (items : Items) (schema : Members) → IsFirstSchema id items schema
    → schema_of id items ≡ Some schema
found_first id no_items schema h = absurd h
found_first id (item value items) schema (inl h) =
    ap (λ (b : Bool). if b then as_object value else schema_of id items)
    (is_that_one id (number_of (codes "schema-id") value) h.1) ∙ ap as_object h.0
found_first id (item value items) schema (inr h) =
    ap (λ (b : Bool). if b then as_object value else schema_of id items)
    (is_not_that id (number_of (codes "schema-id") value) h.0) ∙ found_first id items schema h.1

-- if none is read, none has the id
pub none_has : (id : ℤ) (items : Items) → schema_of id items ≡ None → LackSchema id items
none_has id no_items is = tt
none_has id (item value items) is =
    by_test (is_that id (number_of (codes "schema-id") value)) refl (none_has id items) is
  where
    by_test : (b : Bool) → is_that id (number_of (codes "schema-id") value) ≡ b
        → (schema_of id items ≡ None → LackSchema id items)
        → (if b then as_object value else schema_of id items) ≡ None → LackSchema id (item value items)
    by_test true here later is =
        absurd (no_number (codes "schema-id") value id is (that_is id (number_of (codes "schema-id") value) here))
    by_test false here later is = (that_is_not id (number_of (codes "schema-id") value) here, later is)
