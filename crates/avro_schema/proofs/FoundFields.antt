-- What is read of a record's values are the fields that they mean.
use Rattle.std.proofs.Common.{◌≡◌, ℕ, ◌+◌, ◌≤◌, List, [], ◌∷◌, ◌++◌, codes, Result, Ok, decimal, refl, sym, ap, subst}
use Rattle.std.proofs.Common.{◌∙◌, arith}
use Rattle.serde_json.specs.Data.{Data, null, boolean, number, string, array, object, Members}
use Rattle.schema_tree.specs.declared.schema.Field.{Field}
use Rattle.avro_schema.specs.declared.refusal.SchemaRefusal.{SchemaRefusal}
use Rattle.avro_schema.specs.Refusal.{under}
use Rattle.schema_tree.specs.Measure.{depth_of_fields, size_of_fields}
use Rattle.avro_schema.specs.Member.{needed, text_at, id_at}
use Rattle.avro_schema.specs.Defined.{Seen}
use Rattle.avro_schema.specs.Reading.{Reader, new_field_name, field_at, fields_at}
use Rattle.avro_schema.specs.Meaning.{AreFields, no_field, field}
use Rattle.words.specs.Steps.{bind_then, ok_is}
use Rattle.avro_schema.proofs.Steps.{under_ok}
use Rattle.schema_tree.specs.TreeLaws.{field_of, depth-push, size-push}
use Rattle.avro_schema.proofs.MeansPart.{new_then, needed_found}
use Rattle.avro_schema.proofs.Found.{Found, Finds}

-- fields that were read stand behind those before
pub record FieldsFound (room : ℕ) (scope : List ℕ) (before : List Field) (seen : Seen) (values : List Data)
    (taken : List Field × Seen) : Type 0 where
  pub are : AreFields scope seen.names before values taken.0 taken.1.names
  pub count : taken.1.count + size_of_fields before ≡ seen.count + size_of_fields taken.0
  pub deep : 1 + depth_of_fields taken.0 ≤ room
  pub few : taken.1.count ≤ 65536

-- how the fields behind one are read
abbrev GoesOn : ℕ → List ℕ → List Data → (List Field → Seen → Result (List Field × Seen) SchemaRefusal)
    → List Field × Seen → Type 0
GoesOn room scope values read taken =
    (before : List Field) (seen : Seen) → 1 + depth_of_fields before ≤ room → seen.count ≤ 65536
    → read before seen ≡ Ok taken → FieldsFound room scope before seen values taken

module _ (room : ℕ) (schema_in : Reader) (finds : Finds 1 room schema_in) (scope : List ℕ) where
  -- one field, and those behind it
  object_found : (read : List Field → Seen → Result (List Field × Seen) SchemaRefusal) (before : List Field)
      (seen : Seen) (members : Members) (values : List Data) (taken : List Field × Seen) (first : Field × Seen)
      → 1 + depth_of_fields before ≤ room → field_at (schema_in scope) before seen (object members) ≡ Ok first
      → read (before ++ first.0 ∷ []) first.1 ≡ Ok taken → GoesOn room scope values read taken
      → FieldsFound room scope before seen (object members ∷ values) taken
  object_found read before seen members values taken first deep first_is rest goes_on =
      bind_then (id_at (codes "field-id") members) _ first first_is (λ id id_is first_is.
      bind_then (text_at (codes "name") members) _ first first_is (λ text text_is first_is.
      bind_then (new_field_name before text) _ first first_is (λ new new_is first_is.
      bind_then (needed (codes "type") members) _ first first_is (λ value value_is first_is.
      bind_then (under (codes "type") (schema_in scope seen value)) _ first first_is (λ schema schema_is done.
      new_then before text new new_is (λ free same.
      let found : Found 1 room scope seen value schema = finds scope seen value schema
      (under_ok (codes "type") (schema_in scope seen value) schema schema_is) in
      let first_of : (field_of text id schema.0, schema.1) ≡ first = ap
      (λ (x : List ℕ). (field_of x id schema.0, schema.1)) same
      ∙ ok_is (field_of new id schema.0, schema.1) first done in
      let rest_of : read (before ++ field_of text id schema.0 ∷ []) schema.1 ≡ Ok taken = subst
      (λ (f : Field × Seen). read (before ++ f.0 ∷ []) f.1 ≡ Ok taken) (sym first_of) rest in
      let others : FieldsFound room scope (before ++ field_of text id schema.0 ∷ []) schema.1 values taken =
      goes_on (before ++ field_of text id schema.0 ∷ []) schema.1
      (omega (arith, deep, found.deep, depth-push text id schema.0 before)) found.few rest_of in
      record {
        are = field scope seen.names before members values id text value schema.0 taken.0 schema.1.names taken.1.names
            id_is text_is free (needed_found (codes "type") members value value_is) found.means others.are;
        count = omega (arith, others.count, found.count, size-push text id schema.0 before);
        deep = others.deep;
        few = others.few;
      }))))))

  -- a field is an object
  field_found : (read : List Field → Seen → Result (List Field × Seen) SchemaRefusal) (before : List Field)
      (seen : Seen) (value : Data) (values : List Data) (taken : List Field × Seen) (first : Field × Seen)
      → 1 + depth_of_fields before ≤ room → field_at (schema_in scope) before seen value ≡ Ok first
      → read (before ++ first.0 ∷ []) first.1 ≡ Ok taken → GoesOn room scope values read taken
      → FieldsFound room scope before seen (value ∷ values) taken
  field_found read before seen null values taken first deep first_is rest goes_on = absurd cc
  field_found read before seen (boolean flag) values taken first deep first_is rest goes_on = absurd cc
  field_found read before seen (number num) values taken first deep first_is rest goes_on = absurd cc
  field_found read before seen (string text) values taken first deep first_is rest goes_on = absurd cc
  field_found read before seen (array items) values taken first deep first_is rest goes_on = absurd cc
  field_found read before seen (object pairs) values taken first deep first_is rest goes_on = object_found read before
      seen pairs values taken first deep first_is rest goes_on

  -- values that are read are fields
  pub fields_found : (place : ℕ) (values : List Data) (taken : List Field × Seen)
      → GoesOn room scope values (λ before seen. fields_at (schema_in scope) place before seen values) taken
  unfolding fields_at
  fields_found place [] taken before seen deep few read =
      let found : FieldsFound room scope before seen [] (before, seen) = record
      { are = no_field scope seen.names before; count = refl; deep = deep; few = few } in
      subst (FieldsFound room scope before seen []) (ok_is (before, seen) taken read) found
  fields_found place (value ∷ values) taken before seen deep few read =
      bind_then (under (decimal place) (field_at (schema_in scope) before seen value)) _ taken read
      (λ first first_is rest.
      field_found (λ before seen. fields_at (schema_in scope) (place + 1) before seen values) before seen value values
      taken first deep
      (under_ok (decimal place) (field_at (schema_in scope) before seen value) first first_is) rest
      (fields_found (place + 1) values taken))
