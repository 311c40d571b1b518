-- What the checks of the schemas and of the partition specs mean.
use Rattle.std.proofs.Common.{◌≡◌, ℤ, List, Bool, true, false, not, ◌&&◌, Option, Some, None, is_some}
use Rattle.std.proofs.Common.{option_and_then, Ok, codes, refl, ap, ◌∙◌}
use Rattle.serde_json.specs.Data.{Data, null, boolean, number, string, array, object, Items, no_items, item, Members}
use Rattle.serde_json.specs.Find.{get, as_array}
use Rattle.json_members.specs.FieldLaws.{both}
use Rattle.json_members.specs.Form.{items_in}
use Rattle.row_types.specs.declared.column.Column.{Column}
use Rattle.words.specs.Reading.{map_refusal}
use Rattle.words.specs.Steps.{map_ok}
use Rattle.schema_columns.specs.FoundLaws.{schema_found, schema_only}
use Rattle.schema_columns.specs.Reading.{columns_in}
use Rattle.metadata_reading.specs.FirstLaws.{first_found, found_first}
use Rattle.metadata_reading.specs.Refusal.{of_columns}
use Rattle.metadata_reading.specs.Relation.{AreSchemas, HasSchema, AreUnpartitioned}
use Rattle.metadata_reading.specs.Schemas.{number_of, are_schemas, schema_of, schema_columns, is_spec, are_specs}
use Rattle.metadata_reading.specs.Schemas.{are_none}
use Rattle.metadata_reading.specs.Schemas.{are_unpartitioned}

some_number : (o : Option ℤ) → is_some o ≡ true → (z : ℤ) × (o ≡ Some z)
some_number None is = absurd cc
some_number (Some z) is = (z, refl)

-- ---- schemas

-- each schema has an id
pub schemas_found : (items : Items) → are_schemas items ≡ true → AreSchemas items
schemas_found no_items is = tt
schemas_found (item value items) is =
    let p = both (is_some (number_of (codes "schema-id") value)) (are_schemas items) is in
    (some_number (number_of (codes "schema-id") value) p.0, schemas_found items p.1)

pub found_schemas : (items : Items) → AreSchemas items → are_schemas items ≡ true
found_schemas no_items h = refl
found_schemas (item value items) h =
    ap (λ (o : Option ℤ). is_some o && are_schemas items) h.0.1 ∙ found_schemas items h.1

-- the columns are those of the first schema that has the id
pub columns_found : (id : ℤ) (found : Option Data) (columns : List Column) → found ≡ Some (array (items_in found))
    → are_schemas (items_in found) ≡ true → schema_columns (schema_of id (items_in found)) ≡ Ok columns
    → HasSchema id found columns
columns_found id found columns list schemas is = by_schema (schema_of id (items_in found)) refl is
  where
    by_schema : (o : Option Members) → schema_of id (items_in found) ≡ o → schema_columns o ≡ Ok columns
        → HasSchema id found columns
    by_schema None current is = absurd cc
    by_schema (Some schema) current is = record {
      items = items_in found;
      is_list = list;
      each = schemas_found (items_in found) schemas;
      schema = schema;
      current = first_found id (items_in found) schema current;
      is_schema = schema_found schema columns (map_ok of_columns (columns_in schema) columns is);
    }

-- and they are read
pub found_columns : (id : ℤ) (found : Option Data) (columns : List Column) → HasSchema id found columns
    → schema_columns (schema_of id (items_in found)) ≡ Ok columns
found_columns id found columns h =
    ap (λ (o : Option Data). schema_columns (schema_of id (items_in o))) h.is_list
    ∙ ap schema_columns (found_first id h.items h.schema h.current)
    ∙ ap (map_refusal of_columns) (schema_only h.schema columns h.is_schema)

-- ---- partition specs

empty_list : (found : Option Data) → is_some (option_and_then as_array found) ≡ true
    → are_none (items_in found) ≡ true → found ≡ Some (array no_items)
empty_list None is none = absurd cc
empty_list (Some null) is none = absurd cc
empty_list (Some (boolean b)) is none = absurd cc
empty_list (Some (number n)) is none = absurd cc
empty_list (Some (string s)) is none = absurd cc
empty_list (Some (array no_items)) is none = refl
empty_list (Some (array (item value items))) is none = absurd cc
empty_list (Some (object ms)) is none = absurd cc

no_field : (b c : Bool) → (not (not b) && c) ≡ true → (b ≡ true) × (c ≡ true)
no_field true c is = (refl, is)
no_field false c is = absurd cc

-- each partition spec has an id, and no field
pub specs_found : (items : Items) → are_specs items ≡ true → are_unpartitioned items ≡ true → AreUnpartitioned items
specs_found no_items are none = tt
specs_found (item value items) are none =
    let p = both (is_spec value) (are_specs items) are in
    let q = both (is_some (number_of (codes "spec-id") value)) _ p.0 in
    let r = no_field (are_none (items_in (get (codes "fields") value))) (are_unpartitioned items) none in (
      (some_number (number_of (codes "spec-id") value) q.0, empty_list (get (codes "fields") value) q.1 r.0),
      specs_found items p.1 r.1,
    )

pub found_specs : (items : Items) → AreUnpartitioned items
    → (are_specs items ≡ true) × (are_unpartitioned items ≡ true)
found_specs no_items h = (refl, refl)
found_specs (item value items) h =
    let rest = found_specs items h.1 in
    let number : is_some (number_of (codes "spec-id") value) ≡ true = ap is_some h.0.0.1 in
    let list : is_some (option_and_then as_array (get (codes "fields") value)) ≡ true =
    ap (λ (o : Option Data). is_some (option_and_then as_array o)) h.0.1 in
    let spec : is_spec value ≡ true = all_two _ _ number list in (
      all_two (is_spec value) (are_specs items) spec rest.0,
      ap (λ (o : Option Data). not (not (are_none (items_in o))) && are_unpartitioned items) h.0.1 ∙ rest.1,
    )
  where
    all_two : (a b : Bool) → a ≡ true → b ≡ true → (a && b) ≡ true
    all_two a b p q = rw (p, q) refl
