-- The text of the schema of a file that is written is read as the schema.
use Rattle.std.proofs.Common.{◌≡◌, ℕ, suc, ◌+◌, ◌*◌, ◌≤◌, max, Bool, true, false, List, [], ◌∷◌, ◌++◌, length, map}
use Rattle.std.proofs.Common.{refl, sym, ap, ap₂, ◌∙◌, arith}
use Rattle.std.specs.Prelude.{◌&&◌, Option, Some, None, codes, if◌then◌else◌}
use Rattle.std.proofs.lemmas.Bool.{false≢true}
use Rattle.std.specs.List.{list_all, flat_map, sum}
use Rattle.std.proofs.lemmas.List.{length-map, length-append}
use Rattle.std.proofs.lemmas.List.Sums.{sum_by-cons}
use Rattle.row_types.specs.declared.column.Column.{Column}
use Rattle.row_types.specs.declared.column.Kind.{Kind}
use Rattle.row_types.specs.declared.column.Kind.TheVariants.{Long}
use Rattle.row_types.specs.Columns.{IsColumns}
use Rattle.schema_tree.specs.declared.schema.Schema.{Schema, roll-Schema}
use Rattle.schema_tree.specs.declared.schema.Schema.TheOpen as layers
use Rattle.schema_tree.specs.declared.schema.Schema.TheOpen.{Schema-F, Field-F}
use Rattle.schema_tree.specs.declared.schema.Schema.TheVariants as schemas
use Rattle.schema_tree.specs.declared.schema.Schema.TheFolds.{fold-Schema, fold-Field, map-Schema, fold-roll-Schema}
use Rattle.schema_tree.specs.declared.schema.Schema.TheFolds.{fold_out-Field}
use Rattle.schema_tree.specs.declared.schema.Field.{Field, out-Field}
use Rattle.schema_tree.specs.Tree.{depth, depth_of, size, size_of, number_of_field}
use Rattle.schema_tree.specs.Measure.{depth_of_fields, size_of_fields}
use Rattle.schema_tree.specs.Logical.{Attributes, int_attributes, long_attributes}
use Rattle.avro_schema.specs.Printable.{Spelled, SpelledField, primitive, number_levels}
use Rattle.avro_schema.specs.Printable.{spelled, spelled_of, spelled_field}
use Rattle.avro_schema.specs.Printable.{schemas_of, levels_of, field_names, field_levels, is_avro_name, are_distinct}
use Rattle.avro_schema.specs.Printable.{IsPrintable}
use Rattle.schema_tree.specs.TreeLaws.{depth-Rec, size-Rec}
use Rattle.avro_cells.specs.Kind.{Level, written_type, optional_type}
use Rattle.avro_cells.specs.KindLaws.{written_level, rolls_written, is_cell_level, level_written}
use Rattle.row_writing.specs.Writing.{column_field, lineage_fields, are_plain_names}
use Rattle.row_writing.specs.Writing.{field_name, file_schema}
use Rattle.row_writing.proofs.WrittenNames.{written_names, are_named}

-- ---- the types

-- a fold at the types of columns
module _ {A B : Type 0} (step : Schema-F A B → A) (field : Field-F A B → B) where
  -- at a schema that is made of a level
  fold_made : (schema : Schema) (level : Level) → roll-Schema level ≡ schema → fold-Schema A B step field schema ≡ step (map-Schema Schema Field A B (fold-Schema A B step field) (fold-Field A B step field) level)
  fold_made schema level made = ap (fold-Schema A B step field) (sym made) ∙ fold-roll-Schema A B step field level

  -- at a type beside null
  fold_optional : (type : Schema) (inside : A) → fold-Schema A B step field type ≡ inside → fold-Schema A B step field (optional_type type) ≡ step (layers.Union (step layers.Null ∷ inside ∷ []))
  fold_optional type inside is =
      fold_made (optional_type type) (layers.Union (schemas.Null ∷ type ∷ [])) (schemas.rolls-Union (schemas.Null ∷ type ∷ []))
      ∙ ap₂ (λ (first second : A). step (layers.Union (first ∷ second ∷ []))) (fold_made schemas.Null layers.Null schemas.rolls-Null) is

-- what is known of a type of cells
record IsPlainType (schema : Schema) : Type 0 where
  deep : ℕ
  spelled : spelled schema ≡ primitive true deep
  levels : deep ≤ 1
  depth : depth schema ≡ 1
  size : size schema ≡ 1

-- the text of a number nests once at most
number_few : (attributes : Option Attributes) → number_levels attributes ≤ 1
number_few None = omega arith
number_few (Some attributes) = omega arith

-- it is known of each type of cells
plain_level : (schema : Schema) (level : Level) → roll-Schema level ≡ schema → is_cell_level level ≡ true → IsPlainType schema
plain_level schema layers.Boolean made cells = record {
  deep = 0;
  spelled = fold_made spelled_of spelled_field schema layers.Boolean made;
  levels = omega arith;
  depth = fold_made depth_of number_of_field schema layers.Boolean made;
  size = fold_made size_of number_of_field schema layers.Boolean made;
}
plain_level schema (layers.Int logical) made cells = record {
  deep = number_levels (int_attributes logical);
  spelled = fold_made spelled_of spelled_field schema (layers.Int logical) made ∙ ap (λ (right : Bool). primitive right (number_levels (int_attributes logical))) cells;
  levels = number_few (int_attributes logical);
  depth = fold_made depth_of number_of_field schema (layers.Int logical) made;
  size = fold_made size_of number_of_field schema (layers.Int logical) made;
}
plain_level schema (layers.Long logical) made cells = record {
  deep = number_levels (long_attributes logical);
  spelled = fold_made spelled_of spelled_field schema (layers.Long logical) made ∙ ap (λ (right : Bool). primitive right (number_levels (long_attributes logical))) cells;
  levels = number_few (long_attributes logical);
  depth = fold_made depth_of number_of_field schema (layers.Long logical) made;
  size = fold_made size_of number_of_field schema (layers.Long logical) made;
}
plain_level schema layers.Str made cells = record {
  deep = 0;
  spelled = fold_made spelled_of spelled_field schema layers.Str made;
  levels = omega arith;
  depth = fold_made depth_of number_of_field schema layers.Str made;
  size = fold_made size_of number_of_field schema layers.Str made;
}
plain_level schema layers.Raw made cells = record {
  deep = 0;
  spelled = fold_made spelled_of spelled_field schema layers.Raw made;
  levels = omega arith;
  depth = fold_made depth_of number_of_field schema layers.Raw made;
  size = fold_made size_of number_of_field schema layers.Raw made;
}
plain_level schema _ made cells = absurd (false≢true cells)

-- so of the type of each kind
plain_type : (kind : Kind) → IsPlainType (written_type kind)
plain_type kind = plain_level (written_type kind) (written_level kind) (rolls_written kind) (level_written kind (written_type kind)).cells

-- what is known of a column's type
record IsSimple (schema : Schema) : Type 0 where
  right : (spelled schema).right ≡ true
  names : (spelled schema).names ≡ []
  levels : (spelled schema).levels ≤ 2
  depth : depth schema ≤ 2
  size : size schema ≤ 3

-- the type of a required column
plain_simple : (kind : Kind) → IsSimple (written_type kind)
plain_simple kind =
    let plain = plain_type kind in
    record {
      right = ap (λ (known : Spelled). known.right) plain.spelled;
      names = ap (λ (known : Spelled). known.names) plain.spelled;
      levels = omega (arith, ap (λ (known : Spelled). known.levels) plain.spelled, plain.levels);
      depth = omega (arith, plain.depth);
      size = omega (arith, plain.size);
    }

-- the type of another column
optional_simple : (kind : Kind) → IsSimple (optional_type (written_type kind))
optional_simple kind =
    let plain = plain_type kind in
    let known_is = fold_optional spelled_of spelled_field (written_type kind) (primitive true plain.deep) plain.spelled in
    let levels_are : (spelled (optional_type (written_type kind))).levels ≡ suc (max 0 (max plain.deep 0)) = ap (λ (known : Spelled). known.levels) known_is in
    let depth_is : depth (optional_type (written_type kind)) ≡ suc (max 1 (max 1 0)) = fold_optional depth_of number_of_field (written_type kind) 1 plain.depth in
    let size_is : size (optional_type (written_type kind)) ≡ suc (sum (1 ∷ 1 ∷ [])) = fold_optional size_of number_of_field (written_type kind) 1 plain.size in
    record {
      right = ap (λ (known : Spelled). known.right) known_is;
      names = ap (λ (known : Spelled). known.names) known_is;
      levels = omega (arith, levels_are, plain.levels);
      depth = omega (arith, depth_is);
      size = omega (arith, size_is);
    }

-- the type of a column
type_simple : (required : Bool) (kind : Kind) → IsSimple (if required then written_type kind else optional_type (written_type kind))
type_simple true kind = plain_simple kind
type_simple false kind = optional_simple kind

-- ---- the fields

-- the types of fields are simple
abbrev AreSimple : List Field → Type 0
AreSimple [] = Unit {0}
AreSimple (field ∷ fields) = IsSimple (out-Field field).schema × AreSimple fields

-- what is known of a field
abbrev known : Field → SpelledField
known field = record { name = (out-Field field).name; schema = spelled (out-Field field).schema }

-- it is known of each field
all_known : (fields : List Field) → map (fold-Field Spelled SpelledField spelled_of spelled_field) fields ≡ map known fields
all_known [] = refl
all_known (field ∷ fields) = ap₂ (λ (x : SpelledField) (xs : List SpelledField). x ∷ xs) (fold_out-Field Spelled SpelledField spelled_of spelled_field field) (all_known fields)

-- what is known of simple fields
record IsKnown (fields : List Field) : Type 0 where
  right : list_all (λ (part : Spelled). part.right) (schemas_of (map known fields)) ≡ true
  names : flat_map (λ (part : Spelled). part.names) (schemas_of (map known fields)) ≡ []
  levels : levels_of (schemas_of (map known fields)) ≤ 2
  depth : depth_of_fields fields ≤ 2
  size : size_of_fields fields ≤ 3 * length fields

-- it is known of fields whose types are simple
simple_known : (fields : List Field) → AreSimple fields → IsKnown fields
simple_known [] simple = record { right = refl; names = refl; levels = omega arith; depth = omega arith; size = omega arith }
simple_known (field ∷ fields) simple =
    let rest = simple_known fields simple.1 in
    let depth_is : fold-Field ℕ ℕ depth_of number_of_field field ≡ depth (out-Field field).schema = fold_out-Field ℕ ℕ depth_of number_of_field field in
    let size_is : fold-Field ℕ ℕ size_of number_of_field field ≡ size (out-Field field).schema = fold_out-Field ℕ ℕ size_of number_of_field field in
    let sum_is : size_of_fields (field ∷ fields) ≡ fold-Field ℕ ℕ size_of number_of_field field + size_of_fields fields = sum_by-cons (λ (n : ℕ). n) (fold-Field ℕ ℕ size_of number_of_field field) (map (fold-Field ℕ ℕ size_of number_of_field) fields) in
    record {
      right = ap₂ (λ (first second : Bool). first && second) simple.0.right rest.right;
      names = ap₂ (λ (first second : List (List ℕ)). first ++ second) simple.0.names rest.names;
      levels = omega (arith, simple.0.levels, rest.levels);
      depth = omega (arith, depth_is, simple.0.depth, rest.depth);
      size = omega (arith, size_is, sum_is, simple.0.size, rest.size);
    }

-- the fields of a file that is written are simple
fields_simple : (plain : Bool) (columns : List Column) (lineage : Bool) → AreSimple (map (column_field plain) columns ++ lineage_fields lineage)
fields_simple plain [] false = tt
fields_simple plain [] true = (optional_simple Long, (optional_simple Long, tt))
fields_simple plain (column ∷ columns) lineage = (type_simple column.required column.kind, fields_simple plain columns lineage)

-- their names
names_known : (plain : Bool) (columns : List Column) (lineage : Bool) → field_names (map known (map (column_field plain) columns ++ lineage_fields lineage)) ≡ written_names plain columns lineage
names_known plain [] false = refl
names_known plain [] true = refl
names_known plain (column ∷ columns) lineage = ap (λ (names : List (List ℕ)). field_name plain column ∷ names) (names_known plain columns lineage)

-- the number of the lineage columns
lineage_few : (lineage : Bool) → length (lineage_fields lineage) ≤ 2
lineage_few false = omega arith
lineage_few true = omega arith

-- and that of all fields
fields_few : (plain : Bool) (columns : List Column) (lineage : Bool) → length columns ≤ 200 → length (map (column_field plain) columns ++ lineage_fields lineage) ≤ 202
fields_few plain columns lineage few = omega (arith, length-append (map (column_field plain) columns) (lineage_fields lineage), length-map columns (column_field plain), lineage_few lineage)

-- the levels of fields are one more than those of their schemas
levels_within : (fields : List SpelledField) → field_levels fields ≤ suc (levels_of (schemas_of fields))
levels_within [] = omega arith
levels_within (field ∷ fields) = omega arith

-- ---- the schema

-- a record whose fields are simple and have names of Avro's, none of which stands twice
record_printable : (name : List ℕ) (fields : List Field) → is_avro_name name ≡ true → IsKnown fields → list_all is_avro_name (field_names (map known fields)) ≡ true → are_distinct (field_names (map known fields)) ≡ true → length fields ≤ 202
    → IsPrintable (schemas.Rec name fields)
record_printable name fields named is avro distinct few =
    let known_is : spelled (schemas.Rec name fields) ≡ spelled_of (layers.Rec name (map known fields)) =
    fold_made spelled_of spelled_field (schemas.Rec name fields) (layers.Rec name fields) (schemas.rolls-Rec name fields) ∙ ap (λ (held : List SpelledField). spelled_of (layers.Rec name held)) (all_known fields) in
    let names_are : (spelled (schemas.Rec name fields)).names ≡ name ∷ [] = ap (λ (k : Spelled). k.names) known_is ∙ ap (λ (names : List (List ℕ)). name ∷ names) is.names in
    record {
      right = ap (λ (k : Spelled). k.right) known_is ∙ rw (named, avro, distinct, is.right) refl;
      once = ap are_distinct names_are;
      levels = omega (arith, ap (λ (k : Spelled). k.levels) known_is, levels_within (map known fields), is.levels);
      depth = omega (arith, depth-Rec name fields, is.depth);
      size = omega (arith, size-Rec name fields, is.size, few);
    }

-- the schema of a file that is written
pub printable : (columns : List Column) (lineage : Bool) → IsColumns columns → IsPrintable (file_schema columns lineage)
printable columns lineage are =
    let plain = are_plain_names columns in
    let named = are_named columns lineage are in
    let names = names_known plain columns lineage in
    record_printable (codes "row") (map (column_field plain) columns ++ lineage_fields lineage) refl (simple_known (map (column_field plain) columns ++ lineage_fields lineage) (fields_simple plain columns lineage))
    (ap (list_all is_avro_name) names ∙ named.avro) (ap are_distinct names ∙ named.distinct) (fields_few plain columns lineage are.few)
