-- The schema of a file that is written of rows: its fields, their ids and their types. Each column is read from its own field.
use Rattle.std.proofs.Common.{◌≡◌, ℕ, zero, suc, ◌+◌, Bool, true, false, List, [], ◌∷◌, ◌++◌, map, get_or, Some, inl}
use Rattle.std.proofs.Common.{inr, refl, sym, ap, subst, ◌∙◌, arith}
use Rattle.std.specs.Prelude.{◌≢◌, ℤ, pos, ◌≤ℤ◌, Option, codes, if◌then◌else◌}
use Rattle.std.specs.List.{All, AllPairs}
use Rattle.std.specs.Ordering.{int_eq}
use Rattle.std.proofs.lemmas.Bool.{cases_Bool}
use Rattle.std.proofs.lemmas.Bool.Decides.{Decides-int_eq}
use Rattle.std.proofs.lemmas.Int.{ints}
use Rattle.std.proofs.lemmas.List.Elements.{All-nil, All-cons, All-head, All-tail}
use Rattle.row_types.specs.declared.column.Column.{Column}
use Rattle.row_types.specs.declared.column.Kind.TheVariants.{Long}
use Rattle.row_types.specs.Columns.{IsColumns}
use Rattle.schema_tree.specs.declared.schema.Schema.{Schema, out-Schema, roll-Schema, out-roll-Schema}
use Rattle.schema_tree.specs.declared.schema.Schema.TheOpen as layers
use Rattle.schema_tree.specs.declared.schema.Schema.TheVariants as schemas
use Rattle.schema_tree.specs.declared.schema.Field.{Field, out-Field}
use Rattle.schema_tree.specs.declared.logical.Logical.TheVariants.{Plain}
use Rattle.avro_cells.specs.Kind.{Level, is_allowed, written_type, optional_type}
use Rattle.avro_cells.specs.KindLaws.{written_allowed, optional_allowed}
use Rattle.fields.specs.Wanted.{fields_of, fields_of_level}
use Rattle.stored_rows.specs.Field.{Found, is_this, find_from, find, row_id_field}
use Rattle.stored_rows.specs.Field.{last_updated_field}
use Rattle.stored_rows.specs.Stored.{IsThere, HoldsLongs, AreReadable}
use Rattle.row_writing.specs.Writing.{file_schema, column_field, lineage_fields}
use Rattle.row_writing.specs.Writing.{are_plain_names}

-- ---- its levels

-- what a schema is made of
out_of : (schema : Schema) (level : Level) → roll-Schema level ≡ schema → out-Schema schema ≡ level
out_of schema level is = ap out-Schema (sym is) ∙ out-roll-Schema level

-- its fields are those of the columns, and those of lineage behind them
pub written_fields : (columns : List Column) (lineage : Bool) → fields_of (file_schema columns lineage) ≡ map (column_field (are_plain_names columns)) columns ++ lineage_fields lineage
written_fields columns lineage =
    let fields = map (column_field (are_plain_names columns)) columns ++ lineage_fields lineage in
    ap fields_of_level (out_of (schemas.Rec (codes "row") fields) (layers.Rec (codes "row") fields) (schemas.rolls-Rec (codes "row") fields))

-- ---- the types

-- the type of a column's field is read as the column's kind
pub field_allowed : (plain : Bool) (column : Column) → is_allowed column.kind (out-Field (column_field plain column)).schema ≡ true
field_allowed plain column = by_required column.required
  where
    by_required : (required : Bool) → is_allowed column.kind (if required then written_type column.kind else optional_type (written_type column.kind)) ≡ true
    by_required true = written_allowed column.kind
    by_required false = optional_allowed column.kind

-- and that of a lineage column as a long
lineage_allowed : is_allowed Long (optional_type (schemas.Long Plain)) ≡ true
lineage_allowed = optional_allowed Long

-- ---- the ids

-- an id is itself
pub this_id : (id : ℤ) → is_this id (Some id) ≡ true
this_id id = (Decides-int_eq id id).1 refl

-- and no other
pub other_id : (id other : ℤ) → other ≢ id → is_this id (Some other) ≡ false
other_id id other differ =
    elim (cases_Bool (int_eq other id)) [
      | inl same ↦ absurd (differ ((Decides-int_eq other id).0 same))
      | inr right ↦ right
    ]

-- the first column has another id than each later one
pub first_id : (column : Column) (columns : List Column) → AllPairs (λ (a b : Column). a.id ≢ b.id) (column ∷ columns) → All (λ (other : Column). column.id ≢ other.id) columns
first_id column columns distinct k d within = distinct zero (suc k) d (omega arith) (omega arith)

-- and so have those behind it
pub later_ids : (column : Column) (columns : List Column) → AllPairs (λ (a b : Column). a.id ≢ b.id) (column ∷ columns) → AllPairs (λ (a b : Column). a.id ≢ b.id) columns
later_ids column columns distinct i j d lt within = distinct (suc i) (suc j) d (omega arith) (omega arith)

-- no column has the id of a lineage column
pub no_column : (id : ℤ) → pos 2147483448 ≤ℤ id → (columns : List Column) → IsColumns columns → All (λ (column : Column). column.id ≢ id) columns
no_column id reserved columns are k d within = let low = (are.ids k d within).1 in omega (arith, ints, low)

-- ---- the field that is found

-- what is said of a field that was found, and not of its place
module _ (Such : Option Found → Type 0) (moves : (place other : ℕ) (schema : Schema) → Such (Some (place, schema)) → Such (Some (other, schema))) where
  -- it is so wherever the fields begin
  found_elsewhere : (id : ℤ) (fields : List Field) (place other : ℕ) → Such (find_from place id fields) → Such (find_from other id fields)
  unfolding find_from
  found_elsewhere id [] place other such = such
  found_elsewhere id (field ∷ fields) place other such = by_this (is_this id (out-Field field).id) such (found_elsewhere id fields (place + 1) (other + 1))
    where
      by_this : (this : Bool) → Such (if this then Some (place, (out-Field field).schema) else find_from (place + 1) id fields) → (Such (find_from (place + 1) id fields) → Such (find_from (other + 1) id fields))
          → Such (if this then Some (other, (out-Field field).schema) else find_from (other + 1) id fields)
      by_this true such later = moves place other (out-Field field).schema such
      by_this false such later = later such

  -- a field of another id is passed over
  found_behind : (id : ℤ) (field : Field) (fields : List Field) → is_this id (out-Field field).id ≡ false → Such (find id fields) → Such (find id (field ∷ fields))
  unfolding find_from
  found_behind id field fields other such = rw other (found_elsewhere id fields 0 1 such)

  -- and so are those of columns
  found_behind_columns : (id : ℤ) (plain : Bool) (columns : List Column) (more : List Field) → All (λ (column : Column). column.id ≢ id) columns → Such (find id more) → Such (find id (map (column_field plain) columns ++ more))
  found_behind_columns id plain [] more others such = such
  found_behind_columns id plain (column ∷ columns) more others such =
      found_behind id (column_field plain column) (map (column_field plain) columns ++ more) (other_id id column.id (All-head (λ (column : Column). column.id ≢ id) column columns others))
      (found_behind_columns id plain columns more (All-tail (λ (column : Column). column.id ≢ id) column columns others) such)

-- ---- each column is read

-- whether a column is there doesn't hang on the place
there_anywhere : (column : Column) (place other : ℕ) (schema : Schema) → IsThere column (Some (place, schema)) → IsThere column (Some (other, schema))
there_anywhere column place other schema there = there

-- each column is there
each_there : (plain : Bool) (columns : List Column) (more : List Field) → AllPairs (λ (a b : Column). a.id ≢ b.id) columns → All (λ (column : Column). IsThere column (find column.id (map (column_field plain) columns ++ more))) columns
unfolding find_from
each_there plain [] more distinct = All-nil (λ (column : Column). IsThere column (find column.id more))
each_there plain (column ∷ columns) more distinct =
    let fields : List Field = map (column_field plain) columns ++ more in
    let later : All (λ (other : Column). IsThere other (find other.id fields)) columns = each_there plain columns more (later_ids column columns distinct) in
    let others = first_id column columns distinct in
    let here : IsThere column (find column.id (column_field plain column ∷ fields)) = rw (this_id column.id) (field_allowed plain column) in
    All-cons (λ (other : Column). IsThere other (find other.id (column_field plain column ∷ fields))) column columns here (λ k d within.
    let other = get_or columns k d in
    found_behind (IsThere other) (there_anywhere other) other.id (column_field plain column) fields (other_id other.id column.id (others k d within)) (later k d within))

-- a lineage column, where there is one, holds longs
lineage_there : (id : ℤ) (plain : Bool) (columns : List Column) (more : List Field) → All (λ (column : Column). column.id ≢ id) columns → HoldsLongs (find id more) → HoldsLongs (find id (map (column_field plain) columns ++ more))
lineage_there id plain columns more others holds = found_behind_columns HoldsLongs (λ place other schema held. held) id plain columns more others holds

-- the lineage columns that are written
lineage_found : (lineage : Bool) → HoldsLongs (find row_id_field (lineage_fields lineage)) × HoldsLongs (find last_updated_field (lineage_fields lineage))
unfolding find_from
lineage_found false = (tt, tt)
lineage_found true = (lineage_allowed, lineage_allowed)

-- the fields of a file that is written can be read for the table
pub readable : (columns : List Column) (lineage : Bool) → IsColumns columns → AreReadable columns (fields_of (file_schema columns lineage))
readable columns lineage are =
    let plain = are_plain_names columns in
    let found = lineage_found lineage in
    let right : AreReadable columns (map (column_field plain) columns ++ lineage_fields lineage) = record {
      each = each_there plain columns (lineage_fields lineage) are.distinct_ids;
      row_id = lineage_there row_id_field plain columns (lineage_fields lineage) (no_column row_id_field (omega (arith, ints)) columns are) found.0;
      last_updated = lineage_there last_updated_field plain columns (lineage_fields lineage) (no_column last_updated_field (omega (arith, ints)) columns are) found.1;
    } in
    subst (AreReadable columns) (sym (written_fields columns lineage)) right
