-- The object of columns is a schema with these columns.
use Rattle.std.proofs.Common.{◌≡◌, suc, ℤ, pos, List, [], ◌∷◌, map, true, refl, arith}
use Rattle.std.proofs.lemmas.Int.{ints}
use Rattle.std.specs.Prelude.{All, ⊤, ◌≤ℤ◌}
use Rattle.serde_json.specs.Data.{no_members}
use Rattle.serde_json.specs.View.{items_of}
use Rattle.json_members.specs.Form.{is_long}
use Rattle.json_members.specs.Members.{with_fields}
use Rattle.json_members.specs.NumberLaws.{long_again}
use Rattle.row_types.specs.declared.column.Column.{Column}
use Rattle.row_types.specs.Columns.{IsColumns, largest_id}
use Rattle.schema_columns.specs.Printing.{column_fields, column_value, schema_of}
use Rattle.schema_columns.specs.Relation.{AreFields, IsSchema}

abbrev HasLongs : List Column → Type 0
HasLongs [] = ⊤
HasLongs (column ∷ columns) = (is_long column.id ≡ true) × HasLongs columns

long_id : (z : ℤ) → z ≤ℤ pos 2147483447 → is_long z ≡ true
long_id z most = grind (arith, ints)

has_longs : (list : List Column) → All (λ (c : Column). (pos 1 ≤ℤ c.id) × (c.id ≤ℤ pos largest_id)) list → HasLongs list
has_longs [] all = tt
has_longs (column ∷ columns) all =
    (long_id column.id (all 0 column (omega arith)).1, has_longs columns (λ i d lt. all (suc i) d (omega (arith, lt))))

fields_again : (columns : List Column) → HasLongs columns → AreFields (items_of (map column_value columns)) columns
fields_again [] longs = tt
fields_again (column ∷ columns) longs = (
  record {
    ms = with_fields (column_fields column) no_members;
    is_object = refl;
    is_column = record {
      id = long_again column.id longs.0;
      name = refl;
      required = refl;
      kind = refl;
      initial_default = tt;
      write_default = tt;
    };
  },
  fields_again columns longs.1,
)

pub schema_again : (columns : List Column) → IsColumns columns → IsSchema (schema_of columns) columns
schema_again columns right = record {
  items = items_of (map column_value columns);
  fields = refl;
  each = fields_again columns (has_longs columns right.ids);
  right = right;
}
