-- The metadata of a new table is a table's.
use Rattle.std.proofs.Common.{◌≡◌, inl, ℕ, suc, ℤ, pos, List, [], ◌∷◌, map, Bool, true, codes, refl, arith}
use Rattle.std.proofs.lemmas.Int.{ints}
use Rattle.std.specs.Prelude.{All, ◌≤ℤ◌}
use Rattle.serde_json.specs.Data.{Data, array, object, boolean, no_items, item, no_members}
use Rattle.serde_json.specs.Find.{get_member}
use Rattle.serde_json.specs.View.{items_of}
use Rattle.json_members.specs.declared.rows.Version.{Version}
use Rattle.json_members.specs.declared.rows.Version.TheVariants.{Older, Newer}
use Rattle.json_members.specs.Form.{is_long}
use Rattle.json_members.specs.Members.{lacks, with_fields}
use Rattle.json_members.specs.NumberLaws.{long_again}
use Rattle.json_members.specs.Plain.{IsPlain, ArePlain, ItemsArePlain}
use Rattle.json_members.specs.PlainLaws.{plain_fields, array_plain, object_plain, item_plain, none_plain, whole_plain}
use Rattle.json_members.specs.PlainLaws.{string_plain}
use Rattle.row_types.specs.declared.column.Column.{Column}
use Rattle.row_types.specs.Columns.{IsColumns, largest_id}
use Rattle.row_types.specs.KindWord.{kind_text}
use Rattle.schema_columns.specs.AgainLaws.{schema_again}
use Rattle.schema_columns.specs.Printing.{column_fields, column_value, schema_fields, schema_of}
use Rattle.metadata_reading.specs.Members.{known}
use Rattle.metadata_reading.specs.Relation.{AreCarried}
use Rattle.metadata_reading.specs.Table.{IsTable, IsNext}
use Rattle.metadata_reading.specs.Version.{IsVersion, format}
use Rattle.metadata_changes.specs.Fresh.{greatest, empty_fields, empty_of, fresh_fields, first_next, fresh}
use Rattle.metadata_changes.specs.NumberLaws.{larger_long}
use Rattle.metadata_changes.specs.Numbers.{larger}

-- ---- the greatest id

-- an id of a column has 64 bits
id_long : (id : ℤ) → id ≤ℤ pos 2147483447 → is_long id ≡ true
id_long id most = grind (arith, ints)

-- so has the greatest of them
greatest_long : (most : ℤ) (columns : List Column) → is_long most ≡ true
    → All (λ (c : Column). (pos 1 ≤ℤ c.id) × (c.id ≤ℤ pos largest_id)) columns → is_long (greatest most columns) ≡ true
greatest_long most [] long all = long
greatest_long most (column ∷ columns) long all =
    greatest_long (larger most column.id) columns
    (larger_long most column.id long (id_long column.id (all 0 column (omega arith)).1))
    (λ i d lt. all (suc i) d (omega (arith, lt)))

-- ---- floats and depth

nothing_plain : (room : ℕ) → ArePlain room no_members
nothing_plain room = record { shallow = omega arith; whole = refl }

flag_plain : (room : ℕ) (b : Bool) → IsPlain room (boolean b)
flag_plain room b = record { shallow = omega arith; whole = refl }

columns_plain : (columns : List Column) → ItemsArePlain 123 (items_of (map column_value columns))
columns_plain [] = none_plain 123
columns_plain (c ∷ columns) =
    item_plain 123 (column_value c) _ (object_plain
    122 _ (plain_fields 122 (column_fields c) no_members (
      whole_plain 122 c.id,
      (
        string_plain 122 c.name,
        (flag_plain 122 c.required, (string_plain 122 (kind_text c.kind), tt)),
      ),
    ) (nothing_plain 122)))
    (columns_plain columns)

schema_plain : (columns : List Column) → IsPlain 125 (object (schema_of columns))
schema_plain columns =
    object_plain 124 _ (plain_fields 124 (schema_fields columns) no_members
    (array_plain 123 _ (columns_plain columns), (whole_plain 124 (pos 0), (string_plain 124 (codes "struct"), tt)))
    (nothing_plain 124))

empty_plain : (name : List ℕ) → IsPlain 125 (object (empty_of name))
empty_plain name = object_plain 124 _ (plain_fields 124 (empty_fields name) no_members
    (array_plain 123 no_items (none_plain 123), (whole_plain 124 (pos 0), tt)) (nothing_plain 124))

one_plain : (d : Data) → IsPlain 125 d → IsPlain 126 (array (item d no_items))
one_plain d here = array_plain 125 _ (item_plain 125 d no_items here (none_plain 125))

none_listed : IsPlain 126 (array no_items)
none_listed = array_plain 125 no_items (none_plain 125)

no_object : IsPlain 126 (object no_members)
no_object = object_plain 125 no_members (nothing_plain 125)

fresh_plain : (columns : List Column) → ArePlain 126 (with_fields (fresh_fields columns) no_members)
fresh_plain columns =
    plain_fields 126 (fresh_fields columns) no_members (
      whole_plain 126 (pos 0),
      (
        whole_plain 126 (greatest (pos 0) columns),
        (
          whole_plain 126 (pos 999),
          (
            none_listed,
            (
              no_object,
              (
                no_object,
                (
                  none_listed,
                  (
                    one_plain
                        _ (empty_plain (codes "spec-id")),
                    (
                      one_plain
                          _ (schema_plain columns),
                      (one_plain _ (empty_plain (codes "order-id")), tt),
                    ),
                  ),
                ),
              ),
            ),
          ),
        ),
      ),
    ) (nothing_plain 126)

-- ---- the table

carried_fresh : (columns : List Column) → IsColumns columns
    → AreCarried (λ name. get_member name (with_fields (fresh_fields columns) no_members)) (pos 0) columns
carried_fresh columns right = record {
  last_column_id = (
    greatest (pos 0) columns,
    long_again
        (greatest (pos 0) columns) (greatest_long (pos 0) columns refl right.ids),
  );
  schemas = record {
    items = item (object (schema_of columns)) no_items;
    is_list = refl;
    each = ((pos 0, refl), tt);
    schema = schema_of columns;
    current = inl (refl, refl);
    is_schema = schema_again columns right;
  };
  specs = (item (object (empty_of (codes "spec-id"))) no_items, refl, (((pos 0, refl), refl), tt));
  snapshot_log = (no_items, refl);
  metadata_log = (no_items, refl);
  refs = (no_members, refl);
  properties = (no_members, refl);
  encryption_keys = tt;
  no_keys = refl;
}

next_right : (version : Version) → IsNext version (first_next version)
next_right Older = refl
next_right Newer = record { fits = refl; least = refl }

lacks_fresh : (version : Version) (columns : List Column)
    → lacks (known version) (with_fields (fresh_fields columns) no_members) ≡ true
lacks_fresh Older columns = refl
lacks_fresh Newer columns = refl

pub table_fresh : (uuid : List ℕ) (version : ℕ) (location : List ℕ) (columns : List Column) (now : ℤ)
    → IsVersion version → is_long now ≡ true → IsColumns columns → IsTable (fresh uuid version location columns now)
table_fresh uuid version location columns now is long right = record {
  version = is;
  last_sequence = record { fits = refl; least = refl };
  last_updated = long;
  schema_id = refl;
  spec_id = refl;
  next_row_id = next_right (format version);
  snapshots = tt;
  few = omega arith;
  distinct = refl;
  current = tt;
  unencrypted = tt;
  carried = carried_fresh columns right;
  lacks = lacks_fresh (format version) columns;
  plain = fresh_plain columns;
}
