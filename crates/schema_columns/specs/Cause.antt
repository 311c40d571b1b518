-- Why the columns of a schema's object are refused: the cause of each refusal, whichever check comes first. Iceberg
-- spec, "Schemas and Data Types", and Appendix C, "Schemas".
use Rattle.std.specs.Prelude.{◌≡◌, ◌≢◌, ◌⊎◌, ⊤, ℕ, List, Option, Some, None, codes}
use Rattle.serde_json.specs.Data.{string, Items, no_items, item, Members}
use Rattle.serde_json.specs.Find.{get_member, as_object}
use Rattle.json_members.specs.declared.fault.Fault.{Fault}
use Rattle.json_members.specs.declared.rows.Version.TheVariants.{Older}
use Rattle.json_members.specs.Cause.{AnyItemHasFault}
use Rattle.json_members.specs.Rows.{of_version}
use Rattle.row_types.specs.declared.column.Column.{Column}
use Rattle.row_types.specs.declared.column.Kind.{Kind}
use Rattle.row_types.specs.Columns.{IsColumns}
use Rattle.row_types.specs.KindWord.{kind_text}
use Rattle.schema_columns.specs.declared.refusal.ColumnRefusal.{ColumnRefusal}
use Rattle.schema_columns.specs.declared.refusal.ColumnRefusal.TheVariants.{Fields, ColumnType, Memory}
use Rattle.schema_columns.specs.Members.{members}
use Rattle.schema_columns.specs.Reading.{id_in, fields_found}
use Rattle.schema_columns.specs.Relation.{IsUnset, AreFields}

-- ---- the items of the list `fields`

-- one is no object, or has a member that is missing or wrong
abbrev pub HasWrongField : Items → Type 0
HasWrongField items = (f : Fault) × AnyItemHasFault (codes "fields") (of_version Older members) items f

-- one is an object without an id of 32 bits
abbrev pub LacksId : Option Members → Type 0
LacksId None = ⊥
LacksId (Some ms) = id_in ms ≡ None

abbrev pub AnyLacksId : Items → Type 0
AnyLacksId no_items = ⊥
AnyLacksId (item value items) = LacksId (as_object value) ⊎ AnyLacksId items

-- they are columns, each by itself, but together not those of a table
pub record AreNoColumns (items : Items) : Type 0 where
  pub columns : List Column
  pub each : AreFields items columns
  pub wrong : IsColumns columns → ⊥

-- the type is the word of no kind
abbrev pub HasOtherType : Members → Type 0
HasOtherType ms = (kind : Kind) → get_member (codes "type") ms ≢ Some (string (kind_text kind))

-- there is a default value
abbrev pub HasDefault : Members → Type 0
HasDefault ms =
    (IsUnset (get_member (codes "initial-default") ms) → ⊥) ⊎ (IsUnset (get_member (codes "write-default") ms) → ⊥)

-- one is a column with this name whose type is none of the nine, or that has a default value
pub record HasNoKind (ms : Members) (name : List ℕ) : Type 0 where
  pub named : get_member (codes "name") ms ≡ Some (string name)
  pub no_kind : HasOtherType ms ⊎ HasDefault ms

abbrev pub ItemHasNoKind : Option Members → List ℕ → Type 0
ItemHasNoKind None name = ⊥
ItemHasNoKind (Some ms) name = HasNoKind ms name

abbrev pub AnyHasNoKind : Items → List ℕ → Type 0
AnyHasNoKind no_items name = ⊥
AnyHasNoKind (item value items) name = ItemHasNoKind (as_object value) name ⊎ AnyHasNoKind items name

-- ---- a schema

-- there is no list, or it isn't one of columns
abbrev pub AreNoFields : Option Items → Type 0
AreNoFields None = ⊤
AreNoFields (Some items) = HasWrongField items ⊎ (AnyLacksId items ⊎ AreNoColumns items)

abbrev pub SomeHasNoKind : Option Items → List ℕ → Type 0
SomeHasNoKind None name = ⊥
SomeHasNoKind (Some items) name = AnyHasNoKind items name

-- the refusal of the items of that list
abbrev pub IsFieldsCause : Option Items → ColumnRefusal → Type 0
IsFieldsCause found Fields = AreNoFields found
IsFieldsCause found (ColumnType name) = SomeHasNoKind found name
IsFieldsCause found Memory = ⊥

-- the refusal of a schema's object
abbrev pub IsSchemaCause : Members → ColumnRefusal → Type 0
IsSchemaCause schema refusal = IsFieldsCause (fields_found schema) refusal
