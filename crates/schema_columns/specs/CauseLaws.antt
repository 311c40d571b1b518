-- A schema whose columns are refused has the cause of the refusal, whichever check comes first.
use Rattle.std.proofs.Common.{◌≡◌, inl, inr, ℕ, ℤ, List, [], ◌∷◌, ◌++◌, Option, Some, None, is_some}
use Rattle.std.proofs.Common.{Ok, Err, codes, refl, sym, subst, ◌∙◌}
use Rattle.words.specs.Reading.{map_refusal}
use Rattle.words.specs.Steps.{err_is, bind_refused, map_ok, map_refused}
use Rattle.serde_json.specs.Data.{Items, no_items, item, Members}
use Rattle.serde_json.specs.Find.{get_member, as_object}
use Rattle.json_members.specs.declared.fault.Fault.{Fault}
use Rattle.json_members.specs.declared.fault.Fault.TheVariants as fault
use Rattle.json_members.specs.declared.rows.Version.TheVariants.{Older}
use Rattle.json_members.specs.Cause.{AnyItemHasFault}
use Rattle.json_members.specs.CauseLaws.{no_list_memory, list_fault}
use Rattle.json_members.specs.RowLaws.{each_all_right}
use Rattle.json_members.specs.Rows.{Row, HasRight, EachIsRight, each_checked, of_version}
use Rattle.row_types.specs.declared.column.Column.{Column}
use Rattle.row_types.specs.declared.column.Kind.{Kind}
use Rattle.row_types.specs.Columns.{IsColumns, columns_of}
use Rattle.row_types.specs.ColumnsLaws.{columns_accepted}
use Rattle.schema_columns.specs.declared.refusal.ColumnRefusal.{ColumnRefusal}
use Rattle.schema_columns.specs.declared.refusal.ColumnRefusal.TheVariants.{Fields, ColumnType}
use Rattle.schema_columns.specs.Cause.{LacksId, AnyLacksId, AreNoColumns, ItemHasNoKind, AnyHasNoKind}
use Rattle.schema_columns.specs.Cause.{IsFieldsCause, IsSchemaCause}
use Rattle.schema_columns.specs.FoundLaws.{passed_if, text_found, items_found}
use Rattle.schema_columns.specs.KindLaws.{no_kind_found}
use Rattle.schema_columns.specs.Members.{members}
use Rattle.schema_columns.specs.Reading.{id_in, kind_in, name_in, object_kind_checked, column_or_wrong, object_column}
use Rattle.schema_columns.specs.Reading.{column_of, kind_checked, kinds_checked, columns_from, checked_columns}
use Rattle.schema_columns.specs.Reading.{table_columns, fields_found, columns_or_wrong, columns_in}
use Rattle.schema_columns.specs.Refusal.{of_fault}

-- the rows of a column's members
abbrev rows : List Row
rows = of_version Older members

-- ---- members that are missing or wrong

-- the fault of an item is a cause
fault_cause : (items : Items) (f : Fault) → AnyItemHasFault (codes "fields") rows items f
    → IsFieldsCause (Some items) (of_fault f)
fault_cause items (fault.Missing name) h = inl (fault.Missing name, h)
fault_cause items (fault.Wrong name) h = inl (fault.Wrong name, h)
fault_cause items fault.Memory h = absurd (no_list_memory (codes "fields") rows items h)

-- so is the first fault of the items
rows_cause : (items : Items) (refusal : ColumnRefusal)
    → map_refusal of_fault (each_checked (codes "fields") rows items) ≡ Err refusal
    → IsFieldsCause (Some items) refusal
rows_cause items refusal is =
    let p = map_refused of_fault (each_checked (codes "fields") rows items) refusal is in
    let h = list_fault (codes "fields") rows items p.0 p.1 in
    subst (IsFieldsCause (Some items)) p.2 (fault_cause items p.0 h)

-- ---- kinds

-- a column is refused for its kind only if it has none
kind_absent : (kind : Option Kind) (name : List ℕ) (refusal : ColumnRefusal)
    → passed_if (is_some kind) name ≡ Err refusal → (kind ≡ None) × (ColumnType name ≡ refusal)
kind_absent None name refusal is = (refl, err_is (ColumnType name) refusal is)
kind_absent (Some kind) name refusal is = absurd cc

-- an item without a kind is refused by its name
kind_cause : (found : Option Members) (refusal : ColumnRefusal) → HasRight rows found
    → object_kind_checked found ≡ Err refusal
    → (name : List ℕ) × (ColumnType name ≡ refusal) × ItemHasNoKind found name
kind_cause None refusal right is = absurd right
kind_cause (Some ms) refusal right is =
    let p = kind_absent (kind_in ms) (name_in ms) refusal is in
    let named = text_found (codes "name") (get_member (codes "name") ms) right.1.0 in
    (name_in ms, p.1, record { named = named; no_kind = no_kind_found ms p.0 })

-- so is the first of the items that has none
kinds_cause : (items : Items) (refusal : ColumnRefusal) → EachIsRight rows items → kinds_checked items ≡ Err refusal
    → (name : List ℕ) × (ColumnType name ≡ refusal) × AnyHasNoKind items name
kinds_cause no_items refusal right is = absurd cc
kinds_cause (item value items) refusal right is =
    bind_refused (kind_checked value) (λ _. kinds_checked items) refusal is
    (λ here. let h = kind_cause (as_object value) refusal right.0 here in (h.0, h.1, inl h.2))
    (λ _ _ rest. let h = kinds_cause items refusal right.1 rest in (h.0, h.1, inr h.2))

-- ---- ids

-- members are refused only for their id
id_absent : (ms : Members) (id : Option ℤ) (refusal : ColumnRefusal) → column_or_wrong ms id ≡ Err refusal
    → (id ≡ None) × (Fields ≡ refusal)
id_absent ms None refusal is = (refl, err_is Fields refusal is)
id_absent ms (Some id) refusal is = absurd cc

-- an item that is refused lacks its id
id_cause : (found : Option Members) (refusal : ColumnRefusal) → HasRight rows found
    → object_column found ≡ Err refusal → LacksId found × (Fields ≡ refusal)
id_cause None refusal right is = absurd right
id_cause (Some ms) refusal right is = id_absent ms (id_in ms) refusal is

-- so does one of the items
ids_cause : (seen : List Column) (items : Items) (refusal : ColumnRefusal)
    → EachIsRight rows items → columns_from seen items ≡ Err refusal → AnyLacksId items × (Fields ≡ refusal)
ids_cause seen no_items refusal right is = absurd cc
ids_cause seen (item value items) refusal right is =
    bind_refused (column_of value) (λ column. columns_from (seen ++ column ∷ []) items) refusal is
    (λ here. let h = id_cause (as_object value) refusal right.0 here in (inl h.0, h.1))
    (λ column _ rest. let h = ids_cause (seen ++ column ∷ []) items refusal right.1 rest in (inr h.0, h.1))

-- ---- columns

-- a list that is refused isn't the columns of a table
no_columns : (list : List Column) (refusal : ColumnRefusal) → table_columns list ≡ Err refusal
    → (IsColumns list → ⊥) × (Fields ≡ refusal)
no_columns list refusal is =
    let p = map_refused (λ _. Fields) (columns_of list) refusal is in
    ((λ right. let both = sym (columns_accepted list right) ∙ p.1 in absurd cc), p.2)

-- ---- items

-- one of the items is refused by itself
checked_cause : (items : Items) (refusal : ColumnRefusal) → checked_columns items ≡ Err refusal
    → IsFieldsCause (Some items) refusal
checked_cause items refusal is =
    bind_refused (map_refusal of_fault (each_checked (codes "fields") rows items)) _ refusal is
    (rows_cause items refusal)
    (λ _ checked rest.
    let right = each_all_right (codes "fields") rows items (map_ok of_fault _ tt checked) in
    bind_refused (kinds_checked items) _ refusal rest
    (λ here. let h = kinds_cause items refusal right here in subst (IsFieldsCause (Some items)) h.1 h.2)
    (λ _ _ ids. let h = ids_cause [] items refusal right ids in subst (IsFieldsCause (Some items)) h.1 (inr (inl h.0))))

-- each item is read, but the columns are refused together
together_cause : (items : Items) (list : List Column) (refusal : ColumnRefusal) → checked_columns items ≡ Ok list
    → table_columns list ≡ Err refusal → IsFieldsCause (Some items) refusal
together_cause items list refusal read is =
    let h = no_columns list refusal is in
    let are : AreNoColumns items = record { columns = list; each = items_found items list read; wrong = h.0 } in
    subst (IsFieldsCause (Some items)) h.1 (inr (inr are))

-- the list `fields` is refused, or is missing
items_cause : (found : Option Items) (refusal : ColumnRefusal) → columns_or_wrong found ≡ Err refusal
    → IsFieldsCause found refusal
items_cause None refusal is = subst (IsFieldsCause None) (err_is Fields refusal is) tt
items_cause (Some items) refusal is =
    bind_refused (checked_columns items) table_columns refusal is
    (checked_cause items refusal)
    (λ list read refused. together_cause items list refusal read refused)

-- ---- a schema

-- a schema that is refused has the cause of its refusal
pub schema_refused : (schema : Members) (refusal : ColumnRefusal) → columns_in schema ≡ Err refusal
    → IsSchemaCause schema refusal
schema_refused schema refusal is = items_cause (fields_found schema) refusal is
