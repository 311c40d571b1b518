-- The columns that are read are the schema's, and a schema's columns are read.
use Rattle.std.proofs.Common.{◌≡◌, ℕ, suc, ℤ, pos, negsuc, ◌^◌, ◌-◌, int_lt, List, [], ◌∷◌, ◌++◌, Bool}
use Rattle.std.proofs.Common.{true, false}
use Rattle.std.proofs.Common.{◌||◌, not, Option, Some, None, is_some, option_and_then, unwrap_or, Result, Ok, Err}
use Rattle.std.proofs.Common.{codes}
use Rattle.std.proofs.Common.{if◌then◌else◌, refl, sym, ap, subst, ◌∙◌, append_assoc, append-nil, arith}
use Rattle.std.proofs.lemmas.Int.{ints}
use Rattle.std.proofs.lemmas.Slice.Eq.{bytes_eq-Decides}
use Rattle.std.specs.Str.{bytes_eq}
use Rattle.std.specs.Prelude.{All, ⊤, ◌≤ℤ◌}
use Rattle.words.specs.Reading.{map_refusal}
use Rattle.words.specs.Steps.{bind_ok, bind_only, map_ok, ok_is}
use Rattle.serde_json.specs.Data.{Data, null, boolean, number, string, array, object, Items, no_items, item, Members}
use Rattle.serde_json.specs.Find.{get_member, as_array, as_bool, as_null, as_object}
use Rattle.json_members.specs.declared.form.Form.{Form}
use Rattle.json_members.specs.declared.form.Form.TheVariants.{Long, Text, Flag}
use Rattle.json_members.specs.declared.rows.Keep.TheVariants.{InField}
use Rattle.json_members.specs.declared.rows.Need.TheVariants.{Needed}
use Rattle.json_members.specs.declared.rows.Version.TheVariants.{Older}
use Rattle.json_members.specs.Form.{if_int}
use Rattle.json_members.specs.Rows.{Row, tested, AreRight, HasRight, EachIsRight, each_checked, of_version}
use Rattle.json_members.specs.RowLaws.{each_all_right, each_without_fault, tested_right}
use Rattle.json_members.specs.Values.{number_in, text_in}
use Rattle.row_types.specs.declared.column.Column.{Column}
use Rattle.row_types.specs.declared.column.Kind.{Kind}
use Rattle.row_types.specs.declared.column.Kind.TheVariants as kinds
use Rattle.row_types.specs.Columns.{largest_id}
use Rattle.row_types.specs.ColumnsLaws.{columns_accepted, accepted_same, accepted_columns}
use Rattle.row_types.specs.KindWord.{kind_text}
use Rattle.schema_columns.specs.declared.refusal.ColumnRefusal.{ColumnRefusal}
use Rattle.schema_columns.specs.declared.refusal.ColumnRefusal.TheVariants.{Fields, ColumnType}
use Rattle.schema_columns.specs.Kind.{all_kinds, kind_among, kind_of}
use Rattle.schema_columns.specs.Members.{members}
use Rattle.schema_columns.specs.Reading.{name_in, required_in, id_in, is_set, is_set_at, has_default, kind_in}
use Rattle.schema_columns.specs.Reading.{kind_or_boolean}
use Rattle.schema_columns.specs.Reading.{kind_checked, column_or_wrong, column_in, column_of, kinds_checked}
use Rattle.schema_columns.specs.Reading.{columns_from}
use Rattle.schema_columns.specs.Reading.{checked_columns, table_columns, fields_found}
use Rattle.schema_columns.specs.Reading.{columns_or_wrong}
use Rattle.schema_columns.specs.Reading.{columns_in}
use Rattle.schema_columns.specs.Refusal.{of_fault}
use Rattle.schema_columns.specs.Relation.{IsUnset, IsColumn, IsField, AreFields, IsSchema}

-- ---- kinds

among_step : (kind here : Kind) (word : List ℕ) (b : Bool) (later : Option Kind) → bytes_eq (kind_text here) word ≡ b
    → (later ≡ Some kind → word ≡ kind_text kind) → (if b then Some here else later) ≡ Some kind → word ≡ kind_text kind
among_step kind here word true later tested rest is =
    let same : here ≡ kind = cc in
    sym ((bytes_eq-Decides (kind_text here) word).0 tested) ∙ ap kind_text same
among_step kind here word false later tested rest is = rest is

-- a word that names a kind is the kind's
among_found : (all : List Kind) (kind : Kind) (word : List ℕ) → kind_among all word ≡ Some kind → word ≡ kind_text kind
among_found [] kind word is = absurd cc
among_found (here ∷ others) kind word is =
    among_step kind here word (bytes_eq (kind_text here) word) (kind_among others word) refl
    (among_found others kind word) is

pub kind_found : (kind : Kind) (word : List ℕ) → kind_of word ≡ Some kind → word ≡ kind_text kind
kind_found kind word is = among_found all_kinds kind word is

-- the word of each kind names it
pub kind_again : (kind : Kind) → kind_of (kind_text kind) ≡ Some kind
kind_again kinds.Boolean = refl
kind_again kinds.Int = refl
kind_again kinds.Long = refl
kind_again kinds.Date = refl
kind_again kinds.Time = refl
kind_again kinds.Timestamp = refl
kind_again kinds.Timestamptz = refl
kind_again kinds.Text = refl
kind_again kinds.Bytes = refl

-- ---- what was found of one column

abbrev row : List ℕ → Form → Row
row name form = record { name = name; need = Needed; form = form; since = Older; keep = InField }

-- the text of a member that is right
pub text_found : (name : List ℕ) (found : Option Data) → tested (row name Text) found ≡ Ok tt
    → found ≡ Some (string (unwrap_or (text_in found) []))
text_found name None is = absurd cc
text_found name (Some null) is = absurd cc
text_found name (Some (boolean b)) is = absurd cc
text_found name (Some (number n)) is = absurd cc
text_found name (Some (string s)) is = refl
text_found name (Some (array items)) is = absurd cc
text_found name (Some (object ms)) is = absurd cc

flag_found : (name : List ℕ) (found : Option Data) → tested (row name Flag) found ≡ Ok tt
    → found ≡ Some (boolean (unwrap_or (option_and_then as_bool found) false))
flag_found name None is = absurd cc
flag_found name (Some null) is = absurd cc
flag_found name (Some (boolean b)) is = refl
flag_found name (Some (number n)) is = absurd cc
flag_found name (Some (string s)) is = absurd cc
flag_found name (Some (array items)) is = absurd cc
flag_found name (Some (object ms)) is = absurd cc

unset_found : (found : Option Data) → is_set found ≡ false → IsUnset found
unset_found None is = tt
unset_found (Some null) is = refl
unset_found (Some (boolean b)) is = absurd cc
unset_found (Some (number n)) is = absurd cc
unset_found (Some (string s)) is = absurd cc
unset_found (Some (array items)) is = absurd cc
unset_found (Some (object ms)) is = absurd cc

neither : (a b : Bool) → (a || b) ≡ false → (a ≡ false) × (b ≡ false)
neither true b is = absurd cc
neither false b is = (refl, is)

-- the word of a kind that is found
record HasKind (no_kind : Bool) (found : Option Data) : Type 0 where
  open_to : no_kind ≡ false
  word : found ≡ Some (string (kind_text (unwrap_or (option_and_then kind_of (text_in found)) kinds.Boolean)))

word_found : (word : List ℕ) (kind : Option Kind) → kind_of word ≡ kind → is_some kind ≡ true
    → word ≡ kind_text (unwrap_or kind kinds.Boolean)
word_found word None is some = absurd cc
word_found word (Some kind) is some = kind_found kind word is

kind_word : (no_kind : Bool) (found : Option Data)
    → is_some (if no_kind then None else option_and_then kind_of (text_in found)) ≡ true → HasKind no_kind found
kind_word true found is = absurd cc
kind_word false None is = absurd cc
kind_word false (Some null) is = absurd cc
kind_word false (Some (boolean b)) is = absurd cc
kind_word false (Some (number n)) is = absurd cc
kind_word false (Some (string word)) is = record {
  open_to = refl;
  word = ap (λ (w : List ℕ). Some (string w)) (word_found word (kind_of word) refl is);
}
kind_word false (Some (array items)) is = absurd cc
kind_word false (Some (object ms)) is = absurd cc

int_found : (o : Option ℤ) (z : ℤ) → option_and_then if_int o ≡ Some z → o ≡ Some z
int_found None z is = absurd cc
int_found (Some y) z is = by_low (int_lt y (negsuc (2 ^ 31 - 1))) (int_lt y (pos (2 ^ 31))) is
  where
    by_low : (a b : Bool) → (if a then None else (if b then Some y else None)) ≡ Some z → Some y ≡ Some z
    by_low true b is = absurd cc
    by_low false true is = is
    by_low false false is = absurd cc

column_parts : (ms : Members) (o : Option ℤ) (column : Column) → column_or_wrong ms o ≡ Ok column
    → (o ≡ Some column.id) × (name_in ms ≡ column.name) × (kind_or_boolean ms ≡ column.kind)
    × (required_in ms ≡ column.required)
column_parts ms None column is = absurd cc
column_parts ms (Some id) column is =
    let same = ok_is _ column is in (
      ap (λ (c : Column). Some c.id) same,
      ap (λ (c : Column). c.name) same,
      ap (λ (c : Column). c.kind) same,
      ap (λ (c : Column). c.required) same,
    )

-- a column is refused by its name if a test fails
abbrev pub passed_if : Bool → List ℕ → Result (Unit {0}) ColumnRefusal
passed_if b name = if b then Ok tt else Err (ColumnType name)

kind_passed : (b : Bool) (name : List ℕ) → passed_if b name ≡ Ok tt → b ≡ true
kind_passed true name is = refl
kind_passed false name is = absurd cc

-- the column of members that are right
column_found : (ms : Members) (column : Column) → AreRight (λ name. get_member name ms) (of_version Older members)
    → is_some (kind_in ms) ≡ true → column_in ms ≡ Ok column → IsColumn ms column
column_found ms column right some is =
    let parts = column_parts ms (id_in ms) column is in
    let kind = kind_word (has_default ms) (get_member (codes "type") ms) some in
    let unset = neither (is_set_at (codes "initial-default") ms) (is_set_at (codes "write-default") ms) kind.open_to in
    let kind_is : unwrap_or (option_and_then kind_of (text_in (get_member (codes "type") ms))) kinds.Boolean
    ≡ column.kind =
    ap (λ (b : Bool). unwrap_or (if b then None else option_and_then kind_of (text_in (get_member (codes "type") ms)))
    kinds.Boolean) (sym kind.open_to) ∙ parts.2 in
    record {
      id = int_found _ column.id parts.0;
      name = text_found (codes "name") _ right.1.0 ∙ ap (λ (s : List ℕ). Some (string s)) parts.1;
      required = flag_found (codes "required") _ right.1.1.0 ∙ ap (λ (b : Bool). Some (boolean b)) parts.3;
      kind = kind.word ∙ ap (λ (k : Kind). Some (string (kind_text k))) kind_is;
      initial_default = unset_found _ unset.0;
      write_default = unset_found _ unset.1;
    }

-- ---- what was found of a list

object_found : (value : Data) (column : Column) → HasRight (of_version Older members) (as_object value)
    → kind_checked value ≡ Ok tt → column_of value ≡ Ok column → IsField value column
object_found null column right kind is = absurd right
object_found (boolean b) column right kind is = absurd right
object_found (number n) column right kind is = absurd right
object_found (string s) column right kind is = absurd right
object_found (array items) column right kind is = absurd right
object_found (object ms) column right kind is = record {
  ms = ms;
  is_object = refl;
  is_column = column_found ms column right (kind_passed (is_some (kind_in ms)) (name_in ms) kind) is;
}

fields_are : (seen : List Column) (items : Items) (all : List Column) → EachIsRight (of_version Older members) items
    → kinds_checked items ≡ Ok tt → columns_from seen items ≡ Ok all
    → (new : List Column) × (all ≡ seen ++ new) × AreFields items new
fields_are seen no_items all right kind is = ([], sym (ok_is seen all is) ∙ sym (append-nil seen), tt)
fields_are seen (item value items) all right kind is =
    let k = bind_ok (kind_checked value) _ tt kind in
    let a = bind_ok (column_of value) _ all is in
    let rest = fields_are (seen ++ a.0 ∷ []) items all right.1 k.2 a.2 in
    (a.0 ∷ rest.0, rest.1 ∙ append_assoc seen (a.0 ∷ []) rest.0, (object_found value a.0 right.0 k.1 a.1, rest.2))

-- the items are the columns that are read from them
pub items_found : (items : Items) (columns : List Column) → checked_columns items ≡ Ok columns
    → AreFields items columns
items_found items columns is =
    let rows = bind_ok (map_refusal of_fault (each_checked (codes "fields") (of_version Older members) items)) _
    columns is in
    let kinds = bind_ok (kinds_checked items) _ columns rows.2 in
    let right = each_all_right (codes "fields") (of_version Older members) items (map_ok of_fault _ tt rows.1) in
    let each = fields_are [] items columns right kinds.1 kinds.2 in
    subst (AreFields items) (sym each.1) each.2

array_found : (found : Option Data) (items : Items) → option_and_then as_array found ≡ Some items
    → found ≡ Some (array items)
array_found None items is = absurd cc
array_found (Some null) items is = absurd cc
array_found (Some (boolean b)) items is = absurd cc
array_found (Some (number n)) items is = absurd cc
array_found (Some (string s)) items is = absurd cc
array_found (Some (array others)) items is = let same : others ≡ items = cc in ap (λ (i : Items). Some (array i)) same
array_found (Some (object ms)) items is = absurd cc

-- columns that are read are the schema's
pub schema_found : (schema : Members) (columns : List Column) → columns_in schema ≡ Ok columns
    → IsSchema schema columns
schema_found schema columns is = by_fields (fields_found schema) refl is
  where
    by_fields : (o : Option Items) → fields_found schema ≡ o → columns_or_wrong o ≡ Ok columns → IsSchema schema columns
    by_fields None found is = absurd cc
    by_fields (Some items) found is =
        let p = bind_ok (checked_columns items) table_columns columns is in
        let accepted = map_ok (λ _. Fields) _ columns p.2 in
        record {
          items = items;
          fields = array_found (get_member (codes "fields") schema) items found;
          each = subst (AreFields items) (accepted_same p.0 columns accepted) (items_found items p.0 p.1);
          right = accepted_columns p.0 columns accepted;
        }

-- ---- what is found is read

unset_only : (found : Option Data) → IsUnset found → is_set found ≡ false
unset_only None h = refl
unset_only (Some value) h = ap (λ (v : Data). not (is_some (as_null v))) h

kind_only : (ms : Members) (column : Column) → IsColumn ms column → kind_in ms ≡ Some column.kind
kind_only ms column h =
    let none : has_default ms ≡ false =
    ap (λ (b : Bool). b || is_set_at (codes "write-default") ms) (unset_only _ h.initial_default)
    ∙ unset_only _ h.write_default in
    ap (λ (b : Bool). if b then None else option_and_then kind_of (text_in (get_member (codes "type") ms))) none
    ∙ ap (λ (o : Option Data). option_and_then kind_of (text_in o)) h.kind ∙ kind_again column.kind

abbrev kind_test : Option Kind → List ℕ → Result (Unit {0}) ColumnRefusal
kind_test kind name = passed_if (is_some kind) name

long_right : (found : Option Data) (z : ℤ) → number_in found ≡ Some z → tested (row (codes "id") Long) found ≡ Ok tt
long_right None z is = absurd cc
long_right (Some value) z is = tested_right (row (codes "id") Long) value (ap is_some is)

rows_only : (ms : Members) (column : Column) → IsColumn ms column
    → AreRight (λ name. get_member name ms) (of_version Older members)
rows_only ms column h = (
  long_right (get_member (codes "id") ms) column.id h.id,
  (
    ap (tested (row (codes "name") Text)) h.name,
    (ap (tested (row (codes "required") Flag)) h.required, tt),
  ),
)

-- each id has 32 bits
abbrev HasInts : List Column → Type 0
HasInts [] = ⊤
HasInts (column ∷ columns) = (if_int column.id ≡ Some column.id) × HasInts columns

int_only : (z : ℤ) → pos 1 ≤ℤ z → z ≤ℤ pos 2147483447 → if_int z ≡ Some z
int_only z least most =
    let low : int_lt z (negsuc (2 ^ 31 - 1)) ≡ false = grind (arith, ints) in
    let high : int_lt z (pos (2 ^ 31)) ≡ true = grind (arith, ints) in
    ap (λ (b : Bool). if b then None else (if int_lt z (pos (2 ^ 31)) then Some z else None)) low
    ∙ ap (λ (b : Bool). if b then Some z else None) high

has_ints : (list : List Column) → All (λ (c : Column). (pos 1 ≤ℤ c.id) × (c.id ≤ℤ pos largest_id)) list → HasInts list
has_ints [] all = tt
has_ints (column ∷ columns) all =
    let here = all 0 column (omega arith) in
    (int_only column.id here.0 here.1, has_ints columns (λ i d lt. all (suc i) d (omega (arith, lt))))

abbrev made : ℤ → List ℕ → Kind → Bool → Column
made id name kind required = record { id = id; name = name; kind = kind; required = required }

same_column : (id : ℤ) (a a' : List ℕ) (b b' : Kind) (c c' : Bool) → a ≡ a' → b ≡ b' → c ≡ c'
    → made id a b c ≡ made id a' b' c'
same_column id a a' b b' c c' p q r = cc

column_only : (ms : Members) (column : Column) → IsColumn ms column → if_int column.id ≡ Some column.id
    → column_in ms ≡ Ok column
column_only ms column h int =
    let id : id_in ms ≡ Some column.id = ap (option_and_then if_int) h.id ∙ int in
    let name : name_in ms ≡ column.name = ap (λ (o : Option Data). unwrap_or (text_in o) []) h.name in
    let required : required_in ms ≡ column.required =
    ap (λ (o : Option Data). unwrap_or (option_and_then as_bool o) false) h.required in
    let kind : kind_or_boolean ms ≡ column.kind =
    ap (λ (o : Option Kind). unwrap_or o kinds.Boolean) (kind_only ms column h) in
    ap (column_or_wrong ms) id ∙ ap Ok
    (same_column column.id _ column.name _ column.kind _ column.required name kind required)

right_only : (items : Items) (columns : List Column) → AreFields items columns
    → EachIsRight (of_version Older members) items
right_only no_items [] h = tt
right_only no_items (column ∷ columns) h = absurd h
right_only (item value items) [] h = absurd h
right_only (item value items) (column ∷ columns) h =
    let right = rows_only h.0.ms column h.0.is_column in (
      subst (λ (v : Data). HasRight (of_version Older members) (as_object v)) (sym h.0.is_object) right,
      right_only items columns h.1,
    )

kinds_only : (items : Items) (columns : List Column) → AreFields items columns → kinds_checked items ≡ Ok tt
kinds_only no_items [] h = refl
kinds_only no_items (column ∷ columns) h = absurd h
kinds_only (item value items) [] h = absurd h
kinds_only (item value items) (column ∷ columns) h =
    bind_only (kind_checked value) _ tt _
    (ap kind_checked h.0.is_object ∙ ap (λ (k : Option Kind). kind_test k (name_in h.0.ms))
    (kind_only h.0.ms column h.0.is_column))
    (kinds_only items columns h.1)

columns_only : (seen : List Column) (items : Items) (columns : List Column) → AreFields items columns → HasInts columns
    → columns_from seen items ≡ Ok (seen ++ columns)
columns_only seen no_items [] h ints = ap Ok (sym (append-nil seen))
columns_only seen no_items (column ∷ columns) h ints = absurd h
columns_only seen (item value items) [] h ints = absurd h
columns_only seen (item value items) (column ∷ columns) h ints =
    bind_only (column_of value) _ column _
    (ap column_of h.0.is_object ∙ column_only h.0.ms column h.0.is_column ints.0)
    (columns_only (seen ++ column ∷ []) items columns h.1 ints.1 ∙ ap Ok (append_assoc seen (column ∷ []) columns))

-- the columns of a schema are read
pub schema_only : (schema : Members) (columns : List Column) → IsSchema schema columns → columns_in schema ≡ Ok columns
schema_only schema columns h =
    let each = each_without_fault (codes "fields") (of_version Older members) h.items
    (right_only h.items columns h.each) in
    let checked : checked_columns h.items ≡ Ok columns =
    bind_only _ _ tt _ (ap (map_refusal of_fault) each)
    (bind_only _ _ tt _ (kinds_only h.items columns h.each)
    (columns_only [] h.items columns h.each (has_ints columns h.right.ids))) in
    ap columns_or_wrong (ap (option_and_then as_array) h.fields)
    ∙ bind_only (checked_columns h.items) table_columns columns _ checked
    (ap (map_refusal (λ _. Fields)) (columns_accepted columns h.right))
