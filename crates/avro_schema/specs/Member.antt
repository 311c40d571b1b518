-- The members of a JSON object that a schema needs: each by its name, with the refusal of one that has no form.
use Rattle.std.specs.Prelude.{ℕ, ℤ, nat_lt, Bool, false, List, [], ◌∷◌, Option, Some, None, Result, Ok, Err}
use Rattle.std.specs.Prelude.{if◌then◌else◌}
use Rattle.std.specs.Str.{bytes_eq}
use Rattle.words.specs.Reading.{map_value}
use Rattle.serde_json.specs.Data.{Num, unsigned, negative, float, Data, null, boolean, number, string, array, object}
use Rattle.serde_json.specs.Data.{Items, no_items, item, Members}
use Rattle.serde_json.specs.Find.{get_member}
use Rattle.json_members.specs.Form.{int_of}
use Rattle.avro_schema.specs.declared.refusal.SchemaRefusal.{SchemaRefusal}
use Rattle.avro_schema.specs.declared.refusal.SchemaRefusal.TheVariants.{Form}

-- ---- what a value is

-- a text
abbrev pub text_of : Data → Option (List ℕ)
text_of null = None
text_of (boolean flag) = None
text_of (number num) = None
text_of (string text) = Some text
text_of (array items) = None
text_of (object pairs) = None

-- the text is there, and it is this word
abbrev pub is_this : Option (List ℕ) → List ℕ → Bool
is_this None word = false
is_this (Some text) word = bytes_eq text word

-- the values of an array, in their order
abbrev pub values_of : Items → List Data
values_of no_items = []
values_of (item first rest) = first ∷ values_of rest

-- a list
abbrev pub list_of : Data → Option (List Data)
list_of null = None
list_of (boolean flag) = None
list_of (number num) = None
list_of (string text) = None
list_of (array items) = Some (values_of items)
list_of (object pairs) = None

-- a size of a fixed: a whole number up to 1,048,576
abbrev pub size_of_number : Num → Option ℕ
size_of_number (unsigned n) = if nat_lt 1048576 n then None else Some n
size_of_number (negative z) = None
size_of_number (float f) = None

abbrev pub fixed_size_of : Data → Option ℕ
fixed_size_of null = None
fixed_size_of (boolean flag) = None
fixed_size_of (number num) = size_of_number num
fixed_size_of (string text) = None
fixed_size_of (array items) = None
fixed_size_of (object pairs) = None

-- ---- members

-- what is there of a value, or the refusal of the place that the piece leads to
abbrev pub or_form : {A : Type 0} → List ℕ → Option A → Result A SchemaRefusal
or_form piece None = Err (Form piece)
or_form piece (Some a) = Ok a

-- a member that has to be there
abbrev pub needed : List ℕ → Members → Result Data SchemaRefusal
needed key members = or_form key (get_member key members)

-- what is there of a value that has to be there
abbrev pub needed_as : {A : Type 0} → (Data → Option A) → List ℕ → Option Data → Result A SchemaRefusal
needed_as form key None = Err (Form key)
needed_as form key (Some value) = or_form key (form value)

-- a member that has to be a text, a list, or a size
abbrev pub text_at : List ℕ → Members → Result (List ℕ) SchemaRefusal
text_at key members = needed_as text_of key (get_member key members)

abbrev pub list_at : List ℕ → Members → Result (List Data) SchemaRefusal
list_at key members = needed_as list_of key (get_member key members)

abbrev pub fixed_size_at : List ℕ → Members → Result ℕ SchemaRefusal
fixed_size_at key members = needed_as fixed_size_of key (get_member key members)

-- a whole number of 32 bits that may be absent
abbrev pub id_of : List ℕ → Option Data → Result (Option ℤ) SchemaRefusal
id_of key None = Ok None
id_of key (Some value) = map_value Some (or_form key (int_of value))

abbrev pub id_at : List ℕ → Members → Result (Option ℤ) SchemaRefusal
id_at key members = id_of key (get_member key members)

-- a member that tells something by a text, or that is ignored
abbrev pub is_text : Option Data → List ℕ → Bool
is_text None word = false
is_text (Some value) word = is_this (text_of value) word

-- a member that is true
abbrev pub is_true : Option Data → Bool
is_true None = false
is_true (Some null) = false
is_true (Some (boolean flag)) = flag
is_true (Some (number num)) = false
is_true (Some (string text)) = false
is_true (Some (array items)) = false
is_true (Some (object pairs)) = false
