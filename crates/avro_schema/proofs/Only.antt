-- What it is that what a value means is read of it; what a word means is so.
use Rattle.std.proofs.Common.{◌≡◌, ℕ, zero, suc, ◌+◌, ◌≤◌, List, ◌++◌, Some, None, Ok, ap, ◌∙◌, arith}
use Rattle.words.specs.Reading.{map_value}
use Rattle.serde_json.specs.Data.{Data, string}
use Rattle.schema_tree.specs.declared.schema.Schema.{Schema}
use Rattle.schema_tree.specs.declared.schema.Field.{Field}
use Rattle.schema_tree.specs.Tree.{depth, size}
use Rattle.schema_tree.specs.Measure.{depth_of_fields, depth_of_branches, size_of_fields, size_of_branches}
use Rattle.avro_schema.specs.declared.refusal.SchemaRefusal.{SchemaRefusal}
use Rattle.avro_schema.specs.Defined.{Definitions, Seen, known_as}
use Rattle.schema_tree.specs.Names.{full_name}
use Rattle.avro_schema.specs.Parts.{schema_below}
use Rattle.avro_schema.specs.Reading.{Reader, primitive_of, use_of, word_at, fields_at, branches_at, schema_at}
use Rattle.avro_schema.proofs.PartLaws.{schema_layer}
use Rattle.words.specs.Steps.{read_as}
use Rattle.avro_schema.proofs.Steps.{count_only, met}
use Rattle.schema_tree.specs.TreeLaws.{IsAlone}
use Rattle.avro_schema.proofs.PrimitiveLaws.{alone_primitive}

-- the schema is read of the value, with room for its levels and its count
abbrev pub IsRead : List ℕ → Definitions → Data → Schema → Definitions → Type 0
IsRead scope names value schema after =
    (room count : ℕ) → depth schema ≤ room → count + size schema ≤ 65536
    → schema_at room scope (met names count) value ≡ Ok (schema, met after (count + size schema))

-- the branches are read behind others
abbrev pub AreBranchesRead : List ℕ → Definitions → List Data → List Schema → Definitions → Type 0
AreBranchesRead scope names values branches after =
    (room count place : ℕ) (before : List Schema) → 1 + depth_of_branches branches ≤ room
    → count + size_of_branches branches ≤ 65536
    → branches_at (schema_below room scope) place before (met names count) values ≡ Ok
    (before ++ branches, met after (count + size_of_branches branches))

-- the fields are read behind those before
abbrev pub AreFieldsRead : List ℕ → Definitions → List Field → List Data → List Field → Definitions → Type 0
AreFieldsRead scope names before values fields after =
    (room start place : ℕ) → 1 + depth_of_fields fields ≤ room → start + size_of_fields fields ≤ 65536
    → fields_at (schema_below room scope) place before (met names (start + size_of_fields before)) values ≡ Ok
    (fields, met after (start + size_of_fields fields))

-- what is read is read one level down
pub below_only : (scope : List ℕ) (names : Definitions) (value : Data) (schema : Schema) (after : Definitions)
    → IsRead scope names value schema after
    → (room count : ℕ) → 1 + depth schema ≤ room → count + size schema ≤ 65536
    → schema_below room scope (met names count) value ≡ Ok (schema, met after (count + size schema))
unfolding schema_below
below_only scope names value schema after is zero count deep few = absurd (omega (arith, deep))
below_only scope names value schema after is (suc room) count deep few = is room count (omega (arith, deep)) few

-- the same schema, by another sum
pub same_count : (schema : Schema) (names : Definitions) (m n : ℕ) → m ≡ n
    → read_as {A = Schema × Seen} {E = SchemaRefusal} (schema, met names m) ≡ read_as {E = SchemaRefusal}
    (schema, met names n)
same_count schema names m n same = ap (λ (k : ℕ). Ok (schema, met names k)) same

-- ---- a word

-- a primitive type
pub primitive_only : (scope : List ℕ) (names : Definitions) (word : List ℕ) (schema : Schema)
    → primitive_of word ≡ Some schema → IsRead scope names (string word) schema names
primitive_only scope names word schema primitive room count deep few =
    let alone : IsAlone schema = alone_primitive word schema primitive in
    ap (λ (r : Reader). r scope (met names count) (string word)) (schema_layer room)
    ∙ ap (word_at room scope (met names count) word) primitive
    ∙ ap (map_value (λ (after : Seen). (schema, after)))
    (count_only room 1 1 (met names count) (omega (arith, alone.depth, deep)) (omega (arith, alone.size, few)))
    ∙ same_count schema names (count + 1) (count + size schema) (omega (arith, alone.size))

-- a name that was defined
pub use_only : (scope : List ℕ) (names : Definitions) (word : List ℕ) (schema : Schema) → primitive_of word ≡ None
    → known_as names (full_name scope word) ≡ Some (Some schema) → IsRead scope names (string word) schema names
use_only scope names word schema none known room count deep few =
    ap (λ (r : Reader). r scope (met names count) (string word)) (schema_layer room)
    ∙ ap (word_at room scope (met names count) word) none
    ∙ ap (use_of room word (met names count)) known
    ∙ ap (map_value (λ (after : Seen). (schema, after)))
    (count_only room (depth schema) (size schema) (met names count) deep few)
