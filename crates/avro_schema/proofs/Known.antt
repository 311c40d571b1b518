-- What is known of a schema whose text is read again, and the laws of the kinds without another schema in them.
use Rattle.std.proofs.Common.{◌≡◌, ℕ, zero, suc, ◌+◌, ◌≤◌, Bool, true, false, List, [], ◌∷◌, Some, Result, Ok, codes}
use Rattle.std.proofs.Common.{refl, sym, ap, ◌∙◌, subst, arith}
use Rattle.std.proofs.lemmas.Bool.{le-ltb, or_from}
use Rattle.json.specs.Token.{Token}
use Rattle.json.specs.Json as json
use Rattle.json.specs.Tree as tree
use Rattle.serde_json.specs.Data.{Data, string, object, Members}
use Rattle.serde_json.specs.Read.{of_json}
use Rattle.words.specs.Reading.{◌>>=◌, map_value}
use Rattle.schema_tree.specs.declared.schema.Schema.{Schema}
use Rattle.avro_schema.specs.declared.refusal.SchemaRefusal.{SchemaRefusal}
use Rattle.avro_schema.specs.Printing.{Written, written}
use Rattle.avro_schema.specs.Printable.{Spelled, spelled, are_distinct}
use Rattle.schema_tree.specs.Tree.{depth, size}
use Rattle.schema_tree.specs.Ids.{has_ids}
use Rattle.avro_schema.specs.Defined.{Seen}
use Rattle.avro_schema.specs.Member.{text_at}
use Rattle.avro_schema.specs.Reading.{primitive_of, counted, word_at, typed_at, branch_at, schema_at}
use Rattle.avro_schema.proofs.TakenLaws.{AreFree, Keeps}

-- a value was read, which has so many schemas and these names
pub record Reads {A : Type 0} (seen : Seen) (names : List (List ℕ)) (many : ℕ) (value : A) (read : Result (A × Seen) SchemaRefusal) : Type 0 where
  pub after : Seen
  pub is : read ≡ Ok (value, after)
  pub count : after.count ≡ seen.count + many
  pub keeps : Keeps seen.names names after.names

-- a schema that is written so, spelled so, so deep and so large: the JSON value that its text is, and that it is read
pub record Known (schema : Schema) (w : Written) (s : Spelled) (deep many : ℕ) : Type 0 where
  pub text : json.Json
  pub value : Data
  pub tokens : w.tokens ≡ tree.json_tokens text
  pub numbers : tree.HasNumbers text
  pub levels : tree.depth text ≤ s.levels
  pub data_is : of_json text ≡ Some value
  pub alone : s.is_union ≡ false → (schema_in : Seen → Data → Result (Schema × Seen) SchemaRefusal) (seen : Seen) → branch_at schema_in seen value ≡ schema_in seen value
  pub reads : (room : ℕ) (seen : Seen) → deep ≤ room → seen.count + many ≤ 65536 → are_distinct s.names ≡ true → AreFree seen.names s.names
      → Reads seen s.names many schema (schema_at room [] seen value)

-- a schema that can be spelled
abbrev pub IsKnown : Schema → Type 0
IsKnown schema = (spelled schema).right ≡ true → has_ids schema ≡ true → Known schema (written schema) (spelled schema) (depth schema) (size schema)

-- what is known by the equations of a kind
pub known_by : (schema : Schema) (w : Written) (s : Spelled) (deep many : ℕ) (ids : Bool) → written schema ≡ w → spelled schema ≡ s → depth schema ≡ deep → size schema ≡ many → has_ids schema ≡ ids
    → (s.right ≡ true → ids ≡ true → Known schema w s deep many) → IsKnown schema
known_by schema w s deep many ids w_is s_is deep_is many_is ids_is known right fits =
    let k = known (ap (λ (t : Spelled). t.right) (sym s_is) ∙ right) (sym ids_is ∙ fits) in
    subst (λ w. Known schema w (spelled schema) (depth schema) (size schema)) (sym w_is)
    (subst (λ s. Known schema w s (depth schema) (size schema)) (sym s_is)
    (subst (λ deep. Known schema w s deep (size schema)) (sym deep_is) (subst (λ many. Known schema w s deep many) (sym many_is) k)))

-- what was seen, with so many more
abbrev pub more_seen : Seen → ℕ → Seen
more_seen seen many = record { names = seen.names; count = seen.count + many }

-- there is room for a schema, and it is counted
pub counts : (room levels many : ℕ) (seen : Seen) → levels ≤ room → seen.count + many ≤ 65536 → counted room levels many seen ≡ Ok (more_seen seen many)
counts room levels many seen deep large = rw (or_from _ _ (le-ltb room levels deep) (le-ltb 65536 (seen.count + many) large)) refl

-- a schema without names, and without another schema in it
pub leaf : (schema : Schema) (w : Written) (s : Spelled) (text : json.Json) (value : Data) → w.tokens ≡ tree.json_tokens text → tree.HasNumbers text → tree.depth text ≤ s.levels → of_json text ≡ Some value
    → ((schema_in : Seen → Data → Result (Schema × Seen) SchemaRefusal) (seen : Seen) → branch_at schema_in seen value ≡ schema_in seen value)
    → ((room : ℕ) (seen after : Seen) → counted (suc room) 1 1 seen ≡ Ok after → schema_at (suc room) [] seen value ≡ Ok (schema, after))
    → Known schema w s 1 1
leaf schema w s text value tokens numbers levels data_is alone step =
    record {
      text = text;
      value = value;
      tokens = tokens;
      numbers = numbers;
      levels = levels;
      data_is = data_is;
      alone = λ single. alone;
      reads = λ room seen deep large once free. reads room seen deep large;
    }
  where
    reads : (room : ℕ) (seen : Seen) → 1 ≤ room → seen.count + 1 ≤ 65536 → Reads seen s.names 1 schema (schema_at room [] seen value)
    reads zero seen deep large = absurd (omega arith)
    reads (suc room) seen deep large =
        record { after = more_seen seen 1; is = step room seen (more_seen seen 1) (counts (suc room) 1 1 seen (omega arith) large); count = refl; keeps = λ asked other free. free }

-- a word that is a primitive type
pub word_known : (schema : Schema) (w : Written) (s : Spelled) (word : List ℕ) → w.tokens ≡ Token.string word ∷ [] → primitive_of word ≡ Some schema → Known schema w s 1 1
unfolding schema_at
word_known schema w s word tokens is =
    leaf schema w s (json.string word) (string word) tokens tt (omega arith) refl (λ schema_in seen. refl)
    (λ room seen after counted_is. ap (word_at (suc room) [] seen word) is ∙ ap (map_value (λ after. (schema, after))) counted_is)

-- an object, by the word of its type
pub typed : (room : ℕ) (seen after : Seen) (members : Members) (word : List ℕ) → counted (suc room) 1 1 seen ≡ Ok after → text_at (codes "type") members ≡ Ok word
    → schema_at (suc room) [] seen (object members) ≡ typed_at (schema_at room) [] after members word (primitive_of word)
unfolding schema_at
typed room seen after members word counted_is is =
    ap (λ read. read >>= λ after. text_at (codes "type") members >>= λ word. typed_at (schema_at room) [] after members word (primitive_of word)) counted_is
    ∙ ap (λ read. read >>= λ word. typed_at (schema_at room) [] after members word (primitive_of word)) is
