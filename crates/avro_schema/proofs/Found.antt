-- What it is to be read as what a value means; a word that is read is so.
use Rattle.std.proofs.Common.{◌≡◌, ℕ, ◌+◌, ◌≤◌, List, Option, Some, None, Ok, refl, sym, ap, subst, ◌∙◌, arith}
use Rattle.serde_json.specs.Data.{Data, string}
use Rattle.schema_tree.specs.declared.schema.Schema.{Schema}
use Rattle.schema_tree.specs.Tree.{depth, size}
use Rattle.avro_schema.specs.Defined.{Seen, known_as}
use Rattle.schema_tree.specs.Names.{full_name}
use Rattle.avro_schema.specs.Reading.{Reader, primitive_of, counted, use_of, word_at}
use Rattle.avro_schema.specs.Meaning.{Means, primitive_word, name}
use Rattle.words.specs.Steps.{map_then}
use Rattle.avro_schema.proofs.Steps.{count_then, more}
use Rattle.schema_tree.specs.TreeLaws.{IsAlone}
use Rattle.avro_schema.proofs.PrimitiveLaws.{alone_primitive}

-- what was read is the schema that the value means, counted, with room for so many levels above it
pub record Found (above room : ℕ) (scope : List ℕ) (seen : Seen) (value : Data) (taken : Schema × Seen) : Type 0 where
  pub means : Means scope seen.names value taken.0 taken.1.names
  pub count : taken.1.count ≡ seen.count + size taken.0
  pub deep : above + depth taken.0 ≤ room
  pub few : taken.1.count ≤ 65536

-- so it is whatever is read
abbrev pub Finds : ℕ → ℕ → Reader → Type 0
Finds above room schema_in =
    (scope : List ℕ) (seen : Seen) (value : Data) (taken : Schema × Seen) → schema_in scope seen value ≡ Ok taken
    → Found above room scope seen value taken

-- ---- a word

-- a name that is read was defined
use_found : (room : ℕ) (scope word : List ℕ) (seen : Seen) (known : Option (Option Schema)) (taken : Schema × Seen)
    → primitive_of word ≡ None → known_as seen.names (full_name scope word) ≡ known
    → use_of room word seen known ≡ Ok taken
    → Found 0 room scope seen (string word) taken
use_found room scope word seen None taken none known read = absurd cc
use_found room scope word seen (Some None) taken none known read = absurd cc
use_found room scope word seen (Some (Some schema)) taken none known read =
    map_then (λ (after : Seen). (schema, after)) (counted room (depth schema) (size schema) seen) taken read
    (λ after counts is.
    count_then room (depth schema) (size schema) seen after counts (λ deep few grown.
    let found : Found 0 room scope seen (string word) (schema, more seen (size schema)) = record
    { means = name scope seen.names word schema none known; count = refl; deep = omega arith; few = few } in
    subst (Found 0 room scope seen (string word)) (ap (λ (a : Seen). (schema, a)) grown ∙ is) found))

-- a word that is read is a primitive type or a name
pub word_found : (room : ℕ) (scope word : List ℕ) (seen : Seen) (primitive : Option Schema) (taken : Schema × Seen)
    → primitive_of word ≡ primitive → word_at room scope seen word primitive ≡ Ok taken
    → Found 0 room scope seen (string word) taken
word_found room scope word seen None taken none read =
    use_found room scope word seen (known_as seen.names (full_name scope word)) taken none refl read
word_found room scope word seen (Some schema) taken primitive read =
    map_then (λ (after : Seen). (schema, after)) (counted room 1 1 seen) taken read (λ after counts is.
    count_then room 1 1 seen after counts (λ deep few grown.
    let alone : IsAlone schema = alone_primitive word schema primitive in
    let found : Found 0 room scope seen (string word) (schema, more seen 1) =
    record {
      means =
          primitive_word scope seen.names word schema primitive;
      count = ap (λ (n : ℕ). seen.count + n)
          (sym alone.size);
      deep = omega (arith, alone.depth);
      few = few;
    } in
    subst (Found 0 room scope seen (string word)) (ap (λ (a : Seen). (schema, a)) grown ∙ is) found))
