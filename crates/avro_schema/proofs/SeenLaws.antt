-- The names of a map: what is known of one of them, and a name that is put among them.
use Rattle.std.proofs.Common.{◌≡◌, ℕ, List, [], ◌∷◌, Option, String, Global, Ordering, Less, Equal, Greater}
use Rattle.std.proofs.Common.{string_bytes, string_cmp, nat_cmp, refl, ap, ◌∙◌}
use Rattle.std.proofs.lemmas.Map.Text.{is_eq-slice_cmp}
use Rattle.std.specs.Cmp.Lexicographic.{slice_cmp}
use Rattle.std.specs.Map.{lookup}
use Rattle.std.specs.Ordering.{match_ordering}
use Rattle.std.specs.BTreeMap.{BTreeMap, insert_entry, is_at, get_by_text}
use Rattle.schema_tree.specs.declared.schema.Schema.{Schema}
use Rattle.avro_schema.specs.Defined.{Definitions, Seen, known_as, with_name}
use Rattle.avro_schema.specs.SeenNames.{names_of}

abbrev Entry : Type 0
Entry = String Global × Option Schema

-- what the entries have at a name
at_name : (name : List ℕ) (entries : List Entry) → lookup (is_at (λ key. slice_cmp nat_cmp name (string_bytes key))) entries ≡ known_as (names_of entries) name
at_name name [] = refl
at_name name (e ∷ es) = rw (is_eq-slice_cmp name (string_bytes e.0), at_name name es) refl

-- what the map has at a name
pub known : (names : BTreeMap (String Global) (Option Schema)) (name : List ℕ) → get_by_text names name ≡ known_as (names_of names.entries) name
known names name = at_name name names.entries

names_of-match_ordering : (o : Ordering) (a b c : List Entry) → names_of (match_ordering o a b c) ≡ match_ordering o (names_of a) (names_of b) (names_of c)
names_of-match_ordering Less a b c = refl
names_of-match_ordering Equal a b c = refl
names_of-match_ordering Greater a b c = refl

-- a name that is put among the entries
pub put : (entries : List Entry) (key : String Global) (schema : Option Schema) → names_of (insert_entry string_cmp entries key schema) ≡ insert_entry (slice_cmp nat_cmp) (names_of entries) (string_bytes key) schema
put [] key schema = refl
put (e ∷ es) key schema = names_of-match_ordering (string_cmp key e.0) _ _ _ ∙ rw (put es key schema) refl

-- what was met, by its parts
abbrev met : Definitions → ℕ → Seen
met names count = record { names = names; count = count }

-- a name that is put among what was met
pub put_met : (old : Seen) (before after : BTreeMap (String Global) (Option Schema)) (count : ℕ) (key : String Global) (name : List ℕ) (schema : Option Schema)
    → met (names_of before.entries) count ≡ old → after.entries ≡ insert_entry string_cmp before.entries key schema → string_bytes key ≡ name
    → met (names_of after.entries) count ≡ met (with_name old.names name schema) old.count
put_met old before after count key name schema view inserted same =
    ap (λ names. met names count) (ap names_of inserted ∙ put before.entries key schema ∙ ap (λ bytes. with_name (names_of before.entries) bytes schema) same)
    ∙ ap (λ (s : Seen). met (with_name s.names name schema) s.count) view
