-- Schemas that define a name, without another schema in them.
use Rattle.std.proofs.Common.{◌≡◌, ℕ, zero, suc, ◌+◌, ◌≤◌, ◌<◌, ◌^◌, true, false, List, [], ◌∷◌, ◌++◌, Some, None, Ok}
use Rattle.std.proofs.Common.{codes, decimal, option_map, option_and_then, refl, sym, ap, ◌∙◌, arith, append_assoc}
use Rattle.std.proofs.Common.{append-nil, flat_map}
use Rattle.std.proofs.lemmas.Bool.{and_parts, or_parts, leb-true, le-ltb}
use Rattle.json.specs.Token.{Token}
use Rattle.json.specs.Json as json
use Rattle.json.specs.Tree as tree
use Rattle.json.proofs.Printed.Decimals.{IsNumber-decimal}
use Rattle.serde_json.specs.Data.{number, unsigned, string, array, object, Items, no_items, item, Members, no_members}
use Rattle.serde_json.specs.Data.{put}
use Rattle.serde_json.specs.Read.{of_items}
use Rattle.serde_json.proofs.Numbers.{number_of-decimal}
use Rattle.words.specs.Reading.{◌>>=◌}
use Rattle.schema_tree.specs.declared.schema.Schema.TheVariants as schemas
use Rattle.schema_tree.specs.declared.schema.Schema.TheOpen as open_schema
use Rattle.avro_schema.specs.Refusal.{under}
use Rattle.avro_schema.specs.Printing.{written_of, written_field}
use Rattle.avro_schema.specs.Printable.{spelled_of, spelled_field, is_avro_name}
use Rattle.schema_tree.specs.Tree.{depth_of, size_of, number_of_field}
use Rattle.schema_tree.specs.Ids.{ids_of, ids_of_field}
use Rattle.avro_schema.specs.Defined.{Seen, is_taken, defined}
use Rattle.schema_tree.specs.Names.{full_name}
use Rattle.avro_schema.specs.Member.{values_of, text_at, list_at, fixed_size_at}
use Rattle.avro_schema.specs.Reading.{scope_of, namespace_at, name_at, checked_name, texts_at, fixed_at, enum_at}
use Rattle.avro_schema.specs.Reading.{schema_at}
use Rattle.schema_tree.specs.Equations.{fold_fixed, fold_enum}
use Rattle.avro_schema.proofs.TakenLaws.{AreFree, keeps_defined}
use Rattle.avro_schema.proofs.Known.{Reads, Known, IsKnown, known_by, counts, more_seen, typed}

-- a name that isn't taken, with no namespace beside it
pub named : (seen : Seen) (members : Members) (name : List ℕ) → text_at (codes "name") members ≡ Ok name → namespace_at members ≡ None → is_taken seen.names name ≡ false → name_at [] seen members ≡ Ok name
named seen members name is none free =
    ap (λ namespace. text_at (codes "name") members >>= λ name. checked_name seen (full_name (scope_of [] namespace) name) namespace) none
    ∙ ap (λ read. read >>= λ name. checked_name seen name None) is
    ∙ rw free refl

-- ---- a fixed

abbrev fixed_json : List ℕ → ℕ → json.Json
fixed_json name bytes =
    json.object (json.member (codes "type") (json.string (codes "fixed")) (json.member (codes "name") (json.string name) (json.member (codes "size") (json.number (decimal bytes)) json.no_members)))

abbrev fixed_members : List ℕ → ℕ → Members
fixed_members name bytes = put (codes "size") (number (unsigned bytes)) (put (codes "name") (string name) (put (codes "type") (string (codes "fixed")) no_members))

fixed_reads : (name : List ℕ) (bytes : ℕ) (after : Seen) → bytes ≤ 1048576 → is_taken after.names name ≡ false
    → fixed_at [] after (fixed_members name bytes) ≡ Ok (schemas.Fixed name bytes, defined after name (schemas.Fixed name bytes))
fixed_reads name bytes after fits free =
    let size_is : fixed_size_at (codes "size") (fixed_members name bytes) ≡ Ok bytes = rw (le-ltb 1048576 bytes fits) refl in
    ap (λ read. read >>= λ name. fixed_size_at (codes "size") (fixed_members name bytes) >>= λ bytes. Ok (schemas.Fixed name bytes, defined after name (schemas.Fixed name bytes))) (named after (fixed_members name bytes) name refl refl free)
    ∙ ap (λ read. read >>= λ bytes. Ok (schemas.Fixed name bytes, defined after name (schemas.Fixed name bytes))) size_is

module _ (name : List ℕ) (bytes : ℕ) (fits : bytes ≤ 1048576) where
  fixed_room : (room : ℕ) (seen : Seen) → 1 ≤ room → seen.count + 1 ≤ 65536 → AreFree seen.names (name ∷ [])
      → Reads seen (name ∷ []) 1 (schemas.Fixed name bytes) (schema_at room [] seen (object (fixed_members name bytes)))
  fixed_room zero seen deep large free = absurd (omega arith)
  fixed_room (suc room) seen deep large free =
      let after = more_seen seen 1 in
      record {
        after = defined after name (schemas.Fixed name bytes);
        is = typed room seen after (fixed_members name bytes) (codes "fixed") (counts (suc room) 1 1 seen (omega arith) large) refl
            ∙ fixed_reads name bytes after fits (or_parts (is_taken seen.names name) false free).0;
        count = refl;
        keeps = keeps_defined seen.names name (Some (schemas.Fixed name bytes));
      }

  fixed_case : Known (schemas.Fixed name bytes) (written_of (open_schema.Fixed name bytes)) (spelled_of (open_schema.Fixed name bytes)) 1 1
  fixed_case =
      let small : bytes < 2 ^ 64 = omega (arith, fits) in
      record {
        text = fixed_json name bytes;
        value = object (fixed_members name bytes);
        tokens = refl;
        numbers = (tt, (tt, (IsNumber-decimal bytes small, tt)));
        levels = omega arith;
        data_is = ap (λ read. option_map object (option_and_then (λ d. Some (put (codes "size") d (put (codes "name") (string name) (put (codes "type") (string (codes "fixed")) no_members)))) (option_map number read))) (number_of-decimal bytes small);
        alone = λ single schema_in seen. refl;
        reads = λ room seen deep large once free. fixed_room room seen deep large free;
      }

pub fixed_known : (name : List ℕ) (bytes : ℕ) → IsKnown (schemas.Fixed name bytes)
fixed_known name bytes =
    known_by (schemas.Fixed name bytes) (written_of (open_schema.Fixed name bytes)) (spelled_of (open_schema.Fixed name bytes)) 1 1 true
    (fold_fixed written_of written_field name bytes) (fold_fixed spelled_of spelled_field name bytes) (fold_fixed depth_of number_of_field name bytes) (fold_fixed size_of number_of_field name bytes) (fold_fixed ids_of ids_of_field name bytes)
    (λ right fits. fixed_case name bytes (leb-true bytes 1048576 (and_parts (is_avro_name name) _ right).1))

-- ---- an enum

abbrev texts_json : List (List ℕ) → json.Items
texts_json [] = json.no_items
texts_json (text ∷ texts) = json.item (json.string text) (texts_json texts)

abbrev texts_items : List (List ℕ) → Items
texts_items [] = no_items
texts_items (text ∷ texts) = item (string text) (texts_items texts)

texts_tokens : (texts : List (List ℕ)) → flat_map (λ text. Token.string text ∷ []) texts ++ Token.end_array ∷ [] ≡ tree.items_tokens (texts_json texts)
texts_tokens [] = refl
texts_tokens (text ∷ texts) = ap (λ l. Token.string text ∷ l) (texts_tokens texts)

texts_numbers : (texts : List (List ℕ)) → tree.ItemsHaveNumbers (texts_json texts)
texts_numbers [] = tt
texts_numbers (text ∷ texts) = (tt, texts_numbers texts)

texts_depth : (texts : List (List ℕ)) → tree.items_depth (texts_json texts) ≤ 0
texts_depth [] = omega arith
texts_depth (text ∷ texts) = omega (arith, texts_depth texts)

texts_data : (texts : List (List ℕ)) → of_items (texts_json texts) ≡ Some (texts_items texts)
texts_data [] = refl
texts_data (text ∷ texts) = ap (λ read. option_map (item (string text)) read) (texts_data texts)

texts_read : (place : ℕ) (before texts : List (List ℕ)) → texts_at place before (values_of (texts_items texts)) ≡ Ok (before ++ texts)
unfolding texts_at
texts_read place before [] = ap Ok (sym (append-nil before))
texts_read place before (text ∷ texts) = texts_read (place + 1) (before ++ text ∷ []) texts ∙ ap Ok (append_assoc before (text ∷ []) texts)

abbrev enum_json : List ℕ → List (List ℕ) → json.Json
enum_json name symbols =
    json.object (json.member (codes "type") (json.string (codes "enum")) (json.member (codes "name") (json.string name) (json.member (codes "symbols") (json.array (texts_json symbols)) json.no_members)))

abbrev enum_members : List ℕ → List (List ℕ) → Members
enum_members name symbols = put (codes "symbols") (array (texts_items symbols)) (put (codes "name") (string name) (put (codes "type") (string (codes "enum")) no_members))

enum_reads : (name : List ℕ) (symbols : List (List ℕ)) (after : Seen) → is_taken after.names name ≡ false
    → enum_at [] after (enum_members name symbols) ≡ Ok (schemas.Enum name symbols, defined after name (schemas.Enum name symbols))
enum_reads name symbols after free =
    ap (λ read. read >>= λ name. list_at (codes "symbols") (enum_members name symbols) >>= λ values. under (codes "symbols") (texts_at 1 [] values) >>= λ symbols. Ok (schemas.Enum name symbols, defined after name (schemas.Enum name symbols)))
    (named after (enum_members name symbols) name refl refl free)
    ∙ ap (λ read. under (codes "symbols") read >>= λ symbols. Ok (schemas.Enum name symbols, defined after name (schemas.Enum name symbols))) (texts_read 1 [] symbols)

module _ (name : List ℕ) (symbols : List (List ℕ)) where
  enum_room : (room : ℕ) (seen : Seen) → 1 ≤ room → seen.count + 1 ≤ 65536 → AreFree seen.names (name ∷ [])
      → Reads seen (name ∷ []) 1 (schemas.Enum name symbols) (schema_at room [] seen (object (enum_members name symbols)))
  enum_room zero seen deep large free = absurd (omega arith)
  enum_room (suc room) seen deep large free =
      let after = more_seen seen 1 in
      record {
        after = defined after name (schemas.Enum name symbols);
        is = typed room seen after (enum_members name symbols) (codes "enum") (counts (suc room) 1 1 seen (omega arith) large) refl
            ∙ enum_reads name symbols after (or_parts (is_taken seen.names name) false free).0;
        count = refl;
        keeps = keeps_defined seen.names name (Some (schemas.Enum name symbols));
      }

  enum_case : Known (schemas.Enum name symbols) (written_of (open_schema.Enum name symbols)) (spelled_of (open_schema.Enum name symbols)) 1 1
  enum_case =
      record {
        text = enum_json name symbols;
        value = object (enum_members name symbols);
        tokens = ap (λ l. Token.begin_object ∷ Token.key (codes "type") ∷ Token.string (codes "enum") ∷ Token.key (codes "name") ∷ Token.string name ∷ Token.key (codes "symbols") ∷ Token.begin_array ∷ (l ++ Token.end_object ∷ [])) (texts_tokens symbols);
        numbers = (tt, (tt, (texts_numbers symbols, tt)));
        levels = omega (arith, texts_depth symbols);
        data_is = ap (λ read. option_map object (option_and_then (λ d. Some (put (codes "symbols") d (put (codes "name") (string name) (put (codes "type") (string (codes "enum")) no_members)))) (option_map array read))) (texts_data symbols);
        alone = λ single schema_in seen. refl;
        reads = λ room seen deep large once free. enum_room room seen deep large free;
      }

pub enum_known : (name : List ℕ) (symbols : List (List ℕ)) → IsKnown (schemas.Enum name symbols)
enum_known name symbols =
    known_by (schemas.Enum name symbols) (written_of (open_schema.Enum name symbols)) (spelled_of (open_schema.Enum name symbols)) 1 1 true
    (fold_enum written_of written_field name symbols) (fold_enum spelled_of spelled_field name symbols) (fold_enum depth_of number_of_field name symbols) (fold_enum size_of number_of_field name symbols) (fold_enum ids_of ids_of_field name symbols)
    (λ right fits. enum_case name symbols)
