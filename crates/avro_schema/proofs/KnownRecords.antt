-- Records: their texts are read again.
use Rattle.std.proofs.Common.{◌≡◌, ℕ, zero, suc, ◌+◌, ◌≤◌, true, false, ◌&&◌, List, [], ◌∷◌, ◌++◌, map, Some, None}
use Rattle.std.proofs.Common.{Ok, codes, option_map, option_and_then, refl, ap, ◌∙◌, arith}
use Rattle.std.proofs.lemmas.Bool.{and_parts, or_parts, or_from}
use Rattle.std.specs.List.{list_all, list_any, sum}
use Rattle.std.specs.Str.{bytes_eq}
use Rattle.json.specs.Token.{Token}
use Rattle.json.specs.Json as json
use Rattle.serde_json.specs.Data.{string, array, object, Items, Members, no_members, put}
use Rattle.words.specs.Reading.{◌>>=◌}
use Rattle.schema_tree.specs.declared.schema.Schema.TheVariants as schemas
use Rattle.schema_tree.specs.declared.schema.Schema.TheOpen as open_schema
use Rattle.schema_tree.specs.declared.schema.Field.{Field}
use Rattle.avro_schema.specs.Refusal.{under}
use Rattle.avro_schema.specs.Printing.{written_of, written_field}
use Rattle.avro_schema.specs.Printable.{spelled_of, spelled_field, are_distinct, is_avro_name, field_names}
use Rattle.schema_tree.specs.Tree.{depth_of, size_of, number_of_field, largest}
use Rattle.schema_tree.specs.Ids.{all_true, ids_of, ids_of_field}
use Rattle.avro_schema.specs.Defined.{Seen, is_taken, begun, defined}
use Rattle.schema_tree.specs.Names.{namespace_of}
use Rattle.avro_schema.specs.Member.{values_of}
use Rattle.avro_schema.specs.Reading.{fields_at, has_field, record_at, schema_at}
use Rattle.schema_tree.specs.Equations.{fold_record}
use Rattle.schema_tree.specs.Inductions.{Each}
use Rattle.avro_schema.proofs.TakenLaws.{AreFree, Keeps, no_namespace, parted, still_free, free_parts, keeps_defined}
use Rattle.avro_schema.proofs.KnownNamed.{named}
use Rattle.avro_schema.proofs.Known.{Reads, Known, IsKnown, known_by, counts, more_seen, typed}
use Rattle.avro_schema.proofs.KnownFields.{field_schema, field_written, field_spelled, field_depth, field_size}
use Rattle.avro_schema.proofs.KnownFields.{field_ids, inner_names, KnownFields, known_fields}

record_json : List ℕ → json.Items → json.Json
record_json name texts =
    json.object (json.member (codes "type") (json.string (codes "record")) (json.member (codes "name") (json.string name) (json.member (codes "fields") (json.array texts) json.no_members)))

abbrev record_members : List ℕ → Items → Members
record_members name values = put (codes "fields") (array values) (put (codes "name") (string name) (put (codes "type") (string (codes "record")) no_members))

record_reads : (room : ℕ) (after : Seen) (name : List ℕ) (values : Items) (fields : List Field) (done : Seen) → namespace_of name ≡ [] → is_taken after.names name ≡ false
    → fields_at (schema_at room []) 1 [] (begun after name) (values_of values) ≡ Ok (fields, done)
    → record_at (schema_at room) [] after (record_members name values) ≡ Ok (schemas.Rec name fields, defined done name (schemas.Rec name fields))
record_reads room after name values fields done plain free read =
    ap (λ read. read >>= λ name. under (codes "fields") (fields_at (schema_at room (namespace_of name)) 1 [] (begun after name) (values_of values)) >>= λ fields. Ok (schemas.Rec name fields.0, defined fields.1 name (schemas.Rec name fields.0)))
    (named after (record_members name values) name refl refl free)
    ∙ ap (λ scope. under (codes "fields") (fields_at (schema_at room scope) 1 [] (begun after name) (values_of values)) >>= λ fields. Ok (schemas.Rec name fields.0, defined fields.1 name (schemas.Rec name fields.0))) plain
    ∙ ap (λ read. under (codes "fields") read >>= λ fields. Ok (schemas.Rec name fields.0, defined fields.1 name (schemas.Rec name fields.0))) read

module _ (name : List ℕ) (fields : List Field) (plain : is_avro_name name ≡ true) (apart : are_distinct (field_names (map field_spelled fields)) ≡ true) (k : KnownFields fields) where
  record_room : (room : ℕ) (seen : Seen) → suc (largest (map field_depth fields)) ≤ room → seen.count + suc (sum (map field_size fields)) ≤ 65536
      → are_distinct (name ∷ inner_names fields) ≡ true → AreFree seen.names (name ∷ inner_names fields)
      → Reads seen (name ∷ inner_names fields) (suc (sum (map field_size fields))) (schemas.Rec name fields) (schema_at room [] seen (object (record_members name k.values)))
  record_room zero seen deep large once free = absurd (omega arith)
  record_room (suc room) seen deep large once free =
      let inner = inner_names fields in
      let parts = parted (name ∷ []) inner once in
      let frees = free_parts seen.names (name ∷ []) inner free in
      let counted_one = more_seen seen 1 in
      let start = begun counted_one name in
      let begins : Keeps seen.names (name ∷ []) start.names = keeps_defined seen.names name None in
      let rest = k.reads room 1 [] start (omega arith) (omega arith) parts.second (still_free seen.names start.names (name ∷ []) inner begins parts.apart frees.1) apart (none_before (field_names (map field_spelled fields))) in
      let final = defined rest.after name (schemas.Rec name fields) in
      record {
        after = final;
        is = typed room seen counted_one (record_members name k.values) (codes "record") (counts (suc room) 1 1 seen (omega arith) (omega arith)) refl
            ∙ record_reads room counted_one name k.values fields rest.after (no_namespace name plain) (or_parts (is_taken seen.names name) false frees.0).0 rest.is;
        count = omega (arith, rest.count);
        keeps = λ asked other free.
            let others = or_parts (bytes_eq name asked) _ other in
            let mine : list_any (λ own. bytes_eq own asked) (name ∷ []) ≡ false = or_from (bytes_eq name asked) false others.0 refl in
            keeps_defined rest.after.names name (Some (schemas.Rec name fields)) asked mine (rest.keeps asked others.1 (begins asked mine free));
      }
    where
      none_before : (names : List (List ℕ)) → list_any (has_field []) names ≡ false
      none_before [] = refl
      none_before (name ∷ names) = none_before names

  record_case : Known (schemas.Rec name fields) (written_of (open_schema.Rec name (map field_written fields))) (spelled_of (open_schema.Rec name (map field_spelled fields))) (suc (largest (map field_depth fields))) (suc (sum (map field_size fields)))
  unfolding record_json
  record_case =
      record {
        text = record_json name k.texts;
        value = object (record_members name k.values);
        tokens = ap (λ l. Token.begin_object ∷ Token.key (codes "type") ∷ Token.string (codes "record") ∷ Token.key (codes "name") ∷ Token.string name ∷ Token.key (codes "fields") ∷ Token.begin_array ∷ (l ++ Token.end_object ∷ [])) k.tokens;
        numbers = (tt, (tt, (k.numbers, tt)));
        levels = omega (arith, k.levels);
        data_is = ap (λ read. option_map object (option_and_then (λ d. Some (put (codes "fields") d (put (codes "name") (string name) (put (codes "type") (string (codes "record")) no_members)))) (option_map array read))) k.data_is;
        alone = λ single schema_in seen. refl;
        reads = record_room;
      }

pub record_known : (name : List ℕ) (fields : List Field) → Each (λ field. IsKnown (field_schema field)) fields → IsKnown (schemas.Rec name fields)
record_known name fields each =
    known_by (schemas.Rec name fields) (written_of (open_schema.Rec name (map field_written fields))) (spelled_of (open_schema.Rec name (map field_spelled fields))) (suc (largest (map field_depth fields))) (suc (sum (map field_size fields))) (all_true (map field_ids fields))
    (fold_record written_of written_field name fields) (fold_record spelled_of spelled_field name fields) (fold_record depth_of number_of_field name fields) (fold_record size_of number_of_field name fields) (fold_record ids_of ids_of_field name fields)
    (λ right fits.
    let names = field_names (map field_spelled fields) in
    let first = and_parts (is_avro_name name && list_all is_avro_name names && are_distinct names) _ right in
    let second = and_parts (is_avro_name name && list_all is_avro_name names) (are_distinct names) first.0 in
    let third = and_parts (is_avro_name name) (list_all is_avro_name names) second.0 in
    record_case name fields third.0 second.1 (known_fields fields each first.1 fits))
