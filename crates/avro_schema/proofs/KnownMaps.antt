-- Maps: their texts are read again.
use Rattle.std.proofs.Common.{◌≡◌, ℕ, zero, suc, ◌+◌, ◌≤◌, ℤ, true, [], ◌∷◌, ◌++◌, Option, Some, Ok, codes}
use Rattle.std.proofs.Common.{option_map, option_and_then, refl, sym, ap, ap₂, ◌∙◌, arith, append_assoc}
use Rattle.std.proofs.lemmas.Bool.{and_parts}
use Rattle.json.specs.Token.{Token}
use Rattle.json.specs.Json as json
use Rattle.serde_json.specs.Data.{Data, string, object, Members, no_members, put}
use Rattle.serde_json.specs.Read.{of_members}
use Rattle.serde_json.specs.Find.{get_member}
use Rattle.words.specs.Reading.{◌>>=◌}
use Rattle.schema_tree.specs.declared.schema.Schema.{Schema}
use Rattle.schema_tree.specs.declared.schema.Schema.TheVariants as schemas
use Rattle.schema_tree.specs.declared.schema.Schema.TheOpen as open_schema
use Rattle.avro_schema.specs.Refusal.{under}
use Rattle.avro_schema.specs.Printing.{Written, written, written_of, written_field, id_member}
use Rattle.avro_schema.specs.Printable.{Spelled, spelled, spelled_of, spelled_field, are_distinct}
use Rattle.schema_tree.specs.Tree.{depth, size, depth_of, size_of, number_of_field}
use Rattle.schema_tree.specs.Ids.{is_id, has_ids, ids_of, ids_of_field}
use Rattle.avro_schema.specs.Defined.{Seen}
use Rattle.avro_schema.specs.Member.{id_at, needed, or_form}
use Rattle.avro_schema.specs.Reading.{map_at, schema_at}
use Rattle.schema_tree.specs.Equations.{fold_map}
use Rattle.avro_schema.proofs.TakenLaws.{AreFree}
use Rattle.avro_schema.proofs.WrittenParts.{id_json, id_put, id_tokens, id_numbers, id_depth, id_read, map_members}
use Rattle.avro_schema.proofs.WrittenParts.{map_type, map_values, map_key, map_value_id}
use Rattle.avro_schema.proofs.Known.{Reads, Known, IsKnown, known_by, counts, more_seen, typed}

map_reads : (room : ℕ) (after : Seen) (members : Members) (key_id value_id : Option ℤ) (value : Data) (values : Schema) (done : Seen)
    → id_at (codes "key-id") members ≡ Ok key_id → id_at (codes "value-id") members ≡ Ok value_id → get_member (codes "values") members ≡ Some value → schema_at room [] after value ≡ Ok (values, done)
    → map_at (schema_at room) [] after members ≡ Ok (schemas.Map values key_id value_id, done)
map_reads room after members key_id value_id value values done key_is value_id_is value_is read =
    ap (λ read. read >>= λ key_id. id_at (codes "value-id") members >>= λ value_id. needed (codes "values") members >>= λ value. under (codes "values") (schema_at room [] after value) >>= λ values. Ok (schemas.Map values.0 key_id value_id, values.1)) key_is
    ∙ ap (λ read. read >>= λ value_id. needed (codes "values") members >>= λ value. under (codes "values") (schema_at room [] after value) >>= λ values. Ok (schemas.Map values.0 key_id value_id, values.1)) value_id_is
    ∙ ap (λ found. or_form (codes "values") found >>= λ value. under (codes "values") (schema_at room [] after value) >>= λ values. Ok (schemas.Map values.0 key_id value_id, values.1)) value_is
    ∙ ap (λ read. under (codes "values") read >>= λ values. Ok (schemas.Map values.0 key_id value_id, values.1)) read

module _ (values : Schema) (w : Written) (s : Spelled) (deep many : ℕ) (k : Known values w s deep many) (key_id value_id : Option ℤ) (key_fits : is_id key_id ≡ true) (value_fits : is_id value_id ≡ true) where
  map_room : (room : ℕ) (seen : Seen) → suc deep ≤ room → seen.count + suc many ≤ 65536 → are_distinct s.names ≡ true → AreFree seen.names s.names
      → Reads seen s.names (suc many) (schemas.Map values key_id value_id) (schema_at room [] seen (object (map_members k.value key_id value_id)))
  map_room zero seen deep_fits large once free = absurd (omega arith)
  map_room (suc room) seen deep_fits large once free =
      let members = map_members k.value key_id value_id in
      let after = more_seen seen 1 in
      let inner = k.reads room after (omega arith) (omega arith) once free in
      record {
        after = inner.after;
        is = typed room seen after members (codes "map") (counts (suc room) 1 1 seen (omega arith) (omega arith)) (map_type k.value key_id value_id)
            ∙ map_reads room after members key_id value_id k.value values inner.after (map_key k.value key_id value_id key_fits) (map_value_id k.value key_id value_id value_fits) (map_values k.value key_id value_id) inner.is;
        count = omega (arith, inner.count);
        keeps = inner.keeps;
      }

  map_case : Known (schemas.Map values key_id value_id) (written_of (open_schema.Map w key_id value_id)) (spelled_of (open_schema.Map s key_id value_id)) (suc deep) (suc many)
  map_case =
      let second = id_json (codes "value-id") value_id json.no_members in
      let ids = id_json (codes "key-id") key_id second in
      let key_member = id_member (codes "key-id") key_id in
      let value_member = id_member (codes "value-id") value_id in
      let found = put (codes "type") (string (codes "map")) no_members in
      record {
        text = json.object (json.member (codes "type") (json.string (codes "map")) (json.member (codes "values") k.text ids));
        value = object (map_members k.value key_id value_id);
        tokens = ap (λ l. Token.begin_object ∷ Token.key (codes "type") ∷ Token.string (codes "map") ∷ Token.key (codes "values") ∷ l)
            (append_assoc w.tokens (key_member ++ value_member) (Token.end_object ∷ [])
            ∙ ap₂ (λ a b. a ++ b) k.tokens
            (append_assoc key_member value_member (Token.end_object ∷ []) ∙ ap (λ l. key_member ++ l) (sym (id_tokens (codes "value-id") value_id json.no_members)) ∙ sym (id_tokens (codes "key-id") key_id second)));
        numbers = (tt, (k.numbers, id_numbers (codes "key-id") key_id second key_fits (id_numbers (codes "value-id") value_id json.no_members value_fits tt)));
        levels = omega (arith, k.levels, id_depth (codes "key-id") key_id second, id_depth (codes "value-id") value_id json.no_members);
        data_is = ap (option_map object)
            (ap (λ read. option_and_then (λ d. of_members ids (put (codes "values") d found)) read) k.data_is
            ∙ id_read (codes "key-id") key_id second (put (codes "values") k.value found) key_fits
            ∙ id_read (codes "value-id") value_id json.no_members (id_put (codes "key-id") key_id (put (codes "values") k.value found)) value_fits);
        alone = λ single schema_in seen. refl;
        reads = map_room;
      }

pub map_known : (values : Schema) (key_id value_id : Option ℤ) → IsKnown values → IsKnown (schemas.Map values key_id value_id)
map_known values key_id value_id known =
    known_by (schemas.Map values key_id value_id) (written_of (open_schema.Map (written values) key_id value_id)) (spelled_of (open_schema.Map (spelled values) key_id value_id)) (suc (depth values)) (suc (size values)) (ids_of (open_schema.Map (has_ids values) key_id value_id))
    (fold_map written_of written_field values key_id value_id) (fold_map spelled_of spelled_field values key_id value_id) (fold_map depth_of number_of_field values key_id value_id) (fold_map size_of number_of_field values key_id value_id) (fold_map ids_of ids_of_field values key_id value_id)
    (λ right fits.
    let parts = and_parts (has_ids values) _ fits in
    let ids = and_parts (is_id key_id) (is_id value_id) parts.1 in
    map_case values (written values) (spelled values) (depth values) (size values) (known right parts.0) key_id value_id ids.0 ids.1)
