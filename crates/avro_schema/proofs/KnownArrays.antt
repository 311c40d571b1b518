-- Arrays: their texts are read again.
use Rattle.std.proofs.Common.{◌≡◌, ℕ, zero, suc, ◌+◌, ◌≤◌, ℤ, Bool, true, [], ◌∷◌, ◌++◌, Option, Some, Ok, codes}
use Rattle.std.proofs.Common.{option_map, option_and_then, refl, sym, ap, ap₂, ◌∙◌, arith, append_assoc}
use Rattle.std.proofs.lemmas.Bool.{and_parts}
use Rattle.json.specs.Token.{Token}
use Rattle.json.specs.Json as json
use Rattle.serde_json.specs.Data.{Data, string, object, Members, no_members, put}
use Rattle.serde_json.specs.Read.{of_members}
use Rattle.serde_json.specs.Find.{get_member}
use Rattle.words.specs.Reading.{◌>>=◌}
use Rattle.schema_tree.specs.declared.schema.Schema.{Schema}
use Rattle.schema_tree.specs.declared.schema.Schema.TheVariants as schemas
use Rattle.schema_tree.specs.declared.schema.Schema.TheOpen as open_schema
use Rattle.avro_schema.specs.Refusal.{under}
use Rattle.avro_schema.specs.Printing.{Written, written, written_of, written_field, id_member, keyed_member}
use Rattle.avro_schema.specs.Printable.{Spelled, spelled, spelled_of, spelled_field, are_distinct}
use Rattle.schema_tree.specs.Tree.{depth, size, depth_of, size_of, number_of_field}
use Rattle.schema_tree.specs.Ids.{is_id, has_ids, ids_of, ids_of_field}
use Rattle.avro_schema.specs.Defined.{Seen}
use Rattle.avro_schema.specs.Member.{id_at, needed, or_form, is_text}
use Rattle.avro_schema.specs.Reading.{array_at, schema_at}
use Rattle.schema_tree.specs.Equations.{fold_array}
use Rattle.avro_schema.proofs.TakenLaws.{AreFree}
use Rattle.avro_schema.proofs.WrittenParts.{id_json, id_tokens, id_numbers, id_depth, id_read, keyed_json, keyed_put}
use Rattle.avro_schema.proofs.WrittenParts.{keyed_tokens, keyed_numbers, keyed_depth, keyed_read, array_members}
use Rattle.avro_schema.proofs.WrittenParts.{array_type, array_items, array_keyed, array_id}
use Rattle.avro_schema.proofs.Known.{Reads, Known, IsKnown, known_by, counts, more_seen, typed}

array_reads : (room : ℕ) (after : Seen) (members : Members) (id : Option ℤ) (value : Data) (items : Schema) (done : Seen) (keyed : Bool)
    → id_at (codes "element-id") members ≡ Ok id → get_member (codes "items") members ≡ Some value → schema_at room [] after value ≡ Ok (items, done) → is_text (get_member (codes "logicalType") members) (codes "map") ≡ keyed
    → array_at (schema_at room) [] after members ≡ Ok (schemas.Array items id keyed, done)
array_reads room after members id value items done keyed id_is value_is read keyed_is =
    let mark = is_text (get_member (codes "logicalType") members) (codes "map") in
    ap (λ read. read >>= λ id. needed (codes "items") members >>= λ value. under (codes "items") (schema_at room [] after value) >>= λ items. Ok (schemas.Array items.0 id mark, items.1)) id_is
    ∙ ap (λ found. or_form (codes "items") found >>= λ value. under (codes "items") (schema_at room [] after value) >>= λ items. Ok (schemas.Array items.0 id mark, items.1)) value_is
    ∙ ap (λ read. under (codes "items") read >>= λ items. Ok (schemas.Array items.0 id mark, items.1)) read
    ∙ ap (λ keyed. Ok (schemas.Array items id keyed, done)) keyed_is

module _ (items : Schema) (w : Written) (s : Spelled) (deep many : ℕ) (k : Known items w s deep many) (id : Option ℤ) (keyed : Bool) (fits : is_id id ≡ true) where
  array_room : (room : ℕ) (seen : Seen) → suc deep ≤ room → seen.count + suc many ≤ 65536 → are_distinct s.names ≡ true → AreFree seen.names s.names
      → Reads seen s.names (suc many) (schemas.Array items id keyed) (schema_at room [] seen (object (array_members keyed k.value id)))
  array_room zero seen deep_fits large once free = absurd (omega arith)
  array_room (suc room) seen deep_fits large once free =
      let members = array_members keyed k.value id in
      let after = more_seen seen 1 in
      let inner = k.reads room after (omega arith) (omega arith) once free in
      record {
        after = inner.after;
        is = typed room seen after members (codes "array") (counts (suc room) 1 1 seen (omega arith) (omega arith)) (array_type keyed k.value id)
            ∙ array_reads room after members id k.value items inner.after keyed (array_id keyed k.value id fits) (array_items keyed k.value id) inner.is (array_keyed keyed k.value id);
        count = omega (arith, inner.count);
        keeps = inner.keeps;
      }

  array_case : Known (schemas.Array items id keyed) (written_of (open_schema.Array w id keyed)) (spelled_of (open_schema.Array s id keyed)) (suc deep) (suc many)
  array_case =
      let ids = id_json (codes "element-id") id json.no_members in
      let rest = json.member (codes "items") k.text ids in
      let first = put (codes "type") (string (codes "array")) no_members in
      let member = id_member (codes "element-id") id in
      record {
        text = json.object (json.member (codes "type") (json.string (codes "array")) (keyed_json keyed rest));
        value = object (array_members keyed k.value id);
        tokens = ap (λ l. Token.begin_object ∷ Token.key (codes "type") ∷ Token.string (codes "array") ∷ l)
            (append_assoc (keyed_member keyed) (Token.key (codes "items") ∷ (w.tokens ++ member)) (Token.end_object ∷ [])
            ∙ ap (λ l. keyed_member keyed ++ (Token.key (codes "items") ∷ l)) (append_assoc w.tokens member (Token.end_object ∷ []) ∙ ap₂ (λ a b. a ++ b) k.tokens (sym (id_tokens (codes "element-id") id json.no_members)))
            ∙ sym (keyed_tokens keyed rest));
        numbers = (tt, keyed_numbers keyed rest (k.numbers, id_numbers (codes "element-id") id json.no_members fits tt));
        levels = omega (arith, keyed_depth keyed rest, k.levels, id_depth (codes "element-id") id json.no_members);
        data_is = ap (option_map object)
            (keyed_read keyed rest first
            ∙ ap (λ read. option_and_then (λ d. of_members ids (put (codes "items") d (keyed_put keyed first))) read) k.data_is
            ∙ id_read (codes "element-id") id json.no_members (put (codes "items") k.value (keyed_put keyed first)) fits);
        alone = λ single schema_in seen. refl;
        reads = array_room;
      }

pub array_known : (items : Schema) (id : Option ℤ) (keyed : Bool) → IsKnown items → IsKnown (schemas.Array items id keyed)
array_known items id keyed known =
    known_by (schemas.Array items id keyed) (written_of (open_schema.Array (written items) id keyed)) (spelled_of (open_schema.Array (spelled items) id keyed)) (suc (depth items)) (suc (size items)) (ids_of (open_schema.Array (has_ids items) id keyed))
    (fold_array written_of written_field items id keyed) (fold_array spelled_of spelled_field items id keyed) (fold_array depth_of number_of_field items id keyed) (fold_array size_of number_of_field items id keyed) (fold_array ids_of ids_of_field items id keyed)
    (λ right fits. let parts = and_parts (has_ids items) (is_id id) fits in array_case items (written items) (spelled items) (depth items) (size items) (known right parts.0) id keyed parts.1)
