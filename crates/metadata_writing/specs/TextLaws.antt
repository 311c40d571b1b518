-- The texts that are printed, and that the text of metadata is read as the metadata.
use Rattle.std.proofs.Common.{◌≡◌, ◌≤◌, ℕ, List, Option, Some, false, IsUtf8, sym, ap, subst, ◌∙◌}
use Rattle.std.proofs.lemmas.Str.{is_utf8-from_IsUtf8}
use Rattle.uuid.specs.Text.{hyphenated_text, lower, parsed}
use Rattle.serde_json.specs.Data.{Data, object, depth}
use Rattle.serde_json.specs.Find.{as_object}
use Rattle.serde_json.specs.Read.{read}
use Rattle.serde_json.specs.Written.{has_float, compact_text}
use Rattle.json_members.specs.Form.{items_in}
use Rattle.json_members.specs.Members.{with_fields}
use Rattle.metadata_reading.specs.declared.meta.TableMeta.{TableMeta}
use Rattle.metadata_reading.specs.FirstLaws.{object_of, found_first}
use Rattle.metadata_reading.specs.Relation.{IsMetaText}
use Rattle.metadata_reading.specs.Schemas.{schema_of}
use Rattle.metadata_reading.specs.Table.{IsTable}
use Rattle.metadata_writing.specs.AgainLaws.{meta_again}
use Rattle.metadata_writing.specs.PlainLaws.{meta_plain, current_plain}
use Rattle.metadata_writing.specs.Printing.{meta_fields, meta_value, meta_text, current_schema, object_text}
use Rattle.metadata_writing.specs.Printing.{schema_text}

-- the text of a value that is the metadata's object
pub text_is : (m : TableMeta) (value : Data) (text : List ℕ) → IsTable m → value ≡ meta_value m
    → (has_float value ≡ false → text ≡ compact_text value) → text ≡ meta_text m
text_is m value text h same prints = prints (ap has_float same ∙ (meta_plain m h).whole) ∙ ap compact_text same

-- it is a text of the metadata
pub text_again : (m : TableMeta) (value : Data) (text : List ℕ) → IsTable m → value ≡ meta_value m
    → parsed (hyphenated_text lower m.uuid) ≡ Some m.uuid → IsUtf8 text → (depth value ≤ 127 → read text ≡ Some value)
    → IsMetaText text m
text_again m value text h same uuid utf8 reads =
    let shallow : depth value ≤ 127 = subst (λ (d : Data). depth d ≤ 127) (sym same) (meta_plain m h).shallow in
    record {
      members = with_fields (meta_fields m) m.rest;
      utf8 = is_utf8-from_IsUtf8 text utf8;
      json = reads shallow ∙ ap Some same;
      whole = (meta_plain m h).whole;
      meta = meta_again m h uuid;
    }

-- ---- a schema

-- the current schema is there
current_is : (m : TableMeta) (h : IsTable m) → current_schema m ≡ Some h.carried.schemas.schema
current_is m h =
    ap (λ (found : Option Data). schema_of m.schema_id (items_in found)) h.carried.schemas.is_list
    ∙ found_first m.schema_id h.carried.schemas.items h.carried.schemas.schema h.carried.schemas.current

-- the text of a value that is the current schema's object
pub schema_text_is : (m : TableMeta) (value : Data) (text : List ℕ) → IsTable m → as_object value ≡ current_schema m
    → (has_float value ≡ false → text ≡ compact_text value) → text ≡ schema_text m
schema_text_is m value text h is prints =
    let schemas = h.carried.schemas in
    let same : value ≡ object schemas.schema = object_of value schemas.schema (is ∙ current_is m h) in
    let plain = current_plain m schemas.items schemas.schema h schemas.is_list schemas.current in
    prints (ap has_float same ∙ plain.whole) ∙ ap compact_text same ∙ ap object_text (sym (current_is m h))
