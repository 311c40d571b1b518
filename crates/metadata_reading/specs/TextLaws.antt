-- What is read of a text is its metadata, and the metadata of a text is read.
use Rattle.std.proofs.Common.{◌≡◌, ℕ, List, Bool, if◌then◌else◌, Option, Some, None, Result, Ok, Err, refl, sym}
use Rattle.std.proofs.Common.{ap, ◌∙◌}
use Rattle.words.specs.Steps.{test_failed}
use Rattle.serde_json.specs.Data.{Data, null, boolean, number, string, array, object, Members}
use Rattle.serde_json.specs.Find.{get_member, as_object}
use Rattle.serde_json.specs.Written.{has_float}
use Rattle.json_members.specs.declared.rows.Version.{Version}
use Rattle.json_members.specs.Members.{without}
use Rattle.json_members.specs.ParseLaws.{value_of_json, json_of_value}
use Rattle.json_members.specs.Parsing.{value_of}
use Rattle.metadata_reading.specs.declared.meta.TableMeta.{TableMeta}
use Rattle.metadata_reading.specs.declared.refusal.MetaRefusal.{MetaRefusal}
use Rattle.metadata_reading.specs.declared.refusal.MetaRefusal.TheVariants.{Fraction}
use Rattle.metadata_reading.specs.FoundLaws.{meta_found}
use Rattle.metadata_reading.specs.Members.{known}
use Rattle.metadata_reading.specs.OnlyLaws.{meta_only}
use Rattle.metadata_reading.specs.Reading.{meta_of, object_or_wrong, meta_of_value, meta_of_text, ok_of, meta_in}
use Rattle.metadata_reading.specs.Relation.{IsMeta, IsMetaText}

-- the metadata that is read of an object is that of its members
pub members_found : (members : Members) (m : TableMeta) → meta_of members ≡ Ok m → IsMeta members m
members_found members m is =
    meta_found (λ name. get_member name members) (λ (version : Version). without (known version) members) m is

pub members_only : (members : Members) (m : TableMeta) → IsMeta members m → meta_of members ≡ Ok m
members_only members m h =
    meta_only (λ name. get_member name members) (λ (version : Version). without (known version) members) m h

object_found : (value : Data) (m : TableMeta) → object_or_wrong (as_object value) ≡ Ok m
    → (members : Members) × (value ≡ object members) × IsMeta members m
object_found null m is = absurd cc
object_found (boolean b) m is = absurd cc
object_found (number n) m is = absurd cc
object_found (string s) m is = absurd cc
object_found (array items) m is = absurd cc
object_found (object members) m is = (members, refl, members_found members m is)

-- what is read of a text is its metadata
pub text_found : (text : List ℕ) (m : TableMeta) → meta_of_text text ≡ Ok m → IsMetaText text m
text_found text m is = by_value (value_of text) refl is
  where
    by_value : (o : Option Data) → value_of text ≡ o → meta_of_value o ≡ Ok m → IsMetaText text m
    by_value None read is = absurd cc
    by_value (Some value) read is =
        let json = json_of_value text value read in
        let whole = test_failed (has_float value) (object_or_wrong (as_object value)) Fraction m is in
        let found = object_found value m whole.1 in
        record {
          members = found.0;
          utf8 = json.0;
          json = json.1 ∙ ap Some found.1;
          whole = sym (ap has_float found.1) ∙ whole.0;
          meta = found.2;
        }

-- the metadata of a text is read
pub text_only : (text : List ℕ) (m : TableMeta) → IsMetaText text m → meta_of_text text ≡ Ok m
text_only text m h =
    ap meta_of_value (value_of_json text (object h.members) h.utf8 h.json)
    ∙ ap (λ (b : Bool). if b then Err Fraction else meta_of h.members) h.whole
    ∙ members_only h.members m h.meta

ok_value : (r : Result TableMeta MetaRefusal) (m : TableMeta) → ok_of r ≡ Some m → r ≡ Ok m
ok_value (Ok meta) m is = let same : meta ≡ m = cc in ap Ok same
ok_value (Err refusal) m is = absurd cc

-- the metadata that a text has is the one that the relation names
pub in_found : (text : List ℕ) (m : TableMeta) → meta_in text ≡ Some m → IsMetaText text m
in_found text m is = text_found text m (ok_value (meta_of_text text) m is)

pub in_only : (text : List ℕ) (m : TableMeta) → IsMetaText text m → meta_in text ≡ Some m
in_only text m h = ap ok_of (text_only text m h)
