-- A text that is refused as table metadata has the cause of its refusal, whichever check comes first.
use Rattle.std.proofs.Common.{◌≡◌, ℕ, List, [], Bool, true, false, if◌then◌else◌, Option, Some, None, Ok, Err}
use Rattle.std.proofs.Common.{refl, sym, subst, ◌∙◌}
use Rattle.words.specs.Steps.{err_is, bind_refused}
use Rattle.serde_json.specs.Data.{Data, Members}
use Rattle.serde_json.specs.Find.{get_member, as_object}
use Rattle.serde_json.specs.Written.{has_float}
use Rattle.json_members.specs.declared.rows.Version.{Version}
use Rattle.json_members.specs.Members.{without}
use Rattle.json_members.specs.Parsing.{value_of}
use Rattle.json_members.specs.Rows.{Lookup}
use Rattle.metadata_reading.specs.declared.refusal.MetaRefusal.{MetaRefusal}
use Rattle.metadata_reading.specs.declared.refusal.MetaRefusal.TheVariants.{NotJson, Fraction, Missing, Wrong}
use Rattle.metadata_reading.specs.declared.refusal.MetaRefusal.TheVariants.{Version as OtherVersion}
use Rattle.metadata_reading.specs.declared.refusal.MetaRefusal.TheVariants.{Encrypted, Partitioned, ColumnType}
use Rattle.metadata_reading.specs.declared.refusal.MetaRefusal.TheVariants.{NoManifestList, Limit, Memory}
use Rattle.metadata_reading.specs.Cause.{format_in, IsRefused, ObjectIsRefused, IsMetaCause}
use Rattle.metadata_reading.specs.CheckLaws.{Checked}
use Rattle.metadata_reading.specs.Members.{known}
use Rattle.metadata_reading.specs.PartLaws.{head_found}
use Rattle.metadata_reading.specs.Reading.{head_by, parts_by, meta_by, object_or_wrong}
use Rattle.metadata_reading.specs.Reading.{meta_of_value, meta_of_text}
use Rattle.metadata_reading.specs.StepCauses.{format_is, format_at}
use Rattle.metadata_reading.specs.CheckCauses.{head_cause}
use Rattle.metadata_reading.specs.PartCauses.{parts_cause}
use Rattle.metadata_reading.specs.Version.{format}

-- ---- an object

-- the members of a head that is read are those of the text's version
head_format : (found : Lookup) (head : ℕ × List ℕ) → head_by found ≡ Ok head → format head.0 ≡ format_in found
head_format found head is =
    let h = head_found found head is in
    format_is head.0 h.two_or_three ∙ sym (format_at found head.0 h.version)

members_refused : (found : Lookup) (left : Version → Members) (refusal : MetaRefusal)
    → meta_by found left ≡ Err refusal → IsRefused found refusal
members_refused found left refusal is =
    bind_refused (head_by found) _ refusal is (head_cause found refusal)
    (λ head read next. bind_refused (parts_by (format head.0) found) _ refusal next
    (λ here. parts_cause found refusal
    (subst (λ (v : Version). Checked v found) (head_format found head read) (head_found found head read).checked)
    (subst (λ (v : Version). parts_by v found ≡ Err refusal) (head_format found head read) here))
    (λ parts _ never. absurd cc))

object_refused : (ms : Option Members) (refusal : MetaRefusal) → object_or_wrong ms ≡ Err refusal
    → ObjectIsRefused ms refusal
object_refused None refusal is = sym (err_is (Wrong []) refusal is)
object_refused (Some ms) refusal is =
    members_refused (λ name. get_member name ms) (λ version. without (known version) ms) refusal is

-- ---- a text

-- a member of an object is never refused for the text
no_json : (ms : Option Members) → ObjectIsRefused ms NotJson → ⊥
no_json None is = absurd cc
no_json (Some ms) h = h

no_fraction : (ms : Option Members) → ObjectIsRefused ms Fraction → ⊥
no_fraction None is = absurd cc
no_fraction (Some ms) h = h

value_cause : (text : List ℕ) (value : Data) (refusal : MetaRefusal) → value_of text ≡ Some value
    → ObjectIsRefused (as_object value) refusal → IsMetaCause text refusal
value_cause text value NotJson at h = absurd (no_json (as_object value) h)
value_cause text value Fraction at h = absurd (no_fraction (as_object value) h)
value_cause text value (Missing name) at h = (value, at, h)
value_cause text value (Wrong name) at h = (value, at, h)
value_cause text value (OtherVersion n) at h = (value, at, h)
value_cause text value Encrypted at h = (value, at, h)
value_cause text value Partitioned at h = (value, at, h)
value_cause text value (ColumnType name) at h = (value, at, h)
value_cause text value (NoManifestList id) at h = (value, at, h)
value_cause text value (Limit which many) at h = (value, at, h)
value_cause text value Memory at h = (value, at, h)

whole_refused : (text : List ℕ) (value : Data) (float : Bool) (refusal : MetaRefusal) → value_of text ≡ Some value
    → has_float value ≡ float → (if float then Err Fraction else object_or_wrong (as_object value)) ≡ Err refusal
    → IsMetaCause text refusal
whole_refused text value true refusal at float is =
    subst (IsMetaCause text) (err_is Fraction refusal is) (value, at, float)
whole_refused text value false refusal at float is =
    value_cause text value refusal at (object_refused (as_object value) refusal is)

value_refused : (text : List ℕ) (value : Option Data) (refusal : MetaRefusal) → value_of text ≡ value
    → meta_of_value value ≡ Err refusal → IsMetaCause text refusal
value_refused text None refusal at is = subst (IsMetaCause text) (err_is NotJson refusal is) at
value_refused text (Some value) refusal at is = whole_refused text value (has_float value) refusal at refl is

-- the refusal of a text has its cause
pub text_refused : (text : List ℕ) (refusal : MetaRefusal) → meta_of_text text ≡ Err refusal → IsMetaCause text refusal
text_refused text refusal is = value_refused text (value_of text) refusal refl is
