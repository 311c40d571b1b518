-- A version, an id or a member that a check refuses has the cause of the refusal, whichever check comes first.
use Rattle.std.proofs.Common.{◌≡◌, inl, inr, ℕ, ℤ, List, Bool, true, false, if◌then◌else◌}
use Rattle.std.proofs.Common.{Option, Some, None, is_some, Ok, Err, codes, refl, subst}
use Rattle.uuid.specs.Text.{parsed}
use Rattle.words.specs.Reading.{map_refusal}
use Rattle.words.specs.Steps.{err_is, bind_refused}
use Rattle.serde_json.specs.Data.{Data, string, Members}
use Rattle.json_members.specs.declared.rows.Keep.TheVariants.{InField}
use Rattle.json_members.specs.declared.rows.Version.{Version as Format}
use Rattle.json_members.specs.declared.rows.Version.TheVariants.{Older}
use Rattle.json_members.specs.MeaningLaws as meaning
use Rattle.json_members.specs.Rows.{Lookup, AreRight}
use Rattle.json_members.specs.Values.{number_or_0}
use Rattle.snapshot_entries.specs.declared.refusal.SnapshotRefusal.TheVariants as snapshots
use Rattle.snapshot_entries.specs.List.{are_distinct, ids_checked, has_snapshot}
use Rattle.metadata_reading.specs.declared.refusal.MetaRefusal.{MetaRefusal}
use Rattle.metadata_reading.specs.declared.refusal.MetaRefusal.TheVariants.{Wrong}
use Rattle.metadata_reading.specs.Cause.{format_in, list_at}
use Rattle.metadata_reading.specs.Cause.{IsNotThere, IsRefused}
use Rattle.metadata_reading.specs.CheckLaws.{in_both, rows_right}
use Rattle.metadata_reading.specs.CurrentSchema.{IsSchemaId}
use Rattle.metadata_reading.specs.FirstLaws.{none_has}
use Rattle.metadata_reading.specs.NumberLaws.{schema_id_found}
use Rattle.metadata_reading.specs.Reading.{rows_checked, current_in, current_checked, schemas_by, snapshots_by}
use Rattle.metadata_reading.specs.Reading.{members_by, uuid_by, head_by}
use Rattle.metadata_reading.specs.Refusal.{of_snapshots}
use Rattle.metadata_reading.specs.Schemas.{are_schemas, schemas_checked, schema_of, current_schema_checked}
use Rattle.metadata_reading.specs.Schemas.{are_specs, specs_checked}
use Rattle.metadata_reading.specs.StepCauses.{failed, rule, rows_cause, version_cause}
use Rattle.metadata_reading.specs.StepCauses.{format_found}
use Rattle.metadata_reading.specs.Version.{format, version_in, uuid_of, uuid_in}

-- ---- the members, in the order of their checks

uuid_failed : (found : Option Data) (text : List ℕ) (uuid : Option (List ℕ)) (refusal : MetaRefusal)
    → parsed text ≡ uuid → uuid_of uuid ≡ Err refusal → (parsed text ≡ None) × (Wrong (codes "table-uuid") ≡ refusal)
uuid_failed found text None refusal read is = (read, err_is (Wrong (codes "table-uuid")) refusal is)
uuid_failed found text (Some uuid) refusal read is = absurd cc

uuid_cause : (found : Lookup) (text : List ℕ) (refusal : MetaRefusal) → found (codes "table-uuid") ≡ Some (string text)
    → uuid_in (found (codes "table-uuid")) ≡ Err refusal → IsRefused found refusal
uuid_cause found text refusal here is =
    let read : uuid_of (parsed text) ≡ Err refusal =
    subst (λ (o : Option Data). uuid_in o ≡ Err refusal) here is in
    let p = uuid_failed (found (codes "table-uuid")) text (parsed text) refusal refl read in
    rule found (codes "table-uuid") refusal (inl (refl, (text, here, p.0))) p.1

schemas_failed : (found : Lookup) (refusal : MetaRefusal)
    → schemas_checked (list_at (codes "schemas") found) ≡ Err refusal → IsRefused found refusal
schemas_failed found refusal is =
    let p = failed (are_schemas (list_at (codes "schemas") found)) (Wrong (codes "schemas")) refusal is in
    rule found (codes "schemas") refusal (inr (inl (refl, p.0))) p.1

none_is : (o : Option Members) → is_some o ≡ false → o ≡ None
none_is None is = refl
none_is (Some ms) is = absurd cc

-- no schema has the id of the current one
current_schema_failed : (found : Lookup) (id : ℤ) (refusal : MetaRefusal) → IsSchemaId found id
    → current_schema_checked id (list_at (codes "schemas") found) ≡ Err refusal → IsRefused found refusal
current_schema_failed found id refusal here is =
    let items = list_at (codes "schemas") found in
    let p = failed (is_some (schema_of id items)) (Wrong (codes "current-schema-id")) refusal is in
    let none = none_has id items (none_is (schema_of id items) p.0) in
    rule found (codes "current-schema-id") refusal (inr (inr (inl (refl, (id, here, none))))) p.1

schemas_cause : (found : Lookup) (refusal : MetaRefusal) → schemas_by (format_in found) found ≡ Err refusal
    → IsRefused found refusal
schemas_cause found refusal is =
    let version = format_in found in
    bind_refused (rows_checked version 2 5 found) _ refusal is (rows_cause found 2 5 refusal)
    (λ w _ next. bind_refused (schemas_checked (list_at (codes "schemas") found)) _ refusal next
    (schemas_failed found refusal)
    (λ x _ next. bind_refused (rows_checked version 7 1 found) _ refusal next (rows_cause found 7 1 refusal)
    (λ y row next. current_schema_failed found (number_or_0 (found (codes "current-schema-id"))) refusal
    (schema_id_found version found (rows_right version 7 1 found y row)) next)))

ids_failed : (b : Bool) (refusal : MetaRefusal)
    → map_refusal {A = Unit {0}} of_snapshots (if b then Ok tt else Err (snapshots.Wrong (codes "snapshots")))
    ≡ Err refusal
    → (b ≡ false) × (Wrong (codes "snapshots") ≡ refusal)
ids_failed true refusal is = absurd cc
ids_failed false refusal is = (refl, err_is (Wrong (codes "snapshots")) refusal is)

ids_cause : (found : Lookup) (refusal : MetaRefusal)
    → map_refusal of_snapshots (ids_checked (list_at (codes "snapshots") found)) ≡ Err refusal
    → IsRefused found refusal
ids_cause found refusal is =
    let p = ids_failed (are_distinct (list_at (codes "snapshots") found)) refusal is in
    rule found (codes "snapshots") refusal (inr (inr (inr (inr (inr (inl (refl, p.0))))))) p.1

current_cause : (found : Lookup) (id : Option ℤ) (refusal : MetaRefusal)
    → current_in (found (codes "current-snapshot-id")) ≡ id
    → current_checked id (list_at (codes "snapshots") found) ≡ Err refusal → IsRefused found refusal
current_cause found None refusal named is = absurd cc
current_cause found (Some id) refusal named is =
    let is_there = has_snapshot (list_at (codes "snapshots") found) id in
    let p = failed is_there (Wrong (codes "current-snapshot-id")) refusal is in
    let absent : IsNotThere found = record { id = id; named = named; none = p.0 } in
    rule found (codes "current-snapshot-id") refusal (inr (inr (inr (inr (inr (inr (refl, absent))))))) p.1

snapshots_cause : (found : Lookup) (refusal : MetaRefusal) → snapshots_by (format_in found) found ≡ Err refusal
    → IsRefused found refusal
snapshots_cause found refusal is =
    let version = format_in found in
    let items = list_at (codes "snapshots") found in
    bind_refused (rows_checked version 9 3 found) _ refusal is (rows_cause found 9 3 refusal)
    (λ w _ next. bind_refused (map_refusal of_snapshots (ids_checked items)) _ refusal next (ids_cause found refusal)
    (λ x _ next. bind_refused (rows_checked version 12 1 found) _ refusal next (rows_cause found 12 1 refusal)
    (λ y _ next. current_cause found (current_in (found (codes "current-snapshot-id"))) refusal refl next)))

specs_cause : (found : Lookup) (refusal : MetaRefusal)
    → specs_checked (list_at (codes "partition-specs") found) ≡ Err refusal → IsRefused found refusal
specs_cause found refusal is =
    let p = failed (are_specs (list_at (codes "partition-specs") found)) (Wrong (codes "partition-specs")) refusal is in
    rule found (codes "partition-specs") refusal (inr (inr (inr (inr (inl (refl, p.0)))))) p.1

members_cause : (found : Lookup) (refusal : MetaRefusal) → members_by (format_in found) found ≡ Err refusal
    → IsRefused found refusal
members_cause found refusal is =
    let version = format_in found in
    bind_refused (schemas_by version found) _ refusal is (schemas_cause found refusal)
    (λ w _ next. bind_refused (rows_checked version 8 1 found) _ refusal next (rows_cause found 8 1 refusal)
    (λ x _ next. bind_refused (specs_checked (list_at (codes "partition-specs") found)) _ refusal next
    (specs_cause found refusal)
    (λ y _ next. bind_refused (snapshots_by version found) _ refusal next (snapshots_cause found refusal)
    (λ z _ next. rows_cause found 13 5 refusal next))))

-- ---- the head

text_at_uuid : (found : Lookup) (x : Unit {0}) → rows_checked (format_in found) 1 1 found ≡ Ok x
    → (text : List ℕ) × (found (codes "table-uuid") ≡ Some (string text))
text_at_uuid found x is =
    let version = format_in found in
    let row = subst (AreRight found) (in_both 1 1 refl version) (rows_right version 1 1 found x is) in
    (_, meaning.text_found (codes "table-uuid") Older InField (found (codes "table-uuid")) row.0)

id_cause : (found : Lookup) (refusal : MetaRefusal) → uuid_by (format_in found) found ≡ Err refusal
    → IsRefused found refusal
id_cause found refusal is =
    bind_refused (rows_checked (format_in found) 1 1 found) _ refusal is (rows_cause found 1 1 refusal)
    (λ x row next. bind_refused (uuid_in (found (codes "table-uuid"))) _ refusal next
    (λ here. let text = text_at_uuid found x row in uuid_cause found text.0 refusal text.1 here)
    (λ uuid _ next. bind_refused (members_by (format_in found) found) _ refusal next (members_cause found refusal)
    (λ y _ never. absurd cc)))

pub head_cause : (found : Lookup) (refusal : MetaRefusal) → head_by found ≡ Err refusal → IsRefused found refusal
head_cause found refusal is =
    bind_refused (version_in (found (codes "format-version"))) _ refusal is
    (version_cause found (found (codes "format-version")) refusal refl)
    (λ version read next. bind_refused (uuid_by (format version) found) _ refusal next
    (λ here. id_cause found refusal
    (subst (λ (v : Format). uuid_by v found ≡ Err refusal) (format_found found version read) here))
    (λ uuid _ never. absurd cc))
