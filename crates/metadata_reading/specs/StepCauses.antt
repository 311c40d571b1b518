-- What a refusal was that a step of the checks made, and its cause: a member, a list, the columns, the version.
use Rattle.std.proofs.Common.{◌≡◌, inl, inr, ℕ, ℤ, pos, List, Bool, true, false, if◌then◌else◌}
use Rattle.std.proofs.Common.{Option, Some, None, is_some, Result, Ok, Err, codes, refl, sym, ap, subst, ◌∙◌}
use Rattle.std.proofs.lemmas.Bool.{false≢true}
use Rattle.std.proofs.lemmas.Bool.Decides.{Decides-int_eq}
use Rattle.std.specs.Ordering.{int_eq}
use Rattle.words.specs.Steps.{err_is, map_refused}
use Rattle.serde_json.specs.Data.{Data, Members}
use Rattle.json_members.specs.declared.fault.Fault.{Fault}
use Rattle.json_members.specs.declared.fault.Fault.TheVariants as fault
use Rattle.json_members.specs.declared.form.Form.TheVariants.{Long}
use Rattle.json_members.specs.declared.rows.Keep.TheVariants.{InField}
use Rattle.json_members.specs.declared.rows.Need.TheVariants.{Needed}
use Rattle.json_members.specs.declared.rows.Version.{Version as Format}
use Rattle.json_members.specs.declared.rows.Version.TheVariants.{Older, Newer}
use Rattle.json_members.specs.Cause.{IsMissing, IsWrong, HasFault, AnyHasFault}
use Rattle.json_members.specs.CauseLaws.{no_memory, table_fault, part_fault}
use Rattle.json_members.specs.Form.{long_of}
use Rattle.json_members.specs.MeaningLaws as meaning
use Rattle.json_members.specs.Rows.{Lookup, of_version, checked_by}
use Rattle.json_members.specs.Values.{number_in}
use Rattle.snapshot_entries.specs.declared.refusal.SnapshotRefusal.{SnapshotRefusal}
use Rattle.snapshot_entries.specs.declared.refusal.SnapshotRefusal.TheVariants as snapshots
use Rattle.snapshot_entries.specs.CauseLaws.{never_for_memory}
use Rattle.schema_columns.specs.declared.refusal.ColumnRefusal.{ColumnRefusal}
use Rattle.schema_columns.specs.declared.refusal.ColumnRefusal.TheVariants as columns
use Rattle.schema_columns.specs.Cause.{IsSchemaCause}
use Rattle.metadata_reading.specs.declared.refusal.MetaRefusal.{MetaRefusal}
use Rattle.metadata_reading.specs.declared.refusal.MetaRefusal.TheVariants.{Missing, Wrong, Version}
use Rattle.metadata_reading.specs.Cause.{is_3, format_in, list_at, MembersHave, SnapshotsHave}
use Rattle.metadata_reading.specs.Cause.{BreaksRule, IsRefused}
use Rattle.metadata_reading.specs.CheckLaws.{passed, version_found}
use Rattle.metadata_reading.specs.CurrentSchema.{IsCurrentSchema}
use Rattle.metadata_reading.specs.Members.{members, part}
use Rattle.metadata_reading.specs.Reading.{rows_checked}
use Rattle.metadata_reading.specs.Refusal.{of_fault, of_snapshots, of_columns}
use Rattle.metadata_reading.specs.Version.{IsVersion, format, version_of, version_in}

-- ---- what a refusal was

-- a test that had to pass failed
pub failed : (b : Bool) (e refusal : MetaRefusal) → (if b then passed else Err e) ≡ Err refusal
    → (b ≡ false) × (e ≡ refusal)
failed true e refusal is = absurd cc
failed false e refusal is = (refl, err_is e refusal is)

-- a member that breaks a rule is wrong
pub rule : (found : Lookup) (name : List ℕ) (refusal : MetaRefusal) → BreaksRule found name → Wrong name ≡ refusal
    → IsRefused found refusal
rule found name refusal h is = subst (IsRefused found) is (inr (inr h))

-- the fault of a member
member_cause : (found : Lookup) (f : Fault) → MembersHave found f → IsRefused found (of_fault f)
member_cause found (fault.Missing name) h = inl h
member_cause found (fault.Wrong name) h = inl h
member_cause found fault.Memory h = absurd (no_memory found (of_version (format_in found) members) h)

-- so many rows from one on
pub rows_cause : (found : Lookup) (from count : ℕ) (refusal : MetaRefusal)
    → rows_checked (format_in found) from count found ≡ Err refusal → IsRefused found refusal
rows_cause found from count refusal is =
    let version = format_in found in
    let p = map_refused of_fault (checked_by found (part from count version)) refusal is in
    let h = part_fault found version from count members p.0 (table_fault found (part from count version) p.0 p.1) in
    subst (IsRefused found) p.2 (member_cause found p.0 h)

-- the list of snapshots
pub list_cause : (found : Lookup) (r : SnapshotRefusal) → SnapshotsHave found r → IsRefused found (of_snapshots r)
list_cause found (snapshots.Missing name) h = inr h
list_cause found (snapshots.Wrong name) h = inr (inl h)
list_cause found (snapshots.NoManifestList id) h = h
list_cause found (snapshots.Snapshots many) h = h
list_cause found (snapshots.Path many) h = h
list_cause found snapshots.Memory h =
    absurd (never_for_memory (format_in found) h.0 (list_at (codes "snapshots") found) h.2)

-- the columns of the current schema
pub columns_cause : (found : Lookup) (schema : Members) (r : ColumnRefusal) → IsCurrentSchema found schema
    → IsSchemaCause schema r → IsRefused found (of_columns r)
columns_cause found schema columns.Fields at h = inr (inr (inr (inr (inr (inl (refl, (schema, at, h)))))))
columns_cause found schema (columns.ColumnType name) at h = (schema, at, h)
columns_cause found schema columns.Memory at h = absurd h

-- ---- the version

-- the row of the version is in each version
version_row : (found : Lookup) (version : Format) (f : Fault)
    → HasFault found (meaning.row_of Needed Long (codes "format-version") Older InField) f
    → AnyHasFault found (of_version version members) f
version_row found Older f h = inl h
version_row found Newer f h = inl h

-- the version by two tests of its number
abbrev pub version_by : Bool → Bool → ℤ → Result ℕ MetaRefusal
version_by two three n = if two then Ok 2 else (if three then Ok 3 else Err (Version n))

-- a number that is neither 2 nor 3
other_version : (found : Lookup) (n : ℤ) (two three : Bool) (refusal : MetaRefusal)
    → number_in (found (codes "format-version")) ≡ Some n → int_eq n (pos 2) ≡ two → int_eq n (pos 3) ≡ three
    → version_by two three n ≡ Err refusal → IsRefused found refusal
other_version found n true three refusal here is_two is_three is = absurd cc
other_version found n false true refusal here is_two is_three is = absurd cc
other_version found n false false refusal here is_two is_three is =
    subst (IsRefused found) (err_is (Version n) refusal is)
    (record {
      here = here;
      not_2 = λ two. false≢true (sym is_two ∙ (Decides-int_eq n (pos 2)).1 two);
      not_3 = λ three. false≢true (sym is_three ∙ (Decides-int_eq n (pos 3)).1 three);
    })

number_cause : (found : Lookup) (value : Data) (number : Option ℤ) (refusal : MetaRefusal)
    → found (codes "format-version") ≡ Some value → long_of value ≡ number → version_of number ≡ Err refusal
    → IsRefused found refusal
number_cause found value None refusal here long is =
    let wrong : IsWrong found (meaning.row_of Needed Long (codes "format-version") Older InField)
    (codes "format-version") =
    record { named = refl; value = value; here = here; set = refl; other = ap is_some long } in
    subst (IsRefused found) (err_is (Wrong (codes "format-version")) refusal is)
    (inl (version_row found (format_in found) (fault.Wrong (codes "format-version")) wrong))
number_cause found value (Some n) refusal here long is =
    other_version found n (int_eq n (pos 2)) (int_eq n (pos 3)) refusal (ap number_in here ∙ long) refl refl is

pub version_cause : (found : Lookup) (value : Option Data) (refusal : MetaRefusal)
    → found (codes "format-version") ≡ value → version_in value ≡ Err refusal → IsRefused found refusal
version_cause found None refusal here is =
    let missing : IsMissing found (meaning.row_of Needed Long (codes "format-version") Older InField)
    (codes "format-version") =
    record { named = refl; needed = refl; absent = here } in
    subst (IsRefused found) (err_is (Missing (codes "format-version")) refusal is)
    (inl (version_row found (format_in found) (fault.Missing (codes "format-version")) missing))
version_cause found (Some value) refusal here is = number_cause found value (long_of value) refusal here refl is

-- the members of a version that is read are those of the text
pub format_is : (version : ℕ) → IsVersion version
    → format version ≡ (if is_3 (Some (pos version)) then Newer else Older)
format_is version (inl two) =
    subst (λ (v : ℕ). format v ≡ (if is_3 (Some (pos v)) then Newer else Older)) (sym two) refl
format_is version (inr three) =
    subst (λ (v : ℕ). format v ≡ (if is_3 (Some (pos v)) then Newer else Older)) (sym three) refl

pub format_at : (found : Lookup) (version : ℕ) → number_in (found (codes "format-version")) ≡ Some (pos version)
    → format_in found ≡ (if is_3 (Some (pos version)) then Newer else Older)
format_at found version here = ap (λ (o : Option ℤ). if is_3 o then Newer else Older) here

pub format_found : (found : Lookup) (version : ℕ) → version_in (found (codes "format-version")) ≡ Ok version
    → format version ≡ format_in found
format_found found version is =
    let h = version_found (found (codes "format-version")) version is in
    format_is version h.1 ∙ sym (format_at found version h.0)
