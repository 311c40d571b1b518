-- A snapshot that a check refuses has the cause of its refusal, whichever check comes first.
use Rattle.std.proofs.Common.{◌≡◌, inl, inr, ℕ, ℤ, int_lt, ◌<ℤ◌, List, true, Option, Some, None, Ok, Err}
use Rattle.std.proofs.Common.{codes, take, drop, refl, subst, arith}
use Rattle.std.proofs.lemmas.Int.{ints}
use Rattle.words.specs.Reading.{map_refusal}
use Rattle.words.specs.Steps.{err_is, bind_refused, map_ok, map_refused, either_then}
use Rattle.json_members.specs.declared.fault.Fault.{Fault}
use Rattle.json_members.specs.declared.fault.Fault.TheVariants as fault
use Rattle.json_members.specs.declared.rows.Keep.TheVariants.{InField}
use Rattle.json_members.specs.declared.rows.Version.{Version}
use Rattle.json_members.specs.declared.rows.Version.TheVariants.{Older, Newer}
use Rattle.json_members.specs.Cause.{AnyHasFault}
use Rattle.json_members.specs.CauseLaws.{no_memory, table_fault, part_fault}
use Rattle.json_members.specs.MeaningLaws.{natural_is_number, natural_found}
use Rattle.json_members.specs.RowLaws.{all_right}
use Rattle.json_members.specs.Rows.{Lookup, of_version, checked_by, AreRight}
use Rattle.json_members.specs.Values.{number_in, number_or_0, text_in}
use Rattle.snapshot_entries.specs.declared.refusal.SnapshotRefusal.{SnapshotRefusal}
use Rattle.snapshot_entries.specs.declared.refusal.SnapshotRefusal.TheVariants.{Wrong, NoManifestList}
use Rattle.snapshot_entries.specs.Cause.{IsRefused}
use Rattle.snapshot_entries.specs.Members.{members, first_rows, other_rows, rows}
use Rattle.snapshot_entries.specs.Reading.{passed, path_or_none, path_in, path_by}
use Rattle.snapshot_entries.specs.Refusal.{of_fault}

-- ---- rows

-- if a row has a fault, the refusal made of it has its cause
fault_cause : (version : Version) (last : ℤ) (found : Lookup) (flaw : Fault)
    → AnyHasFault found (rows version) flaw → IsRefused version last found (of_fault flaw)
fault_cause version last found (fault.Missing name) h = h
fault_cause version last found (fault.Wrong name) h = inl h
fault_cause version last found fault.Memory h = absurd (no_memory found (rows version) h)

-- so has the refusal that so many rows from one on make
part_cause : (version : Version) (last : ℤ) (found : Lookup) (from count : ℕ) (refusal : SnapshotRefusal)
    → map_refusal of_fault (checked_by found (of_version version (take count (drop from members)))) ≡ Err refusal
    → IsRefused version last found refusal
part_cause version last found from count refusal is =
    let part = of_version version (take count (drop from members)) in
    let p = map_refused of_fault (checked_by found part) refusal is in
    let h = part_fault found version from count members p.0 (table_fault found part p.0 p.1) in
    subst (IsRefused version last found) p.2 (fault_cause version last found p.0 h)

-- ---- the sequence number

-- the test compares the two numbers
greater : (last sequence : ℤ) → int_lt last sequence ≡ true → last <ℤ sequence
greater last sequence is = grind (arith, ints)

-- a sequence number that is refused is above the table's last one
above_cause : (version : Version) (last : ℤ) (found : Lookup) (refusal : SnapshotRefusal)
    → passed last (number_or_0 (found (codes "sequence-number"))) ≡ Err refusal
    → IsRefused version last found refusal
above_cause version last found refusal is =
    let sequence = number_or_0 (found (codes "sequence-number")) in
    either_then (int_lt last sequence) (Err (Wrong (codes "sequence-number"))) (Ok tt) (Err refusal) is
    (λ above here. subst (IsRefused version last found) (err_is _ refusal here)
    (inr (record { named = refl; above = greater last sequence above })))
    (λ other. absurd cc)

-- ---- the path

-- the id is a number if the first rows are right
id_found : (version : Version) (found : Lookup) → AreRight found (first_rows version)
    → number_in (found (codes "snapshot-id")) ≡ Some (number_or_0 (found (codes "snapshot-id")))
id_found Older found right =
    natural_is_number (found (codes "snapshot-id")) _
    (natural_found (codes "snapshot-id") Older InField (found (codes "snapshot-id")) right.0)
id_found Newer found right =
    natural_is_number (found (codes "snapshot-id")) _
    (natural_found (codes "snapshot-id") Older InField (found (codes "snapshot-id")) right.0)

-- no text is the path, and the refusal has the id
no_text : (id : ℤ) (text : Option (List ℕ)) (refusal : SnapshotRefusal) → path_or_none id text ≡ Err refusal
    → (text ≡ None) × (NoManifestList id ≡ refusal)
no_text id None refusal is = (refl, err_is _ refusal is)
no_text id (Some path) refusal is = absurd cc

-- a snapshot that is refused for its path has no text there
list_cause : (version : Version) (last : ℤ) (found : Lookup) (refusal : SnapshotRefusal)
    → number_in (found (codes "snapshot-id")) ≡ Some (number_or_0 (found (codes "snapshot-id")))
    → path_in (number_or_0 (found (codes "snapshot-id"))) (found (codes "manifest-list")) ≡ Err refusal
    → IsRefused version last found refusal
list_cause version last found refusal id is =
    let id_is = number_or_0 (found (codes "snapshot-id")) in
    let p = no_text id_is (text_in (found (codes "manifest-list"))) refusal is in
    subst (IsRefused version last found) p.1 (record { here = id; no_text = p.0 })

-- ---- the whole snapshot

-- the refusal has its cause, whichever check comes first
pub path_cause : (version : Version) (last : ℤ) (found : Lookup) (refusal : SnapshotRefusal)
    → path_by version last found ≡ Err refusal → IsRefused version last found refusal
path_cause version last found refusal is =
    bind_refused (map_refusal of_fault (checked_by found (first_rows version))) _ refusal is
    (part_cause version last found 0 3 refusal)
    (λ x first next. bind_refused (passed last (number_or_0 (found (codes "sequence-number")))) _ refusal next
    (above_cause version last found refusal)
    (λ y _ next. bind_refused (map_refusal of_fault (checked_by found (other_rows version))) _ refusal next
    (part_cause version last found 3 5 refusal)
    (λ z _ next. list_cause version last found refusal
    (id_found version found (all_right found (first_rows version) (map_ok of_fault _ x first))) next)))
