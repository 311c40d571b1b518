-- Steps of reading a list of snapshots.
use Rattle.std.proofs.Common.{◌≡◌, ℕ, ℤ, List, [], ◌∷◌, ◌++◌, Result, Ok, Err, sym, ap, subst, ◌∙◌}
use Rattle.std.specs.Bool.{OnFalse}
use Rattle.std.specs.Prelude.{IfErr, IfOk}
use Rattle.std.proofs.lemmas.Bool.{OnFalse_at, OnFalse_from}
use Rattle.words.specs.Reading.{◌>>=◌, Gives}
use Rattle.serde_json.specs.Data.{Items, Members}
use Rattle.serde_json.specs.Find.{get_member}
use Rattle.serde_json.specs.View.{view, items_view}
use Rattle.serde_json.specs.declared.value.Value.{Value}
use Rattle.json_members.specs.declared.rows.Version.{Version}
use Rattle.json_members.specs.Plain.{ItemsArePlain}
use Rattle.snapshot_entries.specs.declared.snapshot.Snapshot.{Snapshot}
use Rattle.snapshot_entries.specs.declared.refusal.SnapshotRefusal.{SnapshotRefusal}
use Rattle.snapshot_entries.specs.Cause.{IsListCause}
use Rattle.snapshot_entries.specs.CauseLaws.{list_refused}
use Rattle.snapshot_entries.specs.FoundLaws.{snapshots_found, snapshots_only}
use Rattle.snapshot_entries.specs.KeptLaws.{kept}
use Rattle.snapshot_entries.specs.List.{limits_checked}
use Rattle.snapshot_entries.specs.Reading.{path_by, of_members, snapshot_of, snapshot_at, snapshots_from, snapshots_in}
use Rattle.snapshot_entries.specs.Refusal.{is_memory}
use Rattle.snapshot_entries.specs.Relation.{AreSnapshotsOf}
use Rattle.snapshot_entries.specs.Snapshot.{AreSnapshots}

-- a snapshot is read: the others decide
pub snapshots_on : (version : Version) (last : ℤ) (seen : List Snapshot) (v : Value) (vs : List Value) (s : Snapshot)
    (total : Result (List Snapshot) SnapshotRefusal) → snapshot_at version last (view v) ≡ Ok s
    → snapshots_from version last seen (items_view (v ∷ vs)) ≡ total
    → snapshots_from version last (seen ++ s ∷ []) (items_view vs) ≡ total
snapshots_on version last seen v vs s total read so_far =
    sym (ap (λ (r : Result Snapshot SnapshotRefusal). r >>= (λ s. snapshots_from version last (seen ++ s ∷ []) (items_view vs)))
    read) ∙ so_far

-- one is refused
pub snapshots_stop : (version : Version) (last : ℤ) (seen : List Snapshot) (v : Value) (vs : List Value)
    (e : SnapshotRefusal) (total : Result (List Snapshot) SnapshotRefusal) → snapshot_at version last (view v) ≡ Err e
    → snapshots_from version last seen (items_view (v ∷ vs)) ≡ total → total ≡ Err e
snapshots_stop version last seen v vs e total read so_far =
    sym so_far
    ∙ ap (λ (r : Result Snapshot SnapshotRefusal). r >>= (λ s. snapshots_from version last (seen ++ s ∷ []) (items_view vs)))
    read

-- ---- one snapshot

-- its path is read: no check refuses it
pub path_read : (version : Version) (last : ℤ) (ms : Members) (path : List ℕ)
    → path_by version last (λ name. get_member name ms) ≡ Ok path
    → snapshot_of version last ms ≡ Ok (of_members version ms path)
path_read version last ms path is =
    ap (λ (r : Result (List ℕ) SnapshotRefusal). r >>= (λ path. Ok (of_members version ms path))) is

-- a check refuses it
pub path_refused : (version : Version) (last : ℤ) (ms : Members) (e : SnapshotRefusal)
    → path_by version last (λ name. get_member name ms) ≡ Err e → snapshot_of version last ms ≡ Err e
path_refused version last ms e is =
    ap (λ (r : Result (List ℕ) SnapshotRefusal). r >>= (λ path. Ok (of_members version ms path))) is

-- ---- the clauses of the whole

-- the list is within its limits: its snapshots decide
pub limits_passed : (version : Version) (last : ℤ) (items : Items) (result : Result (List Snapshot) SnapshotRefusal)
    → limits_checked items ≡ Ok tt → Gives is_memory (λ read. read) result (snapshots_from version last [] items)
    → Gives is_memory (λ read. read) result (snapshots_in version last items)
limits_passed version last items result within given =
    let read = ap (λ (r : Result (Unit {0}) SnapshotRefusal). r >>= (λ _. snapshots_from version last [] items)) within in
    subst (Gives is_memory (λ read. read) result) (sym read) given

-- it isn't
pub limits_refused : (version : Version) (last : ℤ) (items : Items) (e : SnapshotRefusal)
    → limits_checked items ≡ Err e → snapshots_in version last items ≡ Err e
limits_refused version last items e is =
    ap (λ (r : Result (Unit {0}) SnapshotRefusal). r >>= (λ _. snapshots_from version last [] items)) is

-- what is read are the snapshots of the list
pub found_so : (version : Version) (last : ℤ) (items : Items) (result : Result (List Snapshot) SnapshotRefusal)
    → Gives is_memory (λ read. read) result (snapshots_in version last items)
    → IfOk result (AreSnapshotsOf version last items)
found_so version last items (Ok snapshots) given = snapshots_found version last items snapshots given
found_so version last items (Err e) given = tt

-- whatever snapshots it has are read
pub only_so : (version : Version) (last : ℤ) (items : Items) (result : Result (List Snapshot) SnapshotRefusal)
    → Gives is_memory (λ read. read) result (snapshots_in version last items) → (snapshots : List Snapshot)
    → AreSnapshotsOf version last items snapshots → Gives is_memory (λ read. read) result (Ok snapshots)
only_so version last items result given snapshots are =
    subst (Gives is_memory (λ read. read) result) (snapshots_only version last items snapshots are) given

-- the list has the cause of its refusal
pub cause_so : (version : Version) (last : ℤ) (items : Items) (result : Result (List Snapshot) SnapshotRefusal)
    → Gives is_memory (λ read. read) result (snapshots_in version last items)
    → IfErr result (λ e. OnFalse (is_memory e) (IsListCause version last items e))
cause_so version last items (Ok snapshots) given = tt
cause_so version last items (Err e) given =
    OnFalse_from (is_memory e) _ (λ other. list_refused version last items e (OnFalse_at other given))

-- they have objects that are read as them
pub kept_so : (version : Version) (last : ℤ) (items : Items) (result : Result (List Snapshot) SnapshotRefusal)
    → Gives is_memory (λ read. read) result (snapshots_in version last items) → ItemsArePlain 125 items
    → IfOk result (AreSnapshots version last)
kept_so version last items (Ok snapshots) given plain =
    kept version last items snapshots plain (snapshots_found version last items snapshots given)
kept_so version last items (Err e) given plain = tt
