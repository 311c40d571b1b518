-- A commit and an upgrade keep the members that they don't change.
use Rattle.std.proofs.Common.{◌≡◌, ℕ, ℤ, List, [], ◌∷◌, Option, Some, codes, map, true, false, refl, ap, ◌∙◌}
use Rattle.std.specs.Prelude.{option_and_then}
use Rattle.serde_json.specs.Data.{Data, array, object, Members, put}
use Rattle.serde_json.specs.Find.{get_member, as_object}
use Rattle.serde_json.proofs.Views.{get_member-put, get_member-put_other}
use Rattle.json_members.specs.FieldLaws.{get_fields}
use Rattle.json_members.specs.MemberLaws.{get_kept}
use Rattle.json_members.specs.Members.{is_among, without}
use Rattle.json_members.specs.Values.{whole}
use Rattle.snapshot_entries.specs.declared.snapshot.Snapshot.{Snapshot}
use Rattle.metadata_changes.specs.Logs.{members_in, snapshot_entry, metadata_entry, branch_at, with_main}
use Rattle.metadata_changes.specs.Commit.{touched, log_with, changed_fields, changed_rest}
use Rattle.metadata_changes.specs.Upgrade.{new_in_snapshots, upgraded_snapshot, upgraded_rest}
use Rattle.metadata_changes.specs.Others.{KeepsOthers, KeepsIn, SnapshotsKeepOthers}

-- ---- one member

-- a name that isn't among some is none of them
other_name : (name key : List ℕ) (names : List (List ℕ)) → is_among key names ≡ true → is_among name names ≡ false
    → name ≡ key → ⊥
other_name name key names among other same =
    let here : is_among name names ≡ true = ap (λ (k : List ℕ). is_among k names) same ∙ among in cc

-- a member that is put at one of the names keeps the others
put_keeps : (names : List (List ℕ)) (key : List ℕ) (d : Data) (old new : Members) → is_among key names ≡ true
    → KeepsOthers names old new → KeepsOthers names old (put key d new)
put_keeps names key d old new among keeps =
    λ name other. get_member-put_other name key d new (other_name name key names among other) ∙ keeps name other

-- members without these names keep the others
without_keeps : (names : List (List ℕ)) (old : Members) → KeepsOthers names old (without names old)
without_keeps names old = λ name other. get_kept name names old other

-- ---- a commit

-- the carried members but three
pub commit_keeps : (rest : Members) (path : List ℕ) (old id time : ℤ)
    → KeepsOthers (codes "snapshot-log" ∷ codes "metadata-log" ∷ codes "refs" ∷ []) rest
    (changed_rest rest path old id time)
commit_keeps rest path old id time =
    let log = array (log_with (codes "snapshot-log") rest (snapshot_entry id time)) in
    let files = array (log_with (codes "metadata-log") rest (metadata_entry path old)) in
    let refs = object (with_main id (members_in (get_member (codes "refs") rest))) in
    let left = without touched rest in
    let some = put (codes "refs") refs left in
    let more = put (codes "metadata-log") files some in
    put_keeps touched (codes "snapshot-log") log rest more refl
    (put_keeps touched (codes "metadata-log") files rest some refl
    (put_keeps touched (codes "refs") refs rest left refl (without_keeps touched rest)))

-- the references but `main`
others_keep : (id : ℤ) (refs : Members) → KeepsOthers (codes "main" ∷ []) refs (with_main id refs)
others_keep id refs =
    put_keeps (codes "main" ∷ []) (codes "main") _ refs (without (codes "main" ∷ []) refs) refl
    (without_keeps (codes "main" ∷ []) refs)

-- the members of `main` but its snapshot
main_keeps : (id : ℤ) (refs : Members)
    → KeepsIn (codes "main") (KeepsOthers (codes "snapshot-id" ∷ [])) refs (with_main id refs)
main_keeps id refs =
    λ branch is. (
      put (codes "snapshot-id") (whole id) branch,
      get_member-put (codes "main") _ (without (codes "main" ∷ []) refs)
          ∙ ap (λ (found : Option Data). Some (object (branch_at id (option_and_then as_object found)))) is,
      put_keeps (codes "snapshot-id" ∷ []) (codes "snapshot-id") (whole id) branch branch refl (λ name other. refl),
    )

-- what is kept of the references is kept of the object at `refs`
refs_keep : (Keeps : Members → Members → Type 0) (rest : Members) (path : List ℕ) (old id time : ℤ)
    → ((refs : Members) → Keeps refs (with_main id refs))
    → KeepsIn (codes "refs") Keeps rest (changed_rest rest path old id time)
refs_keep Keeps rest path old id time keep =
    λ refs is. (
      with_main id refs,
      get_fields (codes "refs") (changed_fields rest path old id time) (without touched rest)
          ∙ ap (λ (found : Option Data). Some (object (with_main id (members_in found)))) is,
      keep refs,
    )

-- all references but `main`
pub commit_keeps_refs : (rest : Members) (path : List ℕ) (old id time : ℤ)
    → KeepsIn (codes "refs") (KeepsOthers (codes "main" ∷ [])) rest (changed_rest rest path old id time)
commit_keeps_refs rest path old id time =
    refs_keep (KeepsOthers (codes "main" ∷ [])) rest path old id time (others_keep id)

-- all members of `main` but its snapshot
pub commit_keeps_main : (rest : Members) (path : List ℕ) (old id time : ℤ)
    → KeepsIn (codes "refs") (KeepsIn (codes "main") (KeepsOthers (codes "snapshot-id" ∷ []))) rest
    (changed_rest rest path old id time)
commit_keeps_main rest path old id time =
    refs_keep (KeepsIn (codes "main") (KeepsOthers (codes "snapshot-id" ∷ []))) rest path old id time (main_keeps id)

-- ---- an upgrade

-- the carried members but two
pub upgrade_keeps : (rest : Members) (path : List ℕ) (old : ℤ)
    → KeepsOthers (codes "metadata-log" ∷ codes "next-row-id" ∷ []) rest (upgraded_rest rest path old)
upgrade_keeps rest path old =
    let names = codes "metadata-log" ∷ codes "next-row-id" ∷ [] in
    put_keeps names (codes "metadata-log") _ rest (without names rest) refl (without_keeps names rest)

-- and those of each snapshot but two
pub upgrade_keeps_snapshots : (snapshots : List Snapshot)
    → SnapshotsKeepOthers (codes "first-row-id" ∷ codes "added-rows" ∷ []) snapshots (map upgraded_snapshot snapshots)
upgrade_keeps_snapshots [] = tt
upgrade_keeps_snapshots (s ∷ snapshots) =
    (without_keeps new_in_snapshots s.rest, upgrade_keeps_snapshots snapshots)
