-- The id of the current snapshot: what is found, and what is read.
use Rattle.std.proofs.Common.{◌≡◌, ◌≢◌, ℤ, negsuc, List, Bool, true, false, if◌then◌else◌, Option, Some}
use Rattle.std.proofs.Common.{None, Ok, Err, codes, inl, inr, refl, sym, ap, ◌∙◌}
use Rattle.std.proofs.lemmas.Bool.{false_from_ne_true, true≢false}
use Rattle.std.proofs.lemmas.Bool.Decides.{Decides-int_eq}
use Rattle.std.specs.Ordering.{int_eq}
use Rattle.words.specs.Steps.{test_passed}
use Rattle.serde_json.specs.Data.{Data, Items}
use Rattle.json_members.specs.declared.rows.Keep.TheVariants.{InField}
use Rattle.json_members.specs.declared.rows.Version.TheVariants.{Older}
use Rattle.json_members.specs.Meaning.{IsUnset, IsLongIfSet}
use Rattle.json_members.specs.MeaningLaws as meaning
use Rattle.json_members.specs.Rows.{tested}
use Rattle.json_members.specs.Values.{number_in}
use Rattle.snapshot_entries.specs.declared.snapshot.Snapshot.{Snapshot}
use Rattle.json_members.specs.declared.form.Form.TheVariants.{Long}
use Rattle.json_members.specs.declared.rows.Need.TheVariants.{MayBeNull}
use Rattle.snapshot_entries.specs.List.{ids_of, has_id, has_snapshot}
use Rattle.metadata_reading.specs.declared.refusal.MetaRefusal.TheVariants.{Wrong}
use Rattle.metadata_reading.specs.CheckLaws.{passed}
use Rattle.metadata_reading.specs.Reading.{unless_minus_1, current_in, current_checked}
use Rattle.metadata_reading.specs.Relation.{IsNoId, ids, IsCurrent}

minus_1_is : (found : Option Data) (z : ℤ) → number_in found ≡ Some z → z ≡ negsuc 0 → IsNoId found
minus_1_is None z is same = absurd cc
minus_1_is (Some value) z is same = inr (is ∙ ap Some same)

unset_is : (found : Option Data) → IsUnset found → IsNoId found
unset_is None is = tt
unset_is (Some value) is = inl is

other_id : (z : ℤ) → int_eq z (negsuc 0) ≡ false → z ≢ negsuc 0
other_id z is same = true≢false (sym ((Decides-int_eq z (negsuc 0)).1 same) ∙ is)

pub current_found : (found : Option Data) (items : Items) (snapshots : List Snapshot) (o : Option ℤ)
    → number_in found ≡ o → IsLongIfSet found o → ids_of items ≡ ids snapshots
    → current_checked (unless_minus_1 o) items ≡ Ok tt
    → IsCurrent found snapshots (unless_minus_1 o)
current_found found items snapshots None is set same checked = unset_is found set
current_found found items snapshots (Some z) is set same checked = by_test (int_eq z (negsuc 0)) refl checked
  where
    by_test : (b : Bool) → int_eq z (negsuc 0) ≡ b → current_checked (if b then None else Some z) items ≡ Ok tt
        → IsCurrent found snapshots (if b then None else Some z)
    by_test true test checked = minus_1_is found z is ((Decides-int_eq z (negsuc 0)).0 test)
    by_test false test checked = (
      is,
      record {
        among = ap (λ (all : List ℤ). has_id all z) (sym same)
            ∙ (test_passed (has_snapshot items z) passed _ tt checked).0;
        set = other_id z test;
      },
    )

-- the id that the relation names is read
pub record CurrentIsRead (found : Option Data) (items : Items) (current : Option ℤ) : Type 0 where
  pub row : tested (meaning.row_of MayBeNull Long (codes "current-snapshot-id") Older InField) found ≡ Ok tt
  pub value : current_in found ≡ current
  pub checked : current_checked current items ≡ Ok tt

pub found_current : (found : Option Data) (items : Items) (snapshots : List Snapshot) (current : Option ℤ)
    → ids_of items ≡ ids snapshots → IsCurrent found snapshots current → CurrentIsRead found items current
found_current None items snapshots None same h = record { row = refl; value = refl; checked = refl }
found_current (Some value) items snapshots None same (inl unset) = record {
  row = ap (λ (d : Data). tested (meaning.row_of MayBeNull Long (codes "current-snapshot-id") Older InField)
      (Some d)) unset;
  value = ap (λ (d : Data). current_in (Some d)) unset;
  checked = refl;
}
found_current (Some value) items snapshots None same (inr minus_1) = record {
  row = meaning.set_long (codes "current-snapshot-id") Older InField (Some value) (Some (negsuc 0)) minus_1;
  value = ap unless_minus_1 minus_1;
  checked = refl;
}
found_current found items snapshots (Some id) same h = record {
  row = meaning.set_long (codes "current-snapshot-id") Older InField found (Some id) h.0;
  value = ap unless_minus_1 h.0
      ∙ ap (λ (b : Bool). if b then None else Some id)
      (false_from_ne_true (int_eq id (negsuc 0)) (λ is. h.1.set ((Decides-int_eq id (negsuc 0)).0 is)));
  checked = ap (λ (b : Bool). if b then passed else Err (Wrong (codes "current-snapshot-id")))
      (ap (λ (all : List ℤ). has_id all id) same ∙ h.1.among);
}
