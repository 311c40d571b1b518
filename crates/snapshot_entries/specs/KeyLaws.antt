-- Snapshots without encryption keys.
use Rattle.std.proofs.Common.{◌≡◌, List, [], ◌∷◌, Bool, false, ◌||◌, Option, Some, None, codes, refl, ap, ◌∙◌}
use Rattle.std.proofs.lemmas.Bool.{or_parts}
use Rattle.serde_json.specs.Data.{Data, null, boolean, number, string, array, object}
use Rattle.serde_json.specs.Find.{get_member}
use Rattle.json_members.specs.Meaning.{IsUnset}
use Rattle.snapshot_entries.specs.declared.snapshot.Snapshot.{Snapshot}
use Rattle.snapshot_entries.specs.Keys.{is_set, has_key, has_keys, AreUnencrypted}

not_set : (found : Option Data) → is_set found ≡ false → IsUnset found
not_set None is = tt
not_set (Some null) is = refl
not_set (Some (boolean b)) is = absurd cc
not_set (Some (number n)) is = absurd cc
not_set (Some (string s)) is = absurd cc
not_set (Some (array items)) is = absurd cc
not_set (Some (object ms)) is = absurd cc

unset : (found : Option Data) → IsUnset found → is_set found ≡ false
unset None is = refl
unset (Some value) is = ap (λ (d : Data). is_set (Some d)) is

-- if no snapshot has a key, each lacks it
pub keys_lacked : (snapshots : List Snapshot) → has_keys snapshots ≡ false → AreUnencrypted snapshots
keys_lacked [] is = tt
keys_lacked (s ∷ snapshots) is =
    let p = or_parts (has_key s) (has_keys snapshots) is in
    (not_set (get_member (codes "key-id") s.rest) p.0, keys_lacked snapshots p.1)

-- and the other way round
pub lacked_keys : (snapshots : List Snapshot) → AreUnencrypted snapshots → has_keys snapshots ≡ false
lacked_keys [] h = refl
lacked_keys (s ∷ snapshots) h =
    ap (λ (b : Bool). b || has_keys snapshots) (unset (get_member (codes "key-id") s.rest) h.0)
    ∙ lacked_keys snapshots h.1
