-- What a change of carried members keeps.
use Rattle.std.proofs.Common.{◌≡◌, ℕ, suc, ℤ, List, [], ◌∷◌, Option, Some, None, codes, unwrap_or, refl, sym, ap}
use Rattle.std.proofs.Common.{subst, ◌∙◌, arith}
use Rattle.std.specs.Prelude.{option_and_then}
use Rattle.serde_json.specs.Data.{Data, null, boolean, number, string, array, object, Items, no_items, item, Members}
use Rattle.serde_json.specs.Data.{no_members}
use Rattle.serde_json.specs.Find.{get_member, as_array, as_object}
use Rattle.json_members.specs.Form.{items_in}
use Rattle.json_members.specs.Meaning.{IsListIfAny, IsObjectIfAny}
use Rattle.json_members.specs.Plain.{IsPlain, ArePlain, ItemsArePlain}
use Rattle.json_members.specs.PlainLaws.{plain_fields, plain_put, plain_without, plain_found, plain_array, plain_object}
use Rattle.json_members.specs.PlainLaws.{plain_item, array_plain, object_plain, item_plain, none_plain, whole_plain}
use Rattle.json_members.specs.PlainLaws.{string_plain}
use Rattle.json_members.specs.Rows.{Lookup}
use Rattle.json_members.specs.Values.{number_in}
use Rattle.row_types.specs.declared.column.Column.{Column}
use Rattle.metadata_reading.specs.Relation.{AreCarried, HasSchema}
use Rattle.metadata_changes.specs.Logs.{with_last, members_in, snapshot_fields, snapshot_entry, metadata_fields}
use Rattle.metadata_changes.specs.Logs.{metadata_entry, branch_fields, branch_at, with_main}

-- ---- what is found

-- if five members are found as before, and three have their forms, the carried members still are right
pub carried_kept : (f g : Lookup) (id : ℤ) (columns : List Column)
    → g (codes "last-column-id") ≡ f (codes "last-column-id") → g (codes "schemas") ≡ f (codes "schemas")
    → g (codes "partition-specs") ≡ f (codes "partition-specs") → g (codes "properties") ≡ f (codes "properties")
    → g (codes "encryption-keys") ≡ f (codes "encryption-keys") → IsListIfAny (g (codes "snapshot-log"))
    → IsListIfAny (g (codes "metadata-log")) → IsObjectIfAny (g (codes "refs")) → AreCarried f id columns
    → AreCarried g id columns
carried_kept f g id columns last schemas specs properties keys snapshot_log metadata_log refs h = record {
  last_column_id = (h.last_column_id.0, ap number_in last ∙ h.last_column_id.1);
  schemas = subst (λ (o : Option Data). HasSchema id o columns) (sym schemas) h.schemas;
  specs = (h.specs.0, specs ∙ h.specs.1, h.specs.2);
  snapshot_log = snapshot_log;
  metadata_log = metadata_log;
  refs = refs;
  properties = subst IsObjectIfAny (sym properties) h.properties;
  encryption_keys = subst IsListIfAny (sym keys) h.encryption_keys;
  no_keys = ap items_in keys ∙ h.no_keys;
}

-- ---- floats and depth

last_plain : (room : ℕ) (items : Items) (d : Data) → ItemsArePlain room items → IsPlain room d
    → ItemsArePlain room (with_last items d)
last_plain room no_items d all here = item_plain room d no_items here all
last_plain room (item first items) d all here =
    let p = plain_item room first items all in
    item_plain room first (with_last items d) p.0 (last_plain room items d p.1 here)

no_members_plain : (room : ℕ) → ArePlain room no_members
no_members_plain room = record { shallow = omega arith; whole = refl }

items_of_plain : (room : ℕ) (d : Data) → IsPlain (suc room) d → ItemsArePlain room (unwrap_or (as_array d) no_items)
items_of_plain room null h = none_plain room
items_of_plain room (boolean b) h = none_plain room
items_of_plain room (number n) h = none_plain room
items_of_plain room (string s) h = none_plain room
items_of_plain room (array items) h = plain_array room items h
items_of_plain room (object ms) h = none_plain room

found_items : (room : ℕ) (ms : Members) (name : List ℕ) (found : Option Data) → get_member name ms ≡ found
    → ArePlain (suc room) ms → ItemsArePlain room (items_in found)
found_items room ms name None is all = none_plain room
found_items room ms name (Some d) is all = items_of_plain room d (plain_found (suc room) name ms d all is)

-- the list at a name is plain, with a plain entry last
pub log_plain : (room : ℕ) (ms : Members) (name : List ℕ) (d : Data) → ArePlain (suc (suc room)) ms → IsPlain room d
    → IsPlain (suc (suc room)) (array (with_last (items_in (get_member name ms)) d))
log_plain room ms name d all here =
    array_plain (suc room) _ (last_plain (suc room) _ d (found_items (suc room) ms name _ refl all) (more room d here))
  where
    more : (room : ℕ) (d : Data) → IsPlain room d → IsPlain (suc room) d
    more room d h = record { shallow = omega (arith, h.shallow); whole = h.whole }

pub snapshot_entry_plain : (room : ℕ) (id time : ℤ) → IsPlain (suc room) (snapshot_entry id time)
snapshot_entry_plain room id time =
    object_plain room _ (plain_fields room (snapshot_fields id time) no_members
    (whole_plain room id, (whole_plain room time, tt)) (no_members_plain room))

pub metadata_entry_plain : (room : ℕ) (path : List ℕ) (time : ℤ) → IsPlain (suc room) (metadata_entry path time)
metadata_entry_plain room path time =
    object_plain room _ (plain_fields room (metadata_fields path time) no_members
    (string_plain room path, (whole_plain room time, tt)) (no_members_plain room))

members_of_plain : (room : ℕ) (d : Data) → IsPlain (suc room) d → ArePlain room (unwrap_or (as_object d) no_members)
members_of_plain room null h = no_members_plain room
members_of_plain room (boolean b) h = no_members_plain room
members_of_plain room (number n) h = no_members_plain room
members_of_plain room (string s) h = no_members_plain room
members_of_plain room (array items) h = no_members_plain room
members_of_plain room (object ms) h = plain_object room ms h

pub found_members : (room : ℕ) (ms : Members) (name : List ℕ) (found : Option Data) → get_member name ms ≡ found
    → ArePlain (suc room) ms → ArePlain room (members_in found)
found_members room ms name None is all = no_members_plain room
found_members room ms name (Some d) is all = members_of_plain room d (plain_found (suc room) name ms d all is)

new_plain : (room : ℕ) (id : ℤ) → ArePlain room (branch_at id None)
new_plain room id =
    plain_fields room (branch_fields id) no_members (whole_plain room id, (string_plain room (codes "branch"), tt))
    (no_members_plain room)

branch_of_plain : (room : ℕ) (id : ℤ) (d : Data) → IsPlain (suc room) d → ArePlain room (branch_at id (as_object d))
branch_of_plain room id null h = new_plain room id
branch_of_plain room id (boolean b) h = new_plain room id
branch_of_plain room id (number n) h = new_plain room id
branch_of_plain room id (string s) h = new_plain room id
branch_of_plain room id (array items) h = new_plain room id
branch_of_plain room id (object ms) h =
    plain_put room (codes "snapshot-id") _ ms (whole_plain room id) (plain_object room ms h)

branch_plain : (room : ℕ) (id : ℤ) (refs : Members) (found : Option Data) → get_member (codes "main") refs ≡ found
    → ArePlain (suc room) refs → ArePlain room (branch_at id (option_and_then as_object found))
branch_plain room id refs None is all = new_plain room id
branch_plain room id refs (Some d) is all =
    branch_of_plain room id d (plain_found (suc room) (codes "main") refs d all is)

-- plain references still are with `main` at a snapshot
pub main_plain : (room : ℕ) (id : ℤ) (refs : Members) → ArePlain (suc room) refs
    → ArePlain (suc room) (with_main id refs)
main_plain room id refs all =
    plain_put (suc room) (codes "main") _ _
    (object_plain room _ (branch_plain room id refs (get_member (codes "main") refs) refl all))
    (plain_without (suc room) (codes "main" ∷ []) refs all)
