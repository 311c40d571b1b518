-- The object of metadata is read as the metadata.
use Rattle.std.proofs.Common.{◌≡◌, inl, inr, ℕ, ℤ, pos, negsuc, ◌^◌, ◌-◌, int_lt, List, [], ◌∷◌, Bool, true, false}
use Rattle.std.proofs.Common.{◌&&◌, ◌||◌, if◌then◌else◌, Option, Some, None, option_map, codes, refl, sym, ap, subst}
use Rattle.std.proofs.Common.{◌∙◌, arith}
use Rattle.std.proofs.lemmas.Bool.Decides.{Decides-int_eq}
use Rattle.std.proofs.lemmas.Int.{ints}
use Rattle.std.specs.Ordering.{int_eq}
use mathlib.Core.Path.{fun_ext}
use Rattle.uuid.specs.Text.{hyphenated_text, lower, parsed}
use Rattle.serde_json.specs.Data.{Data}
use Rattle.serde_json.specs.Find.{get_member}
use Rattle.json_members.specs.declared.rows.Version.{Version}
use Rattle.json_members.specs.declared.rows.Version.TheVariants.{Older, Newer}
use Rattle.json_members.specs.FieldLaws.{get_fields, without_fields}
use Rattle.json_members.specs.Form.{is_long, if_int}
use Rattle.json_members.specs.LackLaws.{without_lacking, get_lacked}
use Rattle.json_members.specs.MeaningLaws.{long_written, natural_written, int_written}
use Rattle.json_members.specs.Members.{without, with_fields, found_in, first_of, is_among}
use Rattle.json_members.specs.Members.{is_field_among, are_among, lacks}
use Rattle.json_members.specs.Rows.{Lookup}
use Rattle.json_members.specs.Values.{whole}
use Rattle.snapshot_entries.specs.declared.snapshot.Snapshot.{Snapshot}
use Rattle.snapshot_entries.specs.AgainLaws.{list_again}
use Rattle.snapshot_entries.specs.List.{has_id}
use Rattle.snapshot_entries.specs.Snapshot.{AreSnapshots}
use Rattle.metadata_reading.specs.declared.meta.TableMeta.{TableMeta}
use Rattle.metadata_reading.specs.Members.{known}
use Rattle.metadata_reading.specs.Relation.{ids, IsNoId, IsNextRowId, IsCurrent, AreCarried, IsFound, IsMeta}
use Rattle.metadata_reading.specs.Table.{IsNext, IsAmong, IsTable}
use Rattle.metadata_reading.specs.Version.{IsVersion, format}
use Rattle.metadata_writing.specs.Printing.{meta_fields}

-- what is found in the object of metadata
abbrev pub looked : TableMeta → Lookup
looked m name = found_in name (meta_fields m) (get_member name m.rest)

pub found_is : (m : TableMeta) → (λ (name : List ℕ). get_member name (with_fields (meta_fields m) m.rest)) ≡ looked m
found_is m = fun_ext (λ name. get_fields name (meta_fields m) m.rest)

-- ---- numbers

-- the version has 64 bits
version_long : (version : ℕ) → IsVersion version → is_long (pos version) ≡ true
version_long version (inl is) = ap (λ (v : ℕ). is_long (pos v)) is
version_long version (inr is) = ap (λ (v : ℕ). is_long (pos v)) is

above_31 : (z : ℤ) → int_lt z (pos (2 ^ 31)) ≡ true → is_long z ≡ true
above_31 z h = grind (arith, ints)

-- a number of 32 bits has 64 bits
int_long : (z : ℤ) → if_int z ≡ Some z → is_long z ≡ true
int_long z is = by_tests (int_lt z (negsuc (2 ^ 31 - 1))) (int_lt z (pos (2 ^ 31))) refl is
  where
    by_tests : (b c : Bool) → int_lt z (pos (2 ^ 31)) ≡ c → (if b then None else (if c then Some z else None)) ≡ Some z
        → is_long z ≡ true
    by_tests true c below is = absurd cc
    by_tests false true below is = above_31 z below
    by_tests false false below is = absurd cc

same_id : (a b : ℤ) (here : Bool) → int_eq a b ≡ here → is_long a ≡ true → (here ≡ false → is_long b ≡ true)
    → is_long b ≡ true
same_id a b true is long other = ap is_long (sym ((Decides-int_eq a b).0 is)) ∙ long
same_id a b false is long other = other refl

or_other : (b c : Bool) → b ≡ false → (b || c) ≡ true → c ≡ true
or_other b c other h = ap (λ (b : Bool). b || c) (sym other) ∙ h

-- the id of a snapshot has 64 bits
id_long : (version : Version) (last : ℤ) (snapshots : List Snapshot) (id : ℤ) → AreSnapshots version last snapshots
    → has_id (ids snapshots) id ≡ true → is_long id ≡ true
id_long version last [] id h among = absurd cc
id_long version last (s ∷ snapshots) id h among =
    same_id s.id id (int_eq s.id id) refl h.0.id.fits
    (λ other. id_long version last snapshots id h.1 (or_other (int_eq s.id id) (has_id (ids snapshots) id) other among))

-- ---- members that may be missing

-- the next row id
next_again : (version : Version) (next : Option ℤ) (elsewhere : Option Data) → IsNext version next
    → IsNextRowId version (first_of (option_map whole next) elsewhere) next
next_again Older next elsewhere h = h
next_again Newer None elsewhere h = h
next_again Newer (Some z) elsewhere h = natural_written z h.fits h.least

-- the id of the current snapshot: if there is none, nothing is printed or carried at its name
current_again : (version : Version) (last : ℤ) (snapshots : List Snapshot) (current : Option ℤ)
    (elsewhere : Option Data) → elsewhere ≡ None → AreSnapshots version last snapshots → IsAmong snapshots current
    → IsCurrent (first_of (option_map whole current) elsewhere) snapshots current
current_again version last snapshots None elsewhere none h among = subst IsNoId (sym none) tt
current_again version last snapshots (Some id) elsewhere none h among =
    (long_written id (id_long version last snapshots id h among.among), among)

current_known : (version : Version) → is_among (codes "current-snapshot-id") (known version) ≡ true
current_known Older = refl
current_known Newer = refl

-- ---- the members that are left

among_if : (name : List ℕ) (value : Option Data) (names : List (List ℕ)) → is_among name names ≡ true
    → is_field_among name value names ≡ true
among_if name None names is = refl
among_if name (Some value) names is = is

none_among : (name : List ℕ) (o : Option ℤ) (names : List (List ℕ)) → o ≡ None
    → is_field_among name (option_map whole o) names ≡ true
none_among name o names is = ap (λ (o : Option ℤ). is_field_among name (option_map whole o) names) is

both_true : (a b : Bool) → a ≡ true → b ≡ true → (a && (b && true)) ≡ true
both_true a b p q = rw (p, q) refl

-- each field that is printed has its name among those of the version
fields_known : (version : Version) (m : TableMeta) → IsNext version m.next_row_id
    → are_among (meta_fields m) (known version) ≡ true
fields_known Older m h =
    both_true _ _ (none_among (codes "next-row-id") m.next_row_id (known Older) h)
    (among_if (codes "current-snapshot-id") (option_map whole m.current) (known Older) refl)
fields_known Newer m h =
    both_true _ _ (among_if (codes "next-row-id") (option_map whole m.next_row_id) (known Newer) refl)
    (among_if (codes "current-snapshot-id") (option_map whole m.current) (known Newer) refl)

left_is : (version : Version) (m : TableMeta) → IsNext version m.next_row_id → lacks (known version) m.rest ≡ true
    → without (known version) (with_fields (meta_fields m) m.rest) ≡ m.rest
left_is version m next carried =
    without_fields (known version) (meta_fields m) m.rest (fields_known version m next)
    ∙ without_lacking (known version) m.rest carried

-- the carried members are found as they were
carried_again : (m : TableMeta) → IsTable m → AreCarried (looked m) m.schema_id m.columns
carried_again m h = record {
  last_column_id = h.carried.last_column_id;
  schemas = h.carried.schemas;
  specs = h.carried.specs;
  snapshot_log = h.carried.snapshot_log;
  metadata_log = h.carried.metadata_log;
  refs = h.carried.refs;
  properties = h.carried.properties;
  encryption_keys = h.carried.encryption_keys;
  no_keys = h.carried.no_keys;
}

-- ---- metadata

-- what is found in its object
found_again : (m : TableMeta) → IsTable m → parsed (hyphenated_text lower m.uuid) ≡ Some m.uuid
    → IsFound (looked m) (λ version. without (known version) (with_fields (meta_fields m) m.rest)) m
found_again m h uuid = record {
  version = long_written (pos m.version) (version_long m.version h.version);
  two_or_three = h.version;
  uuid = record { text = hyphenated_text lower m.uuid; is_text = refl; is_id = uuid };
  location = refl;
  last_sequence = natural_written m.last_sequence h.last_sequence.fits h.last_sequence.least;
  last_updated = long_written m.last_updated h.last_updated;
  schema_id = long_written m.schema_id h.schema_id;
  spec_id = int_written m.spec_id (int_long m.spec_id h.spec_id) h.spec_id;
  next_row_id = next_again (format m.version) m.next_row_id (get_member (codes "next-row-id") m.rest) h.next_row_id;
  is_list = (_, refl);
  snapshots = list_again (format m.version) m.last_sequence m.snapshots h.snapshots h.few;
  distinct = h.distinct;
  current = current_again (format m.version) m.last_sequence m.snapshots m.current
      (get_member (codes "current-snapshot-id") m.rest)
      (get_lacked (codes "current-snapshot-id") (known (format m.version)) m.rest (current_known (format m.version))
      h.lacks) h.snapshots h.current;
  carried = carried_again m h;
  unencrypted = h.unencrypted;
  rest = left_is (format m.version) m h.next_row_id h.lacks;
}

-- its object is the metadata
pub meta_again : (m : TableMeta) → IsTable m → parsed (hyphenated_text lower m.uuid) ≡ Some m.uuid
    → IsMeta (with_fields (meta_fields m) m.rest) m
meta_again m h uuid =
    subst (λ (found : Lookup). IsFound found (λ version. without (known version)
    (with_fields (meta_fields m) m.rest)) m)
    (sym (found_is m)) (found_again m h uuid)
