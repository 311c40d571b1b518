-- Steps of the metadata, once the snapshots are taken out of its members.
use Rattle.std.proofs.Common.{◌≡◌, ℕ, ℤ, List, [], ◌∷◌, Option, Result, Ok, Err, codes, true, refl, sym, ap, subst, ◌∙◌}
use Rattle.std.specs.Bool.{OnFalse}
use Rattle.words.specs.Reading.{◌>>=◌, map_refusal, Gives}
use Rattle.words.specs.Steps.{bind_only}
use Rattle.serde_json.specs.Data.{Data, Items, Members}
use Rattle.serde_json.specs.Find.{get_member}
use Rattle.json_members.specs.declared.rows.Version.{Version}
use Rattle.json_members.specs.declared.rows.Version.TheVariants.{Older, Newer}
use Rattle.json_members.specs.Form.{items_in}
use Rattle.json_members.specs.MemberLaws.{get_kept, without_known, without_more}
use Rattle.json_members.specs.Members.{without, is_among}
use Rattle.json_members.specs.Values.{number_or_0, number_since, text_or_empty}
use Rattle.row_types.specs.declared.column.Column.{Column}
use Rattle.snapshot_entries.specs.declared.snapshot.Snapshot.{Snapshot}
use Rattle.snapshot_entries.specs.Reading.{snapshots_in}
use Rattle.metadata_reading.specs.declared.meta.TableMeta.{TableMeta}
use Rattle.metadata_reading.specs.declared.refusal.MetaRefusal.{MetaRefusal}
use Rattle.metadata_reading.specs.Members.{known}
use Rattle.metadata_reading.specs.Reading.{keys_checked, columns_of, columns_by, parts_by, current_in, record_of}
use Rattle.metadata_reading.specs.Reading.{head_by, meta_with, meta_of}
use Rattle.metadata_reading.specs.Refusal.{is_memory, of_snapshots}
use Rattle.metadata_reading.specs.Schemas.{partitions_checked}
use Rattle.metadata_reading.specs.Version.{format}

abbrev columns_with : Option Data → Option Data → Option Data → Option Data → List Snapshot
    → Result (List Column) MetaRefusal
columns_with keys specs id schemas snapshots = do
  _ ← keys_checked keys snapshots
  _ ← partitions_checked (items_in specs)
  columns_of (number_or_0 id) schemas

same_four : {A B : Type 0} (f : A → A → A → A → B) (a a' b b' c c' d d' : A) → a ≡ a' → b ≡ b' → c ≡ c' → d ≡ d'
    → f a b c d ≡ f a' b' c' d'
same_four f a a' b b' c c' d d' p q r s = cc

-- the answer of a step that is refused
pub err_given : {X : Type 0} (r : Result X MetaRefusal) (y e : MetaRefusal) (read : Result X MetaRefusal) → r ≡ Err y
    → y ≡ e → OnFalse (is_memory e) (read ≡ Err e) → Gives is_memory (λ x. x) r read
err_given {X} r y e read is same given =
    subst (λ (r : Result X MetaRefusal). Gives is_memory (λ x. x) r read) (sym (is ∙ ap Err same)) given

-- the members without the snapshots
abbrev pub taken : Members → Members
taken ms = without (codes "snapshots" ∷ []) ms

-- the columns don't depend on the snapshots' member
pub columns_kept : (ms : Members) (snapshots : List Snapshot)
    → columns_by (λ name. get_member name (taken ms)) snapshots ≡ columns_by (λ name. get_member name ms) snapshots
columns_kept ms snapshots =
    same_four (λ (keys specs id schemas : Option Data). columns_with keys specs id schemas snapshots) _ _ _ _ _ _ _ _
    (get_kept (codes "encryption-keys") (codes "snapshots" ∷ []) ms refl)
    (get_kept (codes "partition-specs") (codes "snapshots" ∷ []) ms refl)
    (get_kept (codes "current-schema-id") (codes "snapshots" ∷ []) ms refl)
    (get_kept (codes "schemas") (codes "snapshots" ∷ []) ms refl)

abbrev read_with : Version → Members → Items → Result (List Snapshot) MetaRefusal
read_with version ms items =
    map_refusal of_snapshots (snapshots_in version (number_or_0 (get_member (codes "last-sequence-number") ms)) items)

-- the snapshots and the columns are read
pub parts_is : (version : Version) (ms after : Members) (items : Items) (snapshots : List Snapshot)
    (columns : List Column) → after ≡ taken ms → items ≡ items_in (get_member (codes "snapshots") ms)
    → read_with version ms items ≡ Ok snapshots → columns_by (λ name. get_member name after) snapshots ≡ Ok columns
    → parts_by version (λ name. get_member name ms) ≡ Ok (snapshots, columns)
parts_is version ms after items snapshots columns left here read then =
    let columns_read : columns_by (λ name. get_member name ms) snapshots ≡ Ok columns =
    sym (columns_kept ms snapshots) ∙ ap (λ (m : Members). columns_by (λ name. get_member name m) snapshots) (sym left)
    ∙ then in
    bind_only _ _ snapshots _ (ap (read_with version ms) (sym here) ∙ read) (bind_only _ _ columns _ columns_read refl)

-- or the columns are refused
pub parts_refused : (version : Version) (ms after : Members) (items : Items) (snapshots : List Snapshot)
    (e : MetaRefusal) → after ≡ taken ms → items ≡ items_in (get_member (codes "snapshots") ms)
    → read_with version ms items ≡ Ok snapshots → columns_by (λ name. get_member name after) snapshots ≡ Err e
    → parts_by version (λ name. get_member name ms) ≡ Err e
parts_refused version ms after items snapshots e left here read then =
    let refused : columns_by (λ name. get_member name ms) snapshots ≡ Err e =
    sym (columns_kept ms snapshots) ∙ ap (λ (m : Members). columns_by (λ name. get_member name m) snapshots) (sym left)
    ∙ then in
    bind_only _ _ snapshots _ (ap (read_with version ms) (sym here) ∙ read)
    (ap (λ (r : Result (List Column) MetaRefusal). r >>= (λ columns. Ok (snapshots, columns))) refused)

-- the snapshots have a field in both versions
snapshots_known : (version : Version) → is_among (codes "snapshots") (known version) ≡ true
snapshots_known Older = refl
snapshots_known Newer = refl

-- what is left doesn't depend on what was taken first
pub left_is : (version : Version) (ms : Members) → without (known version) (taken ms) ≡ without (known version) ms
left_is version ms =
    without_more (codes "snapshots") (known version) ms
    ∙ without_known (codes "snapshots") (known version) ms (snapshots_known version)

abbrev made : ℕ × List ℕ → List ℕ → List Snapshot × List Column → ℤ → ℤ → ℤ → ℤ → Option ℤ → Option ℤ → Members
    → TableMeta
made head location parts last_sequence last_updated schema_id spec_id next_row_id current rest = record {
  version = head.0;
  uuid = head.1;
  location = location;
  last_sequence = last_sequence;
  last_updated = last_updated;
  columns = parts.1;
  schema_id = schema_id;
  spec_id = spec_id;
  next_row_id = next_row_id;
  current = current;
  snapshots = parts.0;
  rest = rest;
}

same_seven : {A B C D E F G H : Type 0} (f : A → B → C → D → E → F → G → H) (a a' : A) (b b' : B) (c c' : C)
    (d d' : D) (e e' : E) (g g' : F) (h h' : G) → a ≡ a' → b ≡ b' → c ≡ c' → d ≡ d' → e ≡ e' → g ≡ g' → h ≡ h'
    → f a b c d e g h ≡ f a' b' c' d' e' g' h'
same_seven f a a' b b' c c' d d' e e' g g' h h' p q r s t u v = cc

-- the record of what is found
pub record_is : (ms : Members) (head : ℕ × List ℕ) (location : List ℕ) (parts : List Snapshot × List Column)
    (rest : Members) (last_sequence last_updated schema_id spec_id : ℤ) (next_row_id current : Option ℤ)
    → last_sequence ≡ number_or_0 (get_member (codes "last-sequence-number") ms)
    → last_updated ≡ number_or_0 (get_member (codes "last-updated-ms") ms)
    → schema_id ≡ number_or_0 (get_member (codes "current-schema-id") ms)
    → spec_id ≡ number_or_0 (get_member (codes "default-spec-id") ms)
    → next_row_id ≡ number_since (format head.0) (get_member (codes "next-row-id") ms)
    → current ≡ current_in (get_member (codes "current-snapshot-id") ms)
    → rest ≡ without (known (format head.0)) ms
    → made head location parts last_sequence last_updated schema_id spec_id next_row_id current rest
    ≡ record_of (λ name. get_member name ms) (without (known (format head.0)) ms) head location parts
record_is ms head location parts rest last_sequence last_updated schema_id spec_id next_row_id current p q r s t u v =
    same_seven (made head location parts) _ _ _ _ _ _ _ _ _ _ _ _ _ _ p q r s t u v

-- the record doesn't depend on the snapshots' member either
pub record_kept : (ms : Members) (head : ℕ × List ℕ) (location : List ℕ) (parts : List Snapshot × List Column)
    → record_of (λ name. get_member name (taken ms)) (without (known (format head.0)) (taken ms)) head location parts
    ≡ record_of (λ name. get_member name ms) (without (known (format head.0)) ms) head location parts
record_kept ms head location parts =
    record_is ms head location parts (without (known (format head.0)) (taken ms)) _ _ _ _ _ _
    (ap number_or_0 (get_kept (codes "last-sequence-number") (codes "snapshots" ∷ []) ms refl))
    (ap number_or_0 (get_kept (codes "last-updated-ms") (codes "snapshots" ∷ []) ms refl))
    (ap number_or_0 (get_kept (codes "current-schema-id") (codes "snapshots" ∷ []) ms refl))
    (ap number_or_0 (get_kept (codes "default-spec-id") (codes "snapshots" ∷ []) ms refl))
    (ap (number_since (format head.0)) (get_kept (codes "next-row-id") (codes "snapshots" ∷ []) ms refl))
    (ap current_in (get_kept (codes "current-snapshot-id") (codes "snapshots" ∷ []) ms refl))
    (left_is (format head.0) ms)

-- the metadata is read
pub meta_is : (ms after : Members) (head : ℕ × List ℕ) (location : List ℕ) (parts : List Snapshot × List Column)
    (m : TableMeta) → after ≡ taken ms → head_by (λ name. get_member name ms) ≡ Ok head
    → text_or_empty (get_member (codes "location") ms) ≡ location
    → parts_by (format head.0) (λ name. get_member name ms) ≡ Ok parts
    → m ≡ record_of (λ name. get_member name after) (without (known (format head.0)) after) head location parts
    → meta_of ms ≡ Ok m
meta_is ms after head location parts m left is place read made =
    let here : record_of (λ name. get_member name ms) (without (known (format head.0)) ms) head location parts ≡ m =
    sym (record_kept ms head location parts)
    ∙ ap (λ (ms : Members). record_of (λ name. get_member name ms) (without (known (format head.0)) ms) head location parts)
    (sym left) ∙ sym made in
    bind_only _ _ head _ is (bind_only _ _ parts _ read
    (ap (λ (location : List ℕ). Ok (record_of (λ name. get_member name ms) (without (known (format head.0)) ms) head location parts)) place
    ∙ ap Ok here))

-- or its parts are refused
pub meta_refused : (ms : Members) (head : ℕ × List ℕ) (e : MetaRefusal) → head_by (λ name. get_member name ms) ≡ Ok head
    → parts_by (format head.0) (λ name. get_member name ms) ≡ Err e → meta_of ms ≡ Err e
meta_refused ms head e is refused =
    bind_only _ _ head _ is
    (ap (λ (r : Result (List Snapshot × List Column) MetaRefusal). r >>= (λ parts.
    Ok (meta_with (λ name. get_member name ms) (without (known (format head.0)) ms) head parts))) refused)
