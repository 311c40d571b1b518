-- The members of table metadata, in the order of their checks. Iceberg spec, "Table Metadata Fields".
use Rattle.std.specs.Prelude.{ℕ, List, [], ◌∷◌, codes, take, drop}
use Rattle.json_members.specs.declared.form.Form.TheVariants.{Text, Long, Natural, Int, List as ListForm, Object}
use Rattle.json_members.specs.declared.rows.Keep.TheVariants.{InField, Carried}
use Rattle.json_members.specs.declared.rows.Need.TheVariants.{Needed, MayBeAbsent, MayBeNull}
use Rattle.json_members.specs.declared.rows.Version.{Version}
use Rattle.json_members.specs.declared.rows.Version.TheVariants.{Older, Newer}
use Rattle.json_members.specs.Rows.{Row, of_version, field_names}

abbrev pub members : List Row
members =
    record { name = codes "format-version"; need = Needed; form = Long; since = Older; keep = InField }
    ∷ record { name = codes "table-uuid"; need = Needed; form = Text; since = Older; keep = InField }
    ∷ record { name = codes "location"; need = Needed; form = Text; since = Older; keep = InField }
    ∷ record { name = codes "last-sequence-number"; need = Needed; form = Natural; since = Older; keep = InField }
    ∷ record { name = codes "last-updated-ms"; need = Needed; form = Long; since = Older; keep = InField }
    ∷ record { name = codes "last-column-id"; need = Needed; form = Long; since = Older; keep = Carried }
    ∷ record { name = codes "schemas"; need = Needed; form = ListForm; since = Older; keep = Carried }
    ∷ record { name = codes "current-schema-id"; need = Needed; form = Long; since = Older; keep = InField }
    ∷ record { name = codes "partition-specs"; need = Needed; form = ListForm; since = Older; keep = Carried }
    ∷ record { name = codes "default-spec-id"; need = Needed; form = Int; since = Older; keep = InField }
    ∷ record { name = codes "next-row-id"; need = Needed; form = Natural; since = Newer; keep = InField }
    ∷ record { name = codes "snapshots"; need = MayBeAbsent; form = ListForm; since = Older; keep = InField }
    ∷ record { name = codes "current-snapshot-id"; need = MayBeNull; form = Long; since = Older; keep = InField }
    ∷ record { name = codes "snapshot-log"; need = MayBeAbsent; form = ListForm; since = Older; keep = Carried }
    ∷ record { name = codes "metadata-log"; need = MayBeAbsent; form = ListForm; since = Older; keep = Carried }
    ∷ record { name = codes "refs"; need = MayBeAbsent; form = Object; since = Older; keep = Carried }
    ∷ record { name = codes "properties"; need = MayBeAbsent; form = Object; since = Older; keep = Carried }
    ∷ record { name = codes "encryption-keys"; need = MayBeAbsent; form = ListForm; since = Older; keep = Carried }
    ∷ []

-- so many of them from one on, as far as a version has them
abbrev pub part : ℕ → ℕ → Version → List Row
part from count version = of_version version (take count (drop from members))

-- the names of those that a version keeps in fields
abbrev pub known : Version → List (List ℕ)
known version = field_names version members
