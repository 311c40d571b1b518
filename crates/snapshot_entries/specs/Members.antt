-- The members of a snapshot's object, in the order of their checks. Iceberg spec, "Snapshots", and Appendix C, "Table
-- Metadata and Snapshots". `manifest-list` is in the table for its name alone: it has a refusal of its own.
use Rattle.std.specs.Prelude.{ℕ, List, [], ◌∷◌, codes, take, drop}
use Rattle.json_members.specs.declared.form.Form.TheVariants.{Any, Long, Natural}
use Rattle.json_members.specs.declared.rows.Keep.TheVariants.{InField}
use Rattle.json_members.specs.declared.rows.Need.TheVariants.{Needed, MayBeAbsent, MayBeNull}
use Rattle.json_members.specs.declared.rows.Version.{Version}
use Rattle.json_members.specs.declared.rows.Version.TheVariants.{Older, Newer}
use Rattle.json_members.specs.Rows.{Row, of_version, field_names}

abbrev pub members : List Row
members =
    record { name = codes "snapshot-id"; need = Needed; form = Natural; since = Older; keep = InField }
    ∷ record { name = codes "timestamp-ms"; need = Needed; form = Long; since = Older; keep = InField }
    ∷ record { name = codes "sequence-number"; need = MayBeAbsent; form = Natural; since = Older; keep = InField }
    ∷ record { name = codes "parent-snapshot-id"; need = MayBeNull; form = Long; since = Older; keep = InField }
    ∷ record { name = codes "schema-id"; need = MayBeNull; form = Long; since = Older; keep = InField }
    ∷ record { name = codes "first-row-id"; need = MayBeNull; form = Natural; since = Newer; keep = InField }
    ∷ record { name = codes "added-rows"; need = MayBeNull; form = Natural; since = Newer; keep = InField }
    ∷ record { name = codes "manifest-list"; need = MayBeAbsent; form = Any; since = Older; keep = InField }
    ∷ []

-- those that a version has: before the sequence number is compared with the table's, after it, and all
abbrev pub first_rows : Version → List Row
first_rows version = of_version version (take 3 members)

abbrev pub other_rows : Version → List Row
other_rows version = of_version version (drop 3 members)

abbrev pub rows : Version → List Row
rows version = of_version version members

-- the names of those that a version keeps in fields
abbrev pub known : Version → List (List ℕ)
known version = field_names version members
