-- The numbers of a table that are found if the rows of its members are right.
use Rattle.std.proofs.Common.{codes, refl, subst}
use Rattle.json_members.specs.declared.rows.Keep.TheVariants.{InField}
use Rattle.json_members.specs.declared.rows.Version.{Version}
use Rattle.json_members.specs.declared.rows.Version.TheVariants.{Older}
use Rattle.json_members.specs.MeaningLaws as meaning
use Rattle.json_members.specs.Rows.{Lookup, AreRight}
use Rattle.json_members.specs.Values.{number_or_0}
use Rattle.metadata_reading.specs.Cause.{IsLast}
use Rattle.metadata_reading.specs.CheckLaws.{in_both}
use Rattle.metadata_reading.specs.CurrentSchema.{IsSchemaId}
use Rattle.metadata_reading.specs.Members.{part}

-- the last sequence number
pub last_found : (version : Version) (found : Lookup) → AreRight found (part 2 5 version)
    → IsLast found (number_or_0 (found (codes "last-sequence-number")))
last_found version found right =
    let rows = subst (AreRight found) (in_both 2 5 refl version) right in
    meaning.natural_found (codes "last-sequence-number") Older InField (found (codes "last-sequence-number")) rows.1.0

-- the id of the current schema
pub schema_id_found : (version : Version) (found : Lookup) → AreRight found (part 7 1 version)
    → IsSchemaId found (number_or_0 (found (codes "current-schema-id")))
schema_id_found version found right =
    let rows = subst (AreRight found) (in_both 7 1 refl version) right in
    meaning.long_found (codes "current-schema-id") Older InField (found (codes "current-schema-id")) rows.0
