-- The text of a refusal.
use Rattle.std.specs.Prelude.{ℕ, List, [], ◌++◌, codes, decimal}
use Rattle.std.specs.Fmt.{signed_decimal}
use Rattle.limits.specs.Which.{name_of}
use Rattle.avro_container.specs.RefusalText.{refusal_text as container_text}
use Rattle.avro_schema.specs.RefusalText.{refusal_text as schema_text}
use Rattle.datum_reading.specs.RefusalText.{refusal_text as datum_text}
use Rattle.stored_rows.specs.declared.refusal.RowRefusal.{RowRefusal}
use Rattle.stored_rows.specs.declared.refusal.RowRefusal.TheVariants.{Container, Schema, MissingColumn, Kind, Datum}
use Rattle.stored_rows.specs.declared.refusal.RowRefusal.TheVariants.{Rest, RecordCount, IdsSpent, Limit, Memory}

-- the text of the part that is refused; or the variant's name, and then its fields; a limit by its name;
-- nothing of memory
abbrev pub refusal_text : RowRefusal → List ℕ
refusal_text (Container refusal) = container_text refusal
refusal_text (Schema refusal) = schema_text refusal
refusal_text (MissingColumn id) = codes "MissingColumn " ++ signed_decimal id
refusal_text (Kind id) = codes "Kind " ++ signed_decimal id
refusal_text (Datum refusal) = datum_text refusal
refusal_text (Rest block) = codes "Rest " ++ decimal block
refusal_text (RecordCount told found) =
    codes "RecordCount " ++ (signed_decimal told ++ (codes " " ++ signed_decimal found))
refusal_text (IdsSpent first rows) = codes "IdsSpent " ++ (signed_decimal first ++ (codes " " ++ signed_decimal rows))
refusal_text (Limit which found) = name_of which ++ (codes " " ++ decimal found)
refusal_text Memory = []
