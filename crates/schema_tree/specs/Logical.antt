-- The attributes by which the JSON of a schema says what its numbers stand for.
-- Avro spec, "Logical Types"; Iceberg spec, "Appendix A: Format-specific Requirements", "Avro".
use Rattle.std.specs.Prelude.{ℕ, Bool, true, false, List, Option, Some, None, codes, if◌then◌else◌}
use Rattle.std.specs.Str.{bytes_eq}
use Rattle.schema_tree.specs.declared.logical.Logical.{Logical}
use Rattle.schema_tree.specs.declared.logical.Logical.TheVariants.{Plain, Date, TimeMicros, StampMicros, StampMicrosUtc}
use Rattle.schema_tree.specs.declared.logical.Attributes as declared

-- the values of `logicalType` and of `adjust-to-utc`; the latter may be left out
pub record Attributes : Type 0 where
  pub logical_type : List ℕ
  pub adjust_to_utc : Option Bool

-- the attributes as the code has them
abbrev pub attributes_of : declared.Attributes → Attributes
attributes_of attributes =
    record { logical_type = attributes.logical_type.now; adjust_to_utc = attributes.adjust_to_utc }

-- ---- what is written

-- an int may stand for this
abbrev pub is_of_int : Logical → Bool
is_of_int Plain = true
is_of_int Date = true
is_of_int _ = false

-- a long may stand for this
abbrev pub is_of_long : Logical → Bool
is_of_long Date = false
is_of_long _ = true

-- the attributes of an int that stands for this; none where it is a word alone
abbrev pub int_attributes : Logical → Option Attributes
int_attributes Date = Some (record { logical_type = codes "date"; adjust_to_utc = None })
int_attributes _ = None

-- the attributes of a long that stands for this; none where it is a word alone
abbrev pub long_attributes : Logical → Option Attributes
long_attributes TimeMicros = Some (record { logical_type = codes "time-micros"; adjust_to_utc = None })
long_attributes StampMicros = Some (record { logical_type = codes "timestamp-micros"; adjust_to_utc = Some false })
long_attributes StampMicrosUtc = Some (record { logical_type = codes "timestamp-micros"; adjust_to_utc = Some true })
long_attributes _ = None

-- ---- what is read

-- what an int of this logical type stands for
abbrev pub of_int : List ℕ → Logical
of_int logical_type = if bytes_eq logical_type (codes "date") then Date else Plain

-- a moment, in UTC or in no time zone
abbrev pub moment : Bool → Logical
moment true = StampMicrosUtc
moment false = StampMicros

-- what a long of this logical type stands for
abbrev pub of_long : List ℕ → Bool → Logical
of_long logical_type adjust_to_utc =
    if bytes_eq logical_type (codes "time-micros") then TimeMicros
    else (if bytes_eq logical_type (codes "timestamp-micros") then moment adjust_to_utc else Plain)

-- `adjust-to-utc` is there, and true
abbrev pub is_utc : Option Bool → Bool
is_utc None = false
is_utc (Some utc) = utc

-- what an int with these attributes stands for
abbrev pub int_with : Option Attributes → Logical
int_with None = Plain
int_with (Some attributes) = of_int attributes.logical_type

-- what a long with these attributes stands for
abbrev pub long_with : Option Attributes → Logical
long_with None = Plain
long_with (Some attributes) = of_long attributes.logical_type (is_utc attributes.adjust_to_utc)
