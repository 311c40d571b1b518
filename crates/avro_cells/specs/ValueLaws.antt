-- The cells that fit a kind are values of the type that the kind is written as.
use Rattle.std.proofs.Common.{◌≡◌, ℕ, ℤ, Bool, true, List, ap, ◌∙◌}
use Rattle.std.proofs.lemmas.Bool.{false≢true}
use Rattle.row_types.specs.declared.column.Kind.{Kind}
use Rattle.row_types.specs.declared.column.Kind.TheVariants as kinds
use Rattle.row_types.specs.Fits.{is_int, is_long, has_flags, has_number, has_texts, has_bytes}
use Rattle.schema_tree.specs.declared.schema.Schema.TheVariants as schemas
use Rattle.schema_tree.specs.declared.logical.Logical.{Logical}
use Rattle.schema_tree.specs.declared.logical.Logical.TheVariants.{Plain, Date, TimeMicros, StampMicros, StampMicrosUtc}
use Rattle.datum_tree.specs.declared.datum.Datum.TheVariants as datums
use Rattle.datum_tree.specs.Fits.{is_signed, fits_schema}
use Rattle.datum_tree.specs.FitsEquations.{boolean_fits, int_fits, long_fits, bytes_fits, string_fits}
use Rattle.datum_tree.specs.Kinds.{flag_in, number_in, raw_in, text_in, test_if}
use Rattle.avro_cells.specs.Kind.{written_type}

-- a number of 32 bits is an int, whatever that stands for
pub int_number_fits : (logical : Logical) (number : ℤ) → is_int number ≡ true
    → fits_schema (schemas.Int logical) (datums.Num number) ≡ true
int_number_fits logical number fit =
    int_fits logical (datums.Num number)
    ∙ (ap (λ level. test_if (is_signed 31) (number_in level)) (datums.outs-Num number) ∙ fit)

-- and one of 64 bits a long
pub long_number_fits : (logical : Logical) (number : ℤ) → is_long number ≡ true
    → fits_schema (schemas.Long logical) (datums.Num number) ≡ true
long_number_fits logical number fit =
    long_fits logical (datums.Num number)
    ∙ (ap (λ level. test_if (is_signed 63) (number_in level)) (datums.outs-Num number) ∙ fit)

-- a number of its kind
pub written_number_fits : (kind : Kind) (number : ℤ) → has_number kind number ≡ true
    → fits_schema (written_type kind) (datums.Num number) ≡ true
written_number_fits kinds.Int number fit = int_number_fits Plain number fit
written_number_fits kinds.Date number fit = int_number_fits Date number fit
written_number_fits kinds.Long number fit = long_number_fits Plain number fit
written_number_fits kinds.Time number fit = long_number_fits TimeMicros number fit
written_number_fits kinds.Timestamp number fit = long_number_fits StampMicros number fit
written_number_fits kinds.Timestamptz number fit = long_number_fits StampMicrosUtc number fit
written_number_fits _ number fit = absurd (false≢true fit)

-- a truth value of its kind
pub written_flag_fits : (kind : Kind) (flag : Bool) → has_flags kind ≡ true
    → fits_schema (written_type kind) (datums.Flag flag) ≡ true
written_flag_fits kinds.Boolean flag fit =
    boolean_fits (datums.Flag flag) ∙ ap (λ level. test_if (λ flag. true) (flag_in level)) (datums.outs-Flag flag)
written_flag_fits _ flag fit = absurd (false≢true fit)

-- a text of its kind
pub written_text_fits : (kind : Kind) (text : List ℕ) → has_texts kind ≡ true
    → fits_schema (written_type kind) (datums.Str text) ≡ true
written_text_fits kinds.Text text fit =
    string_fits (datums.Str text) ∙ ap (λ level. test_if (λ text. true) (text_in level)) (datums.outs-Str text)
written_text_fits _ text fit = absurd (false≢true fit)

-- bytes of their kind
pub written_bytes_fit : (kind : Kind) (bytes : List ℕ) → has_bytes kind ≡ true
    → fits_schema (written_type kind) (datums.Raw bytes) ≡ true
written_bytes_fit kinds.Bytes bytes fit =
    bytes_fits (datums.Raw bytes) ∙ ap (λ level. test_if (λ bytes. true) (raw_in level)) (datums.outs-Raw bytes)
written_bytes_fit _ bytes fit = absurd (false≢true fit)
