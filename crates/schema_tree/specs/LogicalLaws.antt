-- What a number stands for is read again from its attributes, and what is read can be written.
use Rattle.std.proofs.Common.{◌≡◌, ℕ, Bool, true, false, if◌then◌else◌, List, codes, refl}
use Rattle.std.proofs.lemmas.Bool.{false≢true}
use Rattle.std.specs.Str.{bytes_eq}
use Rattle.schema_tree.specs.declared.logical.Logical.{Logical}
use Rattle.schema_tree.specs.declared.logical.Logical.TheVariants.{Plain, Date, TimeMicros, StampMicros, StampMicrosUtc}
use Rattle.schema_tree.specs.Logical.{is_of_int, is_of_long, int_attributes, long_attributes, of_int, moment, of_long}
use Rattle.schema_tree.specs.Logical.{int_with, long_with}

-- the attributes of an int are read as what they were written for
pub int_again : (logical : Logical) → is_of_int logical ≡ true → int_with (int_attributes logical) ≡ logical
int_again Plain is = refl
int_again Date is = refl
int_again TimeMicros is = absurd (false≢true is)
int_again StampMicros is = absurd (false≢true is)
int_again StampMicrosUtc is = absurd (false≢true is)

-- and so are those of a long
pub long_again : (logical : Logical) → is_of_long logical ≡ true → long_with (long_attributes logical) ≡ logical
long_again Plain is = refl
long_again Date is = absurd (false≢true is)
long_again TimeMicros is = refl
long_again StampMicros is = refl
long_again StampMicrosUtc is = refl

-- an int is read as something that an int may stand for
pub int_read : (logical_type : List ℕ) → is_of_int (of_int logical_type) ≡ true
int_read logical_type = chosen (bytes_eq logical_type (codes "date"))
  where
    chosen : (is : Bool) → is_of_int (if is then Date else Plain) ≡ true
    chosen true = refl
    chosen false = refl

-- and a long as something that a long may stand for
pub long_read : (logical_type : List ℕ) (adjust_to_utc : Bool) → is_of_long (of_long logical_type adjust_to_utc) ≡ true
long_read logical_type adjust_to_utc =
    chosen (bytes_eq logical_type (codes "time-micros")) (bytes_eq logical_type (codes "timestamp-micros"))
    adjust_to_utc
  where
    chosen : (is_time is_moment utc : Bool)
        → is_of_long (if is_time then TimeMicros else (if is_moment then moment utc else Plain)) ≡ true
    chosen true is_moment utc = refl
    chosen false true true = refl
    chosen false true false = refl
    chosen false false utc = refl
