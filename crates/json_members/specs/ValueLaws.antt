-- The values of members that a table has checked, and members that are written with a number.
use Rattle.std.proofs.Common.{◌≡◌, ℕ, ℤ, pos, int_lt, List, true, false, Option, Some, None, is_some, option_map}
use Rattle.std.proofs.Common.{unwrap_or, Ok, refl, sym, ap, ◌∙◌}
use Rattle.serde_json.specs.Data.{Data, null, boolean, number, string, array, object}
use Rattle.json_members.specs.declared.form.Form.TheVariants.{Long, Natural}
use Rattle.json_members.specs.declared.rows.Keep.{Keep}
use Rattle.json_members.specs.declared.rows.Need.TheVariants.{Needed, MayBeAbsent, MayBeNull}
use Rattle.json_members.specs.declared.rows.Version.{Version}
use Rattle.json_members.specs.Form.{is_long, long_of, natural_of, has_form}
use Rattle.json_members.specs.Members.{first_of}
use Rattle.json_members.specs.Rows.{Row, tested, absent_at}
use Rattle.json_members.specs.Values.{number_in, number_or_0, whole}
use Rattle.json_members.specs.NumberLaws.{long_again, natural_again, long_is, long_or_zero, natural_is}
use Rattle.json_members.specs.RowLaws.{form_step, tested_right}

-- ---- what is read

-- a number that is found, or 0, has 64 bits
pub long_found : (found : Option Data) → is_long (number_or_0 found) ≡ true
long_found None = refl
long_found (Some value) = long_or_zero value

-- so has one that may be missing
pub long_if_found : (found : Option Data) (z : ℤ) → number_in found ≡ Some z → is_long z ≡ true
long_if_found None z is = absurd cc
long_if_found (Some value) z is = long_is value z is

natural_value : (name : List ℕ) (value : Data) → is_some (natural_of value) ≡ true
    → int_lt (number_or_0 (Some value)) (pos 0) ≡ false
natural_value name value right = natural_is (long_of value) right

-- a number whose row wants it not below 0 isn't
pub needed_natural : (name : List ℕ) (since : Version) (keep : Keep) (found : Option Data)
    → tested (record { name = name; need = Needed; form = Natural; since = since; keep = keep }) found ≡ Ok tt
    → int_lt (number_or_0 found) (pos 0) ≡ false
needed_natural name since keep None is = refl
needed_natural name since keep (Some value) is =
    natural_value name value (form_step name false (is_some (natural_of value)) is refl)

pub absent_natural : (name : List ℕ) (since : Version) (keep : Keep) (found : Option Data)
    → tested (record { name = name; need = MayBeAbsent; form = Natural; since = since; keep = keep }) found ≡ Ok tt
    → int_lt (number_or_0 found) (pos 0) ≡ false
absent_natural name since keep None is = refl
absent_natural name since keep (Some value) is =
    natural_value name value (form_step name false (is_some (natural_of value)) is refl)

natural_is_so : (value : Data) (z : ℤ) → long_of value ≡ Some z → is_some (natural_of value) ≡ true
    → int_lt z (pos 0) ≡ false
natural_is_so value z is right =
    ap (λ (o : Option ℤ). int_lt (unwrap_or o (pos 0)) (pos 0)) (sym is) ∙ natural_is (long_of value) right

pub null_natural : (name : List ℕ) (since : Version) (keep : Keep) (found : Option Data) (z : ℤ)
    → tested (record { name = name; need = MayBeNull; form = Natural; since = since; keep = keep }) found ≡ Ok tt
    → number_in found ≡ Some z → int_lt z (pos 0) ≡ false
null_natural name since keep None z right is = absurd cc
null_natural name since keep (Some null) z right is = absurd cc
null_natural name since keep (Some (boolean b)) z right is = absurd cc
null_natural name since keep (Some (number n)) z right is =
    natural_is_so (number n) z is (form_step name false (is_some (natural_of (number n))) right refl)
null_natural name since keep (Some (string s)) z right is = absurd cc
null_natural name since keep (Some (array items)) z right is = absurd cc
null_natural name since keep (Some (object ms)) z right is = absurd cc

-- ---- what is written

-- a written number is read as itself
pub number_again : (z : ℤ) → is_long z ≡ true → number_or_0 (Some (whole z)) ≡ z
number_again z h = ap (λ (o : Option ℤ). unwrap_or o (pos 0)) (long_again z h)

-- and has the forms of numbers
pub long_right : (z : ℤ) → is_long z ≡ true → has_form Long (whole z) ≡ true
long_right z h = ap is_some (long_again z h)

pub natural_right : (z : ℤ) → is_long z ≡ true → int_lt z (pos 0) ≡ false → has_form Natural (whole z) ≡ true
natural_right z h least = ap is_some (natural_again z h least)

-- a number that may be missing is written if it is there, and nothing is carried at its name
pub maybe_again : (o : Option ℤ) (elsewhere : Option Data) → elsewhere ≡ None
    → ((z : ℤ) → o ≡ Some z → is_long z ≡ true) → number_in (first_of (option_map whole o) elsewhere) ≡ o
maybe_again None elsewhere none long = ap number_in none
maybe_again (Some z) elsewhere none long = long_again z (long z refl)

pub maybe_right : (row : Row) (o : Option ℤ) (elsewhere : Option Data) → absent_at row.need row.name ≡ Ok tt
    → elsewhere ≡ None → ((z : ℤ) → o ≡ Some z → has_form row.form (whole z) ≡ true)
    → tested row (first_of (option_map whole o) elsewhere) ≡ Ok tt
maybe_right row None elsewhere absent none right = ap (tested row) none ∙ absent
maybe_right row (Some z) elsewhere absent none right = tested_right row (whole z) (right z refl)
