-- An id's text is a number of JSON, which is read as the id.
use Rattle.std.proofs.Common.{◌≡◌, ◌^◌, ◌-◌, ℤ, pos, negsuc, Bool, true, if◌then◌else◌, Some, None, arith, refl, ap}
use Rattle.std.proofs.lemmas.Bool.{ltb-true, lt-ltb, le-ltb}
use Rattle.std.specs.Fmt.{signed_decimal}
use Rattle.json.specs.Print.{IsNumber}
use Rattle.json.proofs.Printed.Decimals.{IsNumber-signed_decimal}
use Rattle.serde_json.specs.Read.{number_of}
use Rattle.serde_json.specs.Data.{number}
use Rattle.serde_json.specs.Find.{of_integer}
use Rattle.serde_json.proofs.Numbers.{number_of-decimal, number_of-negative}
use Rattle.schema_tree.specs.Ids.{is_id}
use Rattle.json_members.specs.Form.{int_of}
use Rattle.json_members.specs.NumberLaws.{int_again}

-- it is a number
pub id_is_number : (id : ℤ) → is_id (Some id) ≡ true → IsNumber (signed_decimal id)
id_is_number (pos n) fits = IsNumber-signed_decimal (pos n) (omega (arith, ltb-true n (2 ^ 31) fits))
id_is_number (negsuc n) fits = IsNumber-signed_decimal (negsuc n) (omega (arith, ltb-true n (2 ^ 31) fits))

-- which number it is
pub id_number : (id : ℤ) → is_id (Some id) ≡ true → number_of (signed_decimal id) ≡ Some (of_integer id)
id_number (pos n) fits = number_of-decimal n (omega (arith, ltb-true n (2 ^ 31) fits))
id_number (negsuc n) fits = number_of-negative n (omega (arith, ltb-true n (2 ^ 31) fits))

-- the number is the id
pub id_int : (id : ℤ) → is_id (Some id) ≡ true → int_of (number (of_integer id)) ≡ Some id
id_int (pos n) fits =
    let long = lt-ltb n (2 ^ 63) (omega (arith, ltb-true n (2 ^ 31) fits)) in
    int_again (pos n) long (ap (λ (b : Bool). if b then Some (pos n) else None) fits)
id_int (negsuc n) fits =
    let low = le-ltb (2 ^ 31 - 1) n (omega (arith, ltb-true n (2 ^ 31) fits)) in
    int_again (negsuc n) refl (ap (λ (b : Bool). if b then None else Some (negsuc n)) low)
