-- A row that is right, and what its member means.
use Rattle.std.proofs.Common.{◌≡◌, ℕ, ℤ, pos, int_lt, List, Bool, true, false, if◌then◌else◌, Option, Some, None, is_some, []}
use Rattle.std.proofs.Common.{option_and_then, option_map, unwrap_or, Ok, refl, sym, ap, subst, ◌∙◌, negsuc, ◌^◌, ◌-◌}
use Rattle.serde_json.specs.Data.{Data, null, boolean, number, string, array, object, Items, Members}
use Rattle.serde_json.specs.Find.{as_str, as_array, as_object}
use Rattle.json_members.specs.declared.form.Form.{Form}
use Rattle.json_members.specs.declared.form.Form.TheVariants.{Text, Long, Natural, Int, List as ListForm, Object}
use Rattle.json_members.specs.declared.rows.Keep.{Keep}
use Rattle.json_members.specs.declared.rows.Need.{Need}
use Rattle.json_members.specs.declared.rows.Need.TheVariants.{Needed, MayBeAbsent, MayBeNull}
use Rattle.json_members.specs.declared.rows.Version.{Version}
use Rattle.json_members.specs.Form.{is_long, long_of, if_natural, natural_of, if_int, int_of, items_in}
use Rattle.json_members.specs.Meaning.{IsUnset, IsLongIfSet, IsNaturalIfSet, IsNaturalOr0, IsListIfAny, IsObjectIfAny}
use Rattle.json_members.specs.Members.{first_of}
use Rattle.json_members.specs.NumberLaws.{long_again, natural_again}
use Rattle.json_members.specs.RowLaws.{form_step, tested_right}
use Rattle.json_members.specs.Rows.{Row, tested}
use Rattle.json_members.specs.Values.{number_in, natural_in, int_in, number_or_0, text_or_empty, whole}

abbrev pub row_of : Need → Form → List ℕ → Version → Keep → Row
row_of need form name since keep = record { name = name; need = need; form = form; since = since; keep = keep }

-- ---- values

some_is : (o : Option ℤ) → is_some o ≡ true → o ≡ Some (unwrap_or o (pos 0))
some_is None is = absurd cc
some_is (Some z) is = refl

some_is_or : (other : List ℕ) (o : Option (List ℕ)) → is_some o ≡ true → o ≡ Some (unwrap_or o other)
some_is_or other None is = absurd cc
some_is_or other (Some text) is = refl

-- a value that is a number at all is one of 64 bits
passed_natural : (o : Option ℤ) (z : ℤ) → option_and_then if_natural o ≡ Some z → o ≡ Some z
passed_natural None z is = absurd cc
passed_natural (Some y) z is = by_test (int_lt y (pos 0)) is
  where
    by_test : (b : Bool) → (if b then None else Some y) ≡ Some z → Some y ≡ Some z
    by_test true is = absurd cc
    by_test false is = is

passed_int : (o : Option ℤ) (z : ℤ) → option_and_then if_int o ≡ Some z → o ≡ Some z
passed_int None z is = absurd cc
passed_int (Some y) z is = by_tests (int_lt y (negsuc (2 ^ 31 - 1))) (int_lt y (pos (2 ^ 31))) is
  where
    by_tests : (b c : Bool) → (if b then None else (if c then Some y else None)) ≡ Some z → Some y ≡ Some z
    by_tests true c is = absurd cc
    by_tests false true is = is
    by_tests false false is = absurd cc

pub natural_is_number : (found : Option Data) (z : ℤ) → natural_in found ≡ Some z → number_in found ≡ Some z
natural_is_number None z is = absurd cc
natural_is_number (Some value) z is = passed_natural (long_of value) z is

pub or_0 : (found : Option Data) (z : ℤ) → number_in found ≡ Some z → number_or_0 found ≡ z
or_0 found z is = ap (λ (o : Option ℤ). unwrap_or o (pos 0)) is

-- the value that a text is, and a list, and an object
pub string_is : (value : Data) (text : List ℕ) → as_str value ≡ Some text → value ≡ string text
string_is null text is = absurd cc
string_is (boolean b) text is = absurd cc
string_is (number n) text is = absurd cc
string_is (string s) text is = let same : s ≡ text = cc in ap string same
string_is (array items) text is = absurd cc
string_is (object ms) text is = absurd cc

pub array_is : (value : Data) → is_some (as_array value) ≡ true → (items : Items) × (value ≡ array items)
array_is null is = absurd cc
array_is (boolean b) is = absurd cc
array_is (number n) is = absurd cc
array_is (string s) is = absurd cc
array_is (array items) is = (items, refl)
array_is (object ms) is = absurd cc

pub object_is : (value : Data) → is_some (as_object value) ≡ true → (ms : Members) × (value ≡ object ms)
object_is null is = absurd cc
object_is (boolean b) is = absurd cc
object_is (number n) is = absurd cc
object_is (string s) is = absurd cc
object_is (array items) is = absurd cc
object_is (object ms) is = (ms, refl)

-- ---- needed members

-- the number that is found
pub long_found : (name : List ℕ) (since : Version) (keep : Keep) (found : Option Data)
    → tested (row_of Needed Long name since keep) found ≡ Ok tt → number_in found ≡ Some (number_or_0 found)
long_found name since keep None is = absurd cc
long_found name since keep (Some value) is =
    some_is (long_of value) (form_step name false (is_some (long_of value)) is refl)

pub found_long : (name : List ℕ) (since : Version) (keep : Keep) (found : Option Data) (z : ℤ)
    → number_in found ≡ Some z → tested (row_of Needed Long name since keep) found ≡ Ok tt
found_long name since keep None z is = absurd cc
found_long name since keep (Some value) z is =
    tested_right (row_of Needed Long name since keep) value (ap is_some is)

-- the number that is found, not below 0
natural_value : (value : Data) → is_some (natural_of value) ≡ true
    → natural_of value ≡ Some (unwrap_or (long_of value) (pos 0))
natural_value value is =
    let z = unwrap_or (natural_of value) (pos 0) in
    let natural : natural_of value ≡ Some z = some_is (natural_of value) is in
    natural ∙ ap Some (sym (ap (λ (o : Option ℤ). unwrap_or o (pos 0)) (passed_natural (long_of value) z natural)))

pub natural_found : (name : List ℕ) (since : Version) (keep : Keep) (found : Option Data)
    → tested (row_of Needed Natural name since keep) found ≡ Ok tt → natural_in found ≡ Some (number_or_0 found)
natural_found name since keep None is = absurd cc
natural_found name since keep (Some value) is =
    natural_value value (form_step name false (is_some (natural_of value)) is refl)

pub found_natural : (name : List ℕ) (since : Version) (keep : Keep) (found : Option Data) (z : ℤ)
    → natural_in found ≡ Some z → tested (row_of Needed Natural name since keep) found ≡ Ok tt
found_natural name since keep None z is = absurd cc
found_natural name since keep (Some value) z is =
    tested_right (row_of Needed Natural name since keep) value (ap is_some is)

-- the number of 32 bits that is found
int_value : (value : Data) → is_some (int_of value) ≡ true → int_of value ≡ Some (unwrap_or (long_of value) (pos 0))
int_value value is =
    let z = unwrap_or (int_of value) (pos 0) in
    let int : int_of value ≡ Some z = some_is (int_of value) is in
    int ∙ ap Some (sym (ap (λ (o : Option ℤ). unwrap_or o (pos 0)) (passed_int (long_of value) z int)))

pub int_found : (name : List ℕ) (since : Version) (keep : Keep) (found : Option Data)
    → tested (row_of Needed Int name since keep) found ≡ Ok tt → int_in found ≡ Some (number_or_0 found)
int_found name since keep None is = absurd cc
int_found name since keep (Some value) is = int_value value (form_step name false (is_some (int_of value)) is refl)

pub found_int : (name : List ℕ) (since : Version) (keep : Keep) (found : Option Data) (z : ℤ)
    → int_in found ≡ Some z → tested (row_of Needed Int name since keep) found ≡ Ok tt
found_int name since keep None z is = absurd cc
found_int name since keep (Some value) z is =
    tested_right (row_of Needed Int name since keep) value (ap is_some is)

-- the text that is found
pub text_found : (name : List ℕ) (since : Version) (keep : Keep) (found : Option Data)
    → tested (row_of Needed Text name since keep) found ≡ Ok tt → found ≡ Some (string (text_or_empty found))
text_found name since keep None is = absurd cc
text_found name since keep (Some value) is =
    let text = text_or_empty (Some value) in
    let some : as_str value ≡ Some text
    = some_is_or [] (as_str value) (form_step name false (is_some (as_str value)) is refl) in
    ap Some (string_is value text some)

pub found_text : (name : List ℕ) (since : Version) (keep : Keep) (found : Option Data) (text : List ℕ)
    → found ≡ Some (string text) → tested (row_of Needed Text name since keep) found ≡ Ok tt
found_text name since keep found text is =
    ap (tested (row_of Needed Text name since keep)) is

-- the items of the list that is found
pub list_found : (name : List ℕ) (since : Version) (keep : Keep) (found : Option Data)
    → tested (row_of Needed ListForm name since keep) found ≡ Ok tt → found ≡ Some (array (items_in found))
list_found name since keep None is = absurd cc
list_found name since keep (Some value) is =
    let p = array_is value (form_step name false (is_some (as_array value)) is refl) in
    ap Some p.1 ∙ ap (λ (d : Data). Some (array (items_in (Some d)))) (sym p.1)

pub found_list : (name : List ℕ) (since : Version) (keep : Keep) (found : Option Data) (items : Items)
    → found ≡ Some (array items) → tested (row_of Needed ListForm name since keep) found ≡ Ok tt
found_list name since keep found items is = ap (tested (row_of Needed ListForm name since keep)) is

-- ---- members that may be absent

pub natural_or_0 : (name : List ℕ) (since : Version) (keep : Keep) (found : Option Data)
    → tested (row_of MayBeAbsent Natural name since keep) found ≡ Ok tt → IsNaturalOr0 found (number_or_0 found)
natural_or_0 name since keep None is = refl
natural_or_0 name since keep (Some value) is =
    natural_value value (form_step name false (is_some (natural_of value)) is refl)

pub or_0_natural : (name : List ℕ) (since : Version) (keep : Keep) (found : Option Data) (z : ℤ)
    → IsNaturalOr0 found z → tested (row_of MayBeAbsent Natural name since keep) found ≡ Ok tt
or_0_natural name since keep None z is = refl
or_0_natural name since keep (Some value) z is =
    tested_right (row_of MayBeAbsent Natural name since keep) value (ap is_some is)

-- it is that number, or 0
pub or_0_is : (found : Option Data) (z : ℤ) → IsNaturalOr0 found z → number_or_0 found ≡ z
or_0_is None z is = sym is
or_0_is (Some value) z is = or_0 (Some value) z (natural_is_number (Some value) z is)

pub list_if_any : (name : List ℕ) (since : Version) (keep : Keep) (found : Option Data)
    → tested (row_of MayBeAbsent ListForm name since keep) found ≡ Ok tt → IsListIfAny found
list_if_any name since keep None is = tt
list_if_any name since keep (Some value) is = array_is value (form_step name false (is_some (as_array value)) is refl)

pub any_list : (name : List ℕ) (since : Version) (keep : Keep) (found : Option Data) → IsListIfAny found
    → tested (row_of MayBeAbsent ListForm name since keep) found ≡ Ok tt
any_list name since keep None is = refl
any_list name since keep (Some value) is =
    tested_right (row_of MayBeAbsent ListForm name since keep) value (ap (λ (d : Data). is_some (as_array d)) is.1)

pub object_if_any : (name : List ℕ) (since : Version) (keep : Keep) (found : Option Data)
    → tested (row_of MayBeAbsent Object name since keep) found ≡ Ok tt → IsObjectIfAny found
object_if_any name since keep None is = tt
object_if_any name since keep (Some value) is =
    object_is value (form_step name false (is_some (as_object value)) is refl)

pub any_object : (name : List ℕ) (since : Version) (keep : Keep) (found : Option Data) → IsObjectIfAny found
    → tested (row_of MayBeAbsent Object name since keep) found ≡ Ok tt
any_object name since keep None is = refl
any_object name since keep (Some value) is =
    tested_right (row_of MayBeAbsent Object name since keep) value (ap (λ (d : Data). is_some (as_object d)) is.1)

-- ---- members that may be null

number_when_set : (value : Data) (o : Option ℤ) → long_of value ≡ o → is_some (long_of value) ≡ true
    → IsLongIfSet (Some value) o
number_when_set value None is some = absurd cc
number_when_set value (Some z) is some = is

pub long_if_set : (name : List ℕ) (since : Version) (keep : Keep) (found : Option Data)
    → tested (row_of MayBeNull Long name since keep) found ≡ Ok tt → IsLongIfSet found (number_in found)
long_if_set name since keep None is = tt
long_if_set name since keep (Some null) is = refl
long_if_set name since keep (Some (boolean b)) is = absurd cc
long_if_set name since keep (Some (number n)) is =
    number_when_set (number n) _ refl (form_step name false (is_some (long_of (number n))) is refl)
long_if_set name since keep (Some (string s)) is = absurd cc
long_if_set name since keep (Some (array items)) is = absurd cc
long_if_set name since keep (Some (object ms)) is = absurd cc

pub set_long : (name : List ℕ) (since : Version) (keep : Keep) (found : Option Data) (o : Option ℤ)
    → IsLongIfSet found o → tested (row_of MayBeNull Long name since keep) found ≡ Ok tt
set_long name since keep None o is = refl
set_long name since keep (Some value) None is = ap (λ (d : Data). tested (row_of MayBeNull Long name since keep) (Some d)) is
set_long name since keep (Some value) (Some z) is =
    tested_right (row_of MayBeNull Long name since keep) value (ap is_some is)

natural_when_set : (value : Data) (o : Option ℤ) → long_of value ≡ o → is_some (natural_of value) ≡ true
    → IsNaturalIfSet (Some value) o
natural_when_set value o is some =
    subst (IsNaturalIfSet (Some value)) (sym (passed_natural (long_of value) _ (natural_value value some)) ∙ is)
    (natural_value value some)

pub natural_if_set : (name : List ℕ) (since : Version) (keep : Keep) (found : Option Data)
    → tested (row_of MayBeNull Natural name since keep) found ≡ Ok tt → IsNaturalIfSet found (number_in found)
natural_if_set name since keep None is = tt
natural_if_set name since keep (Some null) is = refl
natural_if_set name since keep (Some (boolean b)) is = absurd cc
natural_if_set name since keep (Some (number n)) is =
    natural_when_set (number n) _ refl (form_step name false (is_some (natural_of (number n))) is refl)
natural_if_set name since keep (Some (string s)) is = absurd cc
natural_if_set name since keep (Some (array items)) is = absurd cc
natural_if_set name since keep (Some (object ms)) is = absurd cc

pub set_natural : (name : List ℕ) (since : Version) (keep : Keep) (found : Option Data) (o : Option ℤ)
    → IsNaturalIfSet found o → tested (row_of MayBeNull Natural name since keep) found ≡ Ok tt
set_natural name since keep None o is = refl
set_natural name since keep (Some value) None is =
    ap (λ (d : Data). tested (row_of MayBeNull Natural name since keep) (Some d)) is
set_natural name since keep (Some value) (Some z) is =
    tested_right (row_of MayBeNull Natural name since keep) value (ap is_some is)

-- it is that number
unset_is : (found : Option Data) → IsUnset found → number_in found ≡ None
unset_is None is = refl
unset_is (Some value) is = ap long_of is

pub if_set_is : (found : Option Data) (o : Option ℤ) → IsLongIfSet found o → number_in found ≡ o
if_set_is found None is = unset_is found is
if_set_is found (Some z) is = is

pub natural_set_is : (found : Option Data) (o : Option ℤ) → IsNaturalIfSet found o → number_in found ≡ o
natural_set_is found None is = unset_is found is
natural_set_is found (Some z) is = natural_is_number found z is

-- ---- what is written

-- a written number is found
pub long_written : (z : ℤ) → is_long z ≡ true → number_in (Some (whole z)) ≡ Some z
long_written z h = long_again z h

pub natural_written : (z : ℤ) → is_long z ≡ true → int_lt z (pos 0) ≡ false → natural_in (Some (whole z)) ≡ Some z
natural_written z h least = natural_again z h least

pub int_written : (z : ℤ) → is_long z ≡ true → if_int z ≡ Some z → int_in (Some (whole z)) ≡ Some z
int_written z h int = ap (option_and_then if_int) (long_again z h) ∙ int

-- so is one that may be missing, if nothing is carried at its name
pub long_set_again : (o : Option ℤ) (elsewhere : Option Data) → elsewhere ≡ None
    → ((z : ℤ) → o ≡ Some z → is_long z ≡ true) → IsLongIfSet (first_of (option_map whole o) elsewhere) o
long_set_again None elsewhere none long = subst IsUnset (sym none) tt
long_set_again (Some z) elsewhere none long = long_again z (long z refl)

pub natural_set_again : (o : Option ℤ) (elsewhere : Option Data) → elsewhere ≡ None
    → ((z : ℤ) → o ≡ Some z → (is_long z ≡ true) × (int_lt z (pos 0) ≡ false))
    → IsNaturalIfSet (first_of (option_map whole o) elsewhere) o
natural_set_again None elsewhere none natural = subst IsUnset (sym none) tt
natural_set_again (Some z) elsewhere none natural =
    natural_again z (natural z refl).0 (natural z refl).1
