-- The first fault of a table, and the relation that says that there is none.
use Rattle.std.proofs.Common.{◌≡◌, ℕ, List, [], ◌∷◌, Option, Some, None, Bool, true, false, ◌||◌, if◌then◌else◌}
use Rattle.std.proofs.Common.{Result, Ok, Err, refl, ap, ap₂, subst, ◌∙◌}
use Rattle.std.specs.Str.{bytes_eq}
use Rattle.words.specs.Reading.{◌>>=◌}
use Rattle.serde_json.specs.Data.{Data, Items, no_items, item, Members}
use Rattle.serde_json.specs.Find.{get_member, as_object}
use Rattle.json_members.specs.declared.fault.Fault.{Fault}
use Rattle.json_members.specs.Members.{Field, with_fields, found_in}
use Rattle.json_members.specs.declared.fault.Fault.TheVariants.{Wrong}
use Rattle.json_members.specs.declared.form.Form.{Form}
use Rattle.json_members.specs.declared.rows.Keep.{Keep}
use Rattle.json_members.specs.declared.rows.Version.{Version}
use Rattle.json_members.specs.declared.rows.Need.TheVariants.{Needed}
use Rattle.json_members.specs.Form.{has_form}
use Rattle.json_members.specs.Rows.{Row, takes_null, tested, checked_by, checked, row_named, AreRight, object_checked}
use Rattle.json_members.specs.Rows.{item_checked, each_checked, HasRight, EachIsRight}
use Rattle.json_members.specs.FieldLaws.{get_fields}

-- the first fault depends only on what look-ups find
pub checked_same : (f g : List ℕ → Option Data) (rows : List Row) → ((name : List ℕ) → f name ≡ g name)
    → checked_by f rows ≡ checked_by g rows
checked_same f g [] same = refl
checked_same f g (row ∷ rows) same =
    ap₂ (λ (here : Result (Unit {0}) Fault) (rest : Result (Unit {0}) Fault). here >>= (λ _. rest))
    (ap (tested row) (same row.name)) (checked_same f g rows same)

-- the first fault in an object with fields
pub checked_fields : (rows : List Row) (fields : List Field) (ms : Members)
    → checked rows (with_fields fields ms) ≡ checked_by (λ name. found_in name fields (get_member name ms)) rows
checked_fields rows fields ms = checked_same _ _ rows (λ name. get_fields name fields ms)

-- if two steps have no fault together, neither has one
pub first_right : (here rest : Result (Unit {0}) Fault) → (here >>= (λ _. rest)) ≡ Ok tt
    → (here ≡ Ok tt) × (rest ≡ Ok tt)
first_right (Ok tt) rest is = (refl, is)
first_right (Err e) rest is = absurd cc

-- a table whose rows are all right has no fault
pub no_fault : (found : List ℕ → Option Data) (rows : List Row) → AreRight found rows → checked_by found rows ≡ Ok tt
no_fault found [] h = refl
no_fault found (row ∷ rows) h =
    ap (λ (r : Result (Unit {0}) Fault). r >>= (λ _. checked_by found rows)) h.0 ∙ no_fault found rows h.1

-- all rows of a table without a fault are right
pub all_right : (found : List ℕ → Option Data) (rows : List Row) → checked_by found rows ≡ Ok tt → AreRight found rows
all_right found [] is = tt
all_right found (row ∷ rows) is =
    let p = first_right (tested row (found row.name)) (checked_by found rows) is in (p.0, all_right found rows p.1)

abbrev pub fine_if : Bool → List ℕ → Result (Unit {0}) Fault
fine_if b name = if b then Ok tt else Err (Wrong name)

pub form_step : (name : List ℕ) (b c : Bool) → fine_if (b || c) name ≡ Ok tt → b ≡ false → c ≡ true
form_step name b true is none = refl
form_step name true false is none = absurd cc
form_step name false false is none = absurd cc

-- if the row of a needed member is right, there is a value, and it has the form
pub needed_right : (name : List ℕ) (form : Form) (since : Version) (keep : Keep) (found : Option Data)
    → tested (record { name = name; need = Needed; form = form; since = since; keep = keep }) found ≡ Ok tt
    → (value : Data) × (found ≡ Some value) × (has_form form value ≡ true)
needed_right name form since keep None is = absurd cc
needed_right name form since keep (Some value) is = (value, refl, form_step name false (has_form form value) is refl)

-- a row is right if its value has the form
pub tested_right : (row : Row) (value : Data) → has_form row.form value ≡ true → tested row (Some value) ≡ Ok tt
tested_right row value right = by_null (takes_null row.need value)
  where
    by_null : (b : Bool) → fine_if (b || has_form row.form value) row.name ≡ Ok tt
    by_null true = refl
    by_null false = ap (λ (b : Bool). fine_if b row.name) right

named_step : (found : List ℕ → Option Data) (row here : Row) (b : Bool) (later : Option Row)
    → tested here (found here.name) ≡ Ok tt → (later ≡ Some row → tested row (found row.name) ≡ Ok tt)
    → (if b then Some here else later) ≡ Some row
    → tested row (found row.name) ≡ Ok tt
named_step found row here true later first rest is =
    let same : here ≡ row = cc in subst (λ (r : Row). tested r (found r.name) ≡ Ok tt) same first
named_step found row here false later first rest is = rest is

-- if all rows are right, the row of a name is
pub right_named : (found : List ℕ → Option Data) (rows : List Row) (name : List ℕ) (row : Row)
    → row_named name rows ≡ Some row → AreRight found rows → tested row (found row.name) ≡ Ok tt
right_named found [] name row is h = absurd cc
right_named found (here ∷ rows) name row is h =
    named_step found row here (bytes_eq here.name name) (row_named name rows) h.0
    (λ later. right_named found rows name row later h.1) is

-- ---- lists of objects

-- an object whose rows are all right has no fault
right_object : (list : List ℕ) (rows : List Row) (members : Option Members) → HasRight rows members
    → object_checked list rows members ≡ Ok tt
right_object list rows None h = absurd h
right_object list rows (Some members) h = no_fault (λ name. get_member name members) rows h

object_right : (list : List ℕ) (rows : List Row) (members : Option Members) → object_checked list rows members ≡ Ok tt
    → HasRight rows members
object_right list rows None is = absurd cc
object_right list rows (Some members) is = all_right (λ name. get_member name members) rows is

-- a list of objects whose rows are all right has no fault
pub each_without_fault : (list : List ℕ) (rows : List Row) (values : Items) → EachIsRight rows values
    → each_checked list rows values ≡ Ok tt
each_without_fault list rows no_items h = refl
each_without_fault list rows (item value values) h =
    ap (λ (r : Result (Unit {0}) Fault). r >>= (λ _. each_checked list rows values))
    (right_object list rows (as_object value) h.0)
    ∙ each_without_fault list rows values h.1

-- a list without a fault is one of objects whose rows are all right
pub each_all_right : (list : List ℕ) (rows : List Row) (values : Items) → each_checked list rows values ≡ Ok tt
    → EachIsRight rows values
each_all_right list rows no_items is = tt
each_all_right list rows (item value values) is =
    let p = first_right (item_checked list rows value) (each_checked list rows values) is in
    (object_right list rows (as_object value) p.0, each_all_right list rows values p.1)
