-- A table of members, and the first fault that it finds.
use Rattle.std.specs.Prelude.{◌≡◌, ⊤, ℕ, List, [], ◌∷◌, Bool, true, false, ◌||◌, if◌then◌else◌, Option, Some, None}
use Rattle.std.specs.Prelude.{Result, Ok, Err, is_some, map}
use Rattle.std.specs.Str.{bytes_eq}
use Rattle.words.specs.Reading.{◌>>=◌}
use Rattle.serde_json.specs.Data.{Data, Items, no_items, item, Members}
use Rattle.serde_json.specs.Find.{get_member, as_null, as_object}
use Rattle.json_members.specs.Form.{has_form}
use Rattle.json_members.specs.declared.form.Form.{Form}
use Rattle.json_members.specs.declared.rows.Keep.{Keep}
use Rattle.json_members.specs.declared.rows.Keep.TheVariants.{InField, Carried}
use Rattle.json_members.specs.declared.rows.Need.{Need}
use Rattle.json_members.specs.declared.rows.Need.TheVariants.{Needed, MayBeAbsent, MayBeNull}
use Rattle.json_members.specs.declared.rows.Version.{Version}
use Rattle.json_members.specs.declared.rows.Version.TheVariants.{Older, Newer}
use Rattle.json_members.specs.declared.rows.Row as code
use Rattle.json_members.specs.declared.fault.Fault.{Fault}
use Rattle.json_members.specs.declared.fault.Fault.TheVariants.{Missing, Wrong}

-- what is found at each name
abbrev pub Lookup : Type 0
Lookup = List ℕ → Option Data

-- a row of a table
pub record Row : Type 0 where
  pub name : List ℕ
  pub need : Need
  pub form : Form
  pub since : Version
  pub keep : Keep

-- ---- one row

-- a null counts as absent
abbrev pub takes_null : Need → Data → Bool
takes_null Needed value = false
takes_null MayBeAbsent value = false
takes_null MayBeNull value = is_some (as_null value)

-- the fault of a member that is absent, if there is one
abbrev pub absent_at : Need → List ℕ → Result (Unit {0}) Fault
absent_at Needed name = Err (Missing name)
absent_at MayBeAbsent name = Ok tt
absent_at MayBeNull name = Ok tt

-- the fault of a row over what is found at its name, if there is one
abbrev pub tested : Row → Option Data → Result (Unit {0}) Fault
tested row None = absent_at row.need row.name
tested row (Some value) = if takes_null row.need value || has_form row.form value then Ok tt else Err (Wrong row.name)

-- ---- a table

-- the first fault of the rows over what is found at their names
abbrev pub checked_by : Lookup → List Row → Result (Unit {0}) Fault
checked_by found [] = Ok tt
checked_by found (row ∷ rows) = tested row (found row.name) >>= (λ _. checked_by found rows)

-- the first fault of the rows in an object
abbrev pub checked : List Row → Members → Result (Unit {0}) Fault
checked rows members = checked_by (λ name. get_member name members) rows

-- no row has a fault
abbrev pub AreRight : Lookup → List Row → Type 0
AreRight found [] = ⊤
AreRight found (row ∷ rows) = (tested row (found row.name) ≡ Ok tt) × AreRight found rows

-- the row of a name
abbrev pub row_named : List ℕ → List Row → Option Row
row_named name [] = None
row_named name (row ∷ rows) = if bytes_eq row.name name then Some row else row_named name rows

-- ---- lists of objects

-- the first fault of the rows in an object, or the fault of the list whose item is no object
abbrev pub object_checked : List ℕ → List Row → Option Members → Result (Unit {0}) Fault
object_checked list rows None = Err (Wrong list)
object_checked list rows (Some members) = checked rows members

abbrev pub item_checked : List ℕ → List Row → Data → Result (Unit {0}) Fault
item_checked list rows value = object_checked list rows (as_object value)

-- the first fault of the rows in a list of objects
abbrev pub each_checked : List ℕ → List Row → Items → Result (Unit {0}) Fault
each_checked list rows no_items = Ok tt
each_checked list rows (item value values) = item_checked list rows value >>= (λ _. each_checked list rows values)

-- an object in which no row has a fault
abbrev pub HasRight : List Row → Option Members → Type 0
HasRight rows None = ⊥
HasRight rows (Some members) = AreRight (λ name. get_member name members) rows

-- a list of such objects
abbrev pub EachIsRight : List Row → Items → Type 0
EachIsRight rows no_items = ⊤
EachIsRight rows (item value values) = HasRight rows (as_object value) × EachIsRight rows values

-- ---- rows of a version, fields, and carried members

-- a version has the members of its own and those of the versions before it
abbrev pub is_since : Version → Version → Bool
is_since since Newer = true
is_since Older Older = true
is_since Newer Older = false

-- the version has the row
abbrev pub is_in : Version → Row → Bool
is_in version row = is_since row.since version

-- the rows of a version
abbrev pub of_version : Version → List Row → List Row
of_version version [] = []
of_version version (row ∷ rows) =
    if is_in version row then row ∷ of_version version rows else of_version version rows

-- a row that the caller keeps in a field is in the version
abbrev pub is_kept : Keep → Bool → Bool
is_kept InField here = here
is_kept Carried here = false

abbrev pub has_field : Version → Row → Bool
has_field version row = is_kept row.keep (is_in version row)

-- the names of the rows of a version that the caller keeps in fields
abbrev pub field_names : Version → List Row → List (List ℕ)
field_names version [] = []
field_names version (row ∷ rows) =
    if has_field version row then row.name ∷ field_names version rows else field_names version rows

-- the caller carries the row's member
abbrev pub is_carried : Keep → Bool
is_carried InField = false
is_carried Carried = true

-- the rows whose members the caller carries
abbrev pub carried : List Row → List Row
carried [] = []
carried (row ∷ rows) = if is_carried row.keep then row ∷ carried rows else carried rows

-- ---- the code's table

-- a row of the code's table, and the table
abbrev pub row_of : code.Row → Row
row_of row = record { name = row.name.now; need = row.need; form = row.form; since = row.since; keep = row.keep }

abbrev pub rows_of : List code.Row → List Row
rows_of rows = map row_of rows
