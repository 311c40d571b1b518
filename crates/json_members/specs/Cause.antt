-- Why a table of members refuses an object: the cause of each fault, without the order of the rows.
use Rattle.std.specs.Prelude.{◌≡◌, ◌⊎◌, ℕ, List, [], ◌∷◌, Option, Some, None, false}
use Rattle.serde_json.specs.Data.{Data, Items, no_items, item, Members}
use Rattle.serde_json.specs.Find.{get_member, as_object}
use Rattle.json_members.specs.declared.fault.Fault.{Fault}
use Rattle.json_members.specs.declared.fault.Fault.TheVariants.{Missing, Wrong, Memory}
use Rattle.json_members.specs.declared.rows.Need.TheVariants.{Needed}
use Rattle.json_members.specs.Form.{has_form}
use Rattle.json_members.specs.Rows.{Lookup, Row, takes_null}

-- the row needs its member, and nothing is found
pub record IsMissing (found : Lookup) (row : Row) (name : List ℕ) : Type 0 where
  pub named : name ≡ row.name
  pub needed : row.need ≡ Needed
  pub absent : found row.name ≡ None

-- the value that is found has not the row's form, and is no null that counts as absent
pub record IsWrong (found : Lookup) (row : Row) (name : List ℕ) : Type 0 where
  pub named : name ≡ row.name
  pub value : Data
  pub here : found row.name ≡ Some value
  pub set : takes_null row.need value ≡ false
  pub other : has_form row.form value ≡ false

-- the row has this fault
abbrev pub HasFault : Lookup → Row → Fault → Type 0
HasFault found row (Missing name) = IsMissing found row name
HasFault found row (Wrong name) = IsWrong found row name
HasFault found row Memory = ⊥

-- one of the rows has it
abbrev pub AnyHasFault : Lookup → List Row → Fault → Type 0
AnyHasFault found [] fault = ⊥
AnyHasFault found (row ∷ rows) fault = HasFault found row fault ⊎ AnyHasFault found rows fault

-- the item is no object, which is a fault of its list; or one of the rows has this fault in it
abbrev pub ItemHasFault : List ℕ → List Row → Option Members → Fault → Type 0
ItemHasFault list rows None fault = fault ≡ Wrong list
ItemHasFault list rows (Some members) fault = AnyHasFault (λ name. get_member name members) rows fault

-- this is so in one of the items
abbrev pub AnyItemHasFault : List ℕ → List Row → Items → Fault → Type 0
AnyItemHasFault list rows no_items fault = ⊥
AnyItemHasFault list rows (item value items) fault =
    ItemHasFault list rows (as_object value) fault ⊎ AnyItemHasFault list rows items fault
