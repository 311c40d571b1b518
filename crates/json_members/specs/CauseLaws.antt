-- Each fault that a table of members finds has its cause.
use Rattle.std.proofs.Common.{◌≡◌, inl, inr, ℕ, zero, suc, List, [], ◌∷◌, Option, Some, None, Bool, true, false}
use Rattle.std.proofs.Common.{◌||◌, if◌then◌else◌, Err, refl, sym, subst, take, drop}
use Rattle.words.specs.Steps.{bind_refused}
use Rattle.serde_json.specs.Data.{Data, Items, no_items, item, Members}
use Rattle.serde_json.specs.Find.{get_member, as_object}
use Rattle.json_members.specs.declared.fault.Fault.{Fault}
use Rattle.json_members.specs.declared.fault.Fault.TheVariants.{Missing, Wrong, Memory}
use Rattle.json_members.specs.declared.rows.Need.{Need}
use Rattle.json_members.specs.declared.rows.Need.TheVariants.{Needed, MayBeAbsent, MayBeNull}
use Rattle.json_members.specs.declared.rows.Version.{Version}
use Rattle.json_members.specs.Cause.{HasFault, AnyHasFault, ItemHasFault, AnyItemHasFault}
use Rattle.json_members.specs.Form.{has_form}
use Rattle.json_members.specs.Rows.{Lookup, Row, takes_null, tested, absent_at, checked_by, is_in, of_version}
use Rattle.json_members.specs.Rows.{object_checked, item_checked, each_checked}
use Rattle.json_members.specs.RowLaws.{fine_if}

-- ---- one row

-- neither of two tests held, if the value is refused
neither : (name : List ℕ) (b c : Bool) (fault : Fault) → fine_if (b || c) name ≡ Err fault
    → (b ≡ false) × (c ≡ false) × (fault ≡ Wrong name)
neither name true c fault is = absurd cc
neither name false true fault is = absurd cc
neither name false false fault is = (refl, refl, cc)

absent_fault : (found : Lookup) (row : Row) (fault : Fault) (need : Need) → row.need ≡ need → found row.name ≡ None
    → absent_at need row.name ≡ Err fault → HasFault found row fault
absent_fault found row fault Needed needed absent is =
    let missing : fault ≡ Missing row.name = cc in
    subst (HasFault found row) (sym missing) (record { named = refl; needed = needed; absent = absent })
absent_fault found row fault MayBeAbsent needed absent is = absurd cc
absent_fault found row fault MayBeNull needed absent is = absurd cc

row_fault : (found : Lookup) (row : Row) (fault : Fault) (here : Option Data) → found row.name ≡ here
    → tested row here ≡ Err fault → HasFault found row fault
row_fault found row fault None here is = absent_fault found row fault row.need refl here is
row_fault found row fault (Some value) here is =
    let no = neither row.name (takes_null row.need value) (has_form row.form value) fault is in
    subst (HasFault found row) (sym no.2)
    (record { named = refl; value = value; here = here; set = no.0; other = no.1 })

-- ---- a table

-- the first fault of a table is one of its rows
pub table_fault : (found : Lookup) (rows : List Row) (fault : Fault) → checked_by found rows ≡ Err fault
    → AnyHasFault found rows fault
table_fault found [] fault is = absurd cc
table_fault found (row ∷ rows) fault is =
    bind_refused (tested row (found row.name)) (λ _. checked_by found rows) fault is
    (λ here. inl (row_fault found row fault (found row.name) refl here))
    (λ x _ rest. inr (table_fault found rows fault rest))

-- no row has the fault that memory ran out
pub no_memory : (found : Lookup) (rows : List Row) → AnyHasFault found rows Memory → ⊥
no_memory found [] h = h
no_memory found (row ∷ rows) (inl h) = h
no_memory found (row ∷ rows) (inr h) = no_memory found rows h

-- a fault of a row that a version may have, or of other rows
pub row_then : {P : Type 0} (found : Lookup) (row : Row) (rows : List Row) (b : Bool) (fault : Fault)
    → AnyHasFault found (if b then row ∷ rows else rows) fault → (b ≡ true → HasFault found row fault → P)
    → (AnyHasFault found rows fault → P) → P
row_then found row rows true fault (inl h) one other = one refl h
row_then found row rows true fault (inr h) one other = other h
row_then found row rows false fault h one other = other h

with_row : (found : Lookup) (row : Row) (rows : List Row) (b : Bool) (fault : Fault) → b ≡ true
    → HasFault found row fault → AnyHasFault found (if b then row ∷ rows else rows) fault
with_row found row rows true fault is h = inl h
with_row found row rows false fault is h = absurd cc

with_rows : (found : Lookup) (row : Row) (rows : List Row) (b : Bool) (fault : Fault) → AnyHasFault found rows fault
    → AnyHasFault found (if b then row ∷ rows else rows) fault
with_rows found row rows true fault h = inr h
with_rows found row rows false fault h = h

-- a fault of the first rows is one of all
first_fault : (found : Lookup) (version : Version) (count : ℕ) (rows : List Row) (fault : Fault)
    → AnyHasFault found (of_version version (take count rows)) fault → AnyHasFault found (of_version version rows) fault
first_fault found version zero [] fault h = absurd h
first_fault found version zero (row ∷ rows) fault h = absurd h
first_fault found version (suc count) [] fault h = absurd h
first_fault found version (suc count) (row ∷ rows) fault h =
    row_then found row (of_version version (take count rows)) (is_in version row) fault h
    (λ here at. with_row found row (of_version version rows) (is_in version row) fault here at)
    (λ rest. with_rows found row (of_version version rows) (is_in version row) fault
    (first_fault found version count rows fault rest))

-- a fault of the last rows is one of all
last_fault : (found : Lookup) (version : Version) (from : ℕ) (rows : List Row) (fault : Fault)
    → AnyHasFault found (of_version version (drop from rows)) fault → AnyHasFault found (of_version version rows) fault
last_fault found version zero rows fault h = h
last_fault found version (suc from) [] fault h = absurd h
last_fault found version (suc from) (row ∷ rows) fault h =
    with_rows found row (of_version version rows) (is_in version row) fault
    (last_fault found version from rows fault h)

-- a fault of so many rows from one on is one of all
pub part_fault : (found : Lookup) (version : Version) (from count : ℕ) (rows : List Row) (fault : Fault)
    → AnyHasFault found (of_version version (take count (drop from rows))) fault
    → AnyHasFault found (of_version version rows) fault
part_fault found version from count rows fault h =
    last_fault found version from rows fault (first_fault found version count (drop from rows) fault h)

-- ---- lists of objects

-- the first fault of a list of objects is one of its items
pub item_fault : (list : List ℕ) (rows : List Row) (item : Option Members) (fault : Fault)
    → object_checked list rows item ≡ Err fault → ItemHasFault list rows item fault
item_fault list rows None fault is = cc
item_fault list rows (Some members) fault is = table_fault (λ name. get_member name members) rows fault is

pub list_fault : (list : List ℕ) (rows : List Row) (items : Items) (fault : Fault)
    → each_checked list rows items ≡ Err fault → AnyItemHasFault list rows items fault
list_fault list rows no_items fault is = absurd cc
list_fault list rows (item value items) fault is =
    bind_refused (item_checked list rows value) (λ _. each_checked list rows items) fault is
    (λ here. inl (item_fault list rows (as_object value) fault here))
    (λ x _ rest. inr (list_fault list rows items fault rest))

-- no item has the fault that memory ran out
no_item_memory : (list : List ℕ) (rows : List Row) (item : Option Members) → ItemHasFault list rows item Memory → ⊥
no_item_memory list rows None is = absurd cc
no_item_memory list rows (Some members) h = no_memory (λ name. get_member name members) rows h

-- nor has any of a list
pub no_list_memory : (list : List ℕ) (rows : List Row) (items : Items) → AnyItemHasFault list rows items Memory → ⊥
no_list_memory list rows no_items h = h
no_list_memory list rows (item value items) (inl h) = no_item_memory list rows (as_object value) h
no_list_memory list rows (item value items) (inr h) = no_list_memory list rows items h
