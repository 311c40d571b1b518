-- The first required field that is null, in the order of the table, found in the order of a record's fields.
use Rattle.std.specs.Prelude.{ℕ, zero, suc, ◌+◌, ◌==◌, Bool, false, ◌&&◌, List, [], ◌∷◌, length, Option, Some}
use Rattle.std.specs.Prelude.{None, Result, Ok, Err, slice_get, nat_lt, if◌then◌else◌}
use Rattle.row_types.specs.declared.cell.Cell.{Cell}
use Rattle.row_types.specs.CellRef.{is_null}
use Rattle.fields.specs.declared.wanted.Wanted.{Wanted}
use Rattle.fields.specs.declared.refusal.FieldRefusal.{FieldRefusal}
use Rattle.fields.specs.declared.refusal.FieldRefusal.TheVariants.{MissingField}

-- the place of the first required field whose source passes the test; after all if there is none
unfoldable pub first_of : (Option ℕ → Bool) → List Wanted → List (Option ℕ) → ℕ
first_of test [] sources = 0
first_of test (w ∷ wanted) [] = length (w ∷ wanted)
first_of test (w ∷ wanted) (source ∷ sources) =
    if w.required && test source then 0 else suc (first_of test wanted sources)

-- the source is the field at the place
abbrev pub is_at : ℕ → Option ℕ → Bool
is_at place None = false
is_at place (Some source) = source == place

-- the field is required, and its source is the field at the place
abbrev pub is_needed : ℕ → Wanted → Option ℕ → Bool
is_needed place w source = w.required && is_at place source

-- for each of `count` fields from a place on the first required field that it holds
unfoldable pub needed_from : List Wanted → List (Option ℕ) → ℕ → ℕ → List ℕ
needed_from wanted sources place zero = []
needed_from wanted sources place (suc many) =
    first_of (is_at place) wanted sources ∷ needed_from wanted sources (place + 1) many

-- the first required field that is null, once one field more is read
abbrev pub with_null : Bool → ℕ → ℕ → ℕ
with_null null needed first = if null && nat_lt needed first then needed else first

-- the same, once all these cells are read
unfoldable pub with_nulls : ℕ → List ℕ → List Cell → ℕ
with_nulls first [] cells = first
with_nulls first (n ∷ needed) [] = first
with_nulls first (n ∷ needed) (cell ∷ cells) = with_nulls (with_null (is_null cell) n first) needed cells

-- the required field at the place is refused; after all none is
abbrev pub refused_as : Option Wanted → Result (Unit {0}) FieldRefusal
refused_as None = Ok tt
refused_as (Some w) = Err (MissingField w.id)

abbrev pub refused_at : List Wanted → ℕ → Result (Unit {0}) FieldRefusal
refused_at wanted place = refused_as (slice_get wanted place)
