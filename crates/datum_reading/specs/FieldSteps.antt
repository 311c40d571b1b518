-- Reading a record's fields one after the other, as a loop does.
use Rattle.std.proofs.Common.{◌≡◌, ℕ, ◌+◌, ◌<◌, ◌≤◌, List, [], ◌∷◌, ◌++◌, length, get_or, drop, Result, Ok, Err, sym}
use Rattle.std.proofs.Common.{ap, ◌∙◌}
use Rattle.std.proofs.lemmas.List.{drop_more, drop_all}
use Rattle.words.specs.Reading.{◌>>=◌}
use Rattle.schema_tree.specs.declared.schema.Field.{Field}
use Rattle.datum_reading.specs.declared.cursor.Cursor.{Cursor}
use Rattle.datum_tree.specs.declared.datum.Datum.{Datum}
use Rattle.datum_reading.specs.declared.refusal.DatumRefusal.{DatumRefusal}
use Rattle.datum_reading.specs.Reading.{fields_at, datum_at}
use Rattle.datum_reading.specs.Readers.{readers_of}

-- what reading fields answers
abbrev Answer : Type 0
Answer = Result (List Datum × Cursor) DatumRefusal

-- what the fields after one read, once that one is read
abbrev behind_field : List Field → ℕ → List Datum → List ℕ → Datum × Cursor → Answer
behind_field fields i before input read =
    fields_at (readers_of (drop (i + 1) fields)) (before ++ read.0 ∷ []) input read.1

-- a field, and those after it
by_field : (fields : List Field) (i : ℕ) (field : Field) (before : List Datum) (input : List ℕ) (at : Cursor)
    → i < length fields → field ≡ get_or fields i field
    → fields_at (readers_of (drop i fields)) before input at
    ≡ (datum_at field.schema input at >>= behind_field fields i before input)
unfolding fields_at
by_field fields i field before input at lt is =
    let left : drop i fields ≡ field ∷ drop (i + 1) fields =
    drop_more fields i field lt ∙ ap (λ (f : Field). f ∷ drop (i + 1) fields) (sym is) in
    ap (λ (fs : List Field). fields_at (readers_of fs) before input at) left

-- a field is refused
pub field_fails : (fields : List Field) (i : ℕ) (field : Field) (before : List Datum) (input : List ℕ) (at : Cursor)
    (e : DatumRefusal) (total : Answer) → i < length fields → field ≡ get_or fields i field
    → datum_at field.schema input at ≡ Err e
    → fields_at (readers_of (drop i fields)) before input at ≡ total → total ≡ Err e
field_fails fields i field before input at e total lt is refused so_far =
    sym so_far ∙ by_field fields i field before input at lt is
    ∙ ap (λ r. r >>= behind_field fields i before input) refused

-- a field is read, and others stand after it
pub fields_on : (fields : List Field) (i : ℕ) (field : Field) (before more : List Datum) (input : List ℕ)
    (at : Cursor) (value : Datum) (after : Cursor) (total : Answer) → i < length fields
    → field ≡ get_or fields i field
    → datum_at field.schema input at ≡ Ok (value, after) → more ≡ before ++ value ∷ []
    → fields_at (readers_of (drop i fields)) before input at ≡ total
    → fields_at (readers_of (drop (i + 1) fields)) more input after ≡ total
fields_on fields i field before more input at value after total lt is read grown so_far =
    ap (λ (xs : List Datum). fields_at (readers_of (drop (i + 1) fields)) xs input after) grown
    ∙ sym (by_field fields i field before input at lt is
    ∙ ap (λ r. r >>= behind_field fields i before input) read)
    ∙ so_far

-- no field is left
pub fields_end : (fields : List Field) (i : ℕ) (before : List Datum) (input : List ℕ) (at : Cursor) (total : Answer)
    → length fields ≤ i → fields_at (readers_of (drop i fields)) before input at ≡ total → total ≡ Ok (before, at)
unfolding fields_at
fields_end fields i before input at total le so_far =
    sym so_far ∙ ap (λ (fs : List Field). fields_at (readers_of fs) before input at) (drop_all i fields le)
