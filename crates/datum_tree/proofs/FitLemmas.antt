-- How far a record's values fit, and which branch.
use Rattle.std.proofs.Common.{◌≡◌, ℕ, zero, suc, ◌+◌, ◌<◌, ◌≤◌, Bool, true, false, ◌&&◌, List, [], ◌∷◌, length, take}
use Rattle.std.proofs.Common.{map, get_or, refl, sym, ap, ◌∙◌, arith, add-one}
use Rattle.schema_tree.specs.declared.schema.Schema.{Schema}
use Rattle.schema_tree.specs.declared.schema.Field.{Field}
use Rattle.datum_tree.specs.declared.datum.Datum.{Datum}
use Rattle.datum_tree.specs.Fits.{fits_each, fits_branch, fits_schema, field_fits}
use Rattle.datum_tree.specs.KindLaws.{both}
use Rattle.datum_tree.specs.FitsEquations.{fits_field}

-- what fails fails with whatever else
and_false : (a : Bool) → (a && false) ≡ false
and_false true = refl
and_false false = refl

-- other than a value a field
pub fits_as_many : (fields : List Field) (values : List Datum) → (length fields ≡ length values → ⊥) → false ≡ fits_each (map field_fits fields) values
fits_as_many [] [] others = absurd (others refl)
fits_as_many [] (value ∷ values) others = refl
fits_as_many (field ∷ fields) [] others = refl
fits_as_many (field ∷ fields) (value ∷ values) others = rw (← fits_as_many fields values (λ same. others (ap suc same))) (sym (and_false (field_fits field value)))

-- a value that doesn't fit
pub fits_not : (fields : List Field) (values : List Datum) (i : ℕ) (field : Field) (value : Datum) → i < length fields → i < length values → value ≡ get_or values i value → fits_schema (get_or fields i field).schema value ≡ false
    → false ≡ fits_each (map field_fits fields) values
fits_not [] values i field value some_field some_value is fails = absurd (omega arith)
fits_not (f ∷ fields) [] i field value some_field some_value is fails = absurd (omega arith)
fits_not (f ∷ fields) (v ∷ values) zero field value some_field some_value is fails = let here : field_fits f v ≡ false = ap (field_fits f) (sym is) ∙ (fits_field f value ∙ fails) in rw here refl
fits_not (f ∷ fields) (v ∷ values) (suc i) field value some_field some_value is fails = rw (← fits_not fields values i field value (omega arith) (omega arith) is fails) (sym (and_false (field_fits f v)))

-- one more that does
each_fits : (fields : List Field) (values : List Datum) (i : ℕ) (field : Field) (value : Datum) → i < length fields → i < length values → value ≡ get_or values i value → fits_schema (get_or fields i field).schema value ≡ true
    → fits_each (take i (map field_fits fields)) (take i values) ≡ true → fits_each (take (suc i) (map field_fits fields)) (take (suc i) values) ≡ true
each_fits [] values i field value some_field some_value is passes before = absurd (omega arith)
each_fits (f ∷ fields) [] i field value some_field some_value is passes before = absurd (omega arith)
each_fits (f ∷ fields) (v ∷ values) zero field value some_field some_value is passes before = let here : field_fits f v ≡ true = ap (field_fits f) (sym is) ∙ (fits_field f value ∙ passes) in rw here refl
each_fits (f ∷ fields) (v ∷ values) (suc i) field value some_field some_value is passes before =
    let parts = both (field_fits f v) (fits_each (take i (map field_fits fields)) (take i values)) before in
    rw (parts.0, each_fits fields values i field value (omega arith) (omega arith) is passes parts.1) refl

pub fits_more : (fields : List Field) (values : List Datum) (i : ℕ) (field : Field) (value : Datum) → i < length fields → i < length values → value ≡ get_or values i value → fits_schema (get_or fields i field).schema value ≡ true
    → fits_each (take i (map field_fits fields)) (take i values) ≡ true → fits_each (take (i + 1) (map field_fits fields)) (take (i + 1) values) ≡ true
fits_more fields values i field value some_field some_value is passes before = rw add-one (each_fits fields values i field value some_field some_value is passes before)

-- the branch at the place
pub branch_fits : (branches : List Schema) (place : ℕ) (inside : Datum) (branch : Schema) → place < length branches → branch ≡ get_or branches place branch → fits_schema branch inside ≡ fits_branch (map fits_schema branches) place inside
branch_fits [] place inside branch some is = absurd (omega arith)
branch_fits (x ∷ branches) zero inside branch some is = ap (λ (s : Schema). fits_schema s inside) is
branch_fits (x ∷ branches) (suc place) inside branch some is = branch_fits branches place inside branch (omega arith) is

-- no branch stands there
pub no_branch_fits : (branches : List Schema) (place : ℕ) (inside : Datum) → length branches ≤ place → false ≡ fits_branch (map fits_schema branches) place inside
no_branch_fits [] place inside none = refl
no_branch_fits (x ∷ branches) zero inside none = absurd (omega arith)
no_branch_fits (x ∷ branches) (suc place) inside none = no_branch_fits branches place inside (omega arith)
