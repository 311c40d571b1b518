-- What a value is, if it is of that kind.
use Rattle.std.specs.Prelude.{ℕ, ℤ, Bool, true, false, List, [], Option, Some, None}
use Rattle.std.specs.Borrow.{Bor}
use Rattle.datum_tree.specs.declared.datum.Datum.{Datum}
use Rattle.datum_tree.specs.declared.datum.Datum.TheOpen.{Null, Flag, Num, Raw, Str, Branch, Rec, Array, Map}
use Rattle.datum_tree.specs.Value.{Level}

-- a boolean
abbrev pub flag_in : Level → Option Bool
flag_in (Flag flag) = Some flag
flag_in _ = None

-- a number
abbrev pub number_in : Level → Option ℤ
number_in (Num number) = Some number
number_in _ = None

-- bytes
abbrev pub raw_in : Level → Option (List ℕ)
raw_in (Raw bytes) = Some bytes
raw_in _ = None

-- a text
abbrev pub text_in : Level → Option (List ℕ)
text_in (Str text) = Some text
text_in _ = None

-- the values of a record's fields
abbrev pub fields_in : Level → Option (List Datum)
fields_in (Rec values) = Some values
fields_in _ = None

-- the items of an array
abbrev pub array_in : Level → Option (List Datum)
array_in (Array items) = Some items
array_in _ = None

-- the pairs of a map
abbrev pub pairs_in : Level → Option (List (List ℕ × Datum))
pairs_in (Map pairs) = Some pairs
pairs_in _ = None

-- the place of a branch, and the value of it
abbrev pub branch_in : Level → Option (ℕ × Datum)
branch_in (Branch place inside) = Some (place, inside)
branch_in _ = None

-- a branch that is borrowed
abbrev pub lent_branch : Option (ℕ × Bor Datum) → Option (ℕ × Datum)
lent_branch None = None
lent_branch (Some branch) = Some (branch.0, branch.1.now)

-- the null
abbrev pub is_null : Level → Bool
is_null Null = true
is_null _ = false

-- the bytes of what is there
abbrev pub text_if : {A : Type 0} → (A → List ℕ) → Option A → List ℕ
text_if text None = []
text_if text (Some x) = text x

-- whether what is there passes
abbrev pub test_if : {A : Type 0} → (A → Bool) → Option A → Bool
test_if test None = false
test_if test (Some x) = test x
