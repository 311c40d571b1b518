-- What holds of each kind of a value.
use Rattle.std.proofs.Common.{◌≡◌, ℕ, ℤ, Bool, true, false, List, Option, Some, None, ◌&&◌, refl, sym, subst, ◌∙◌}
use Rattle.datum_tree.specs.declared.datum.Datum.{Datum, out-Datum, roll-Datum, roll-out-Datum}
use Rattle.datum_tree.specs.declared.datum.Datum.TheOpen.{Null, Flag, Num, Raw, Str, Branch, Rec, Array, Map}
use Rattle.datum_tree.specs.declared.datum.Datum.TheVariants as datums
use Rattle.datum_tree.specs.Kinds.{flag_in, number_in, raw_in, text_in, fields_in, array_in, pairs_in, branch_in}
use Rattle.datum_tree.specs.Kinds.{is_null, test_if}
use Rattle.datum_tree.specs.Value.{Level}

-- what holds of each kind holds of every value
pub by_kind : (P : Level → Type 0) → P Null → ((flag : Bool) → P (Flag flag)) → ((number : ℤ) → P (Num number))
    → ((bytes : List ℕ) → P (Raw bytes)) → ((text : List ℕ) → P (Str text))
    → ((place : ℕ) (inside : Datum) → P (Branch place inside)) → ((values : List Datum) → P (Rec values))
    → ((items : List Datum) → P (Array items)) → ((pairs : List (List ℕ × Datum)) → P (Map pairs))
    → (level : Level) → P level
by_kind P null flag num raw str branch rec array map Null = null
by_kind P null flag num raw str branch rec array map (Flag x) = flag x
by_kind P null flag num raw str branch rec array map (Num x) = num x
by_kind P null flag num raw str branch rec array map (Raw x) = raw x
by_kind P null flag num raw str branch rec array map (Str x) = str x
by_kind P null flag num raw str branch rec array map (Branch x y) = branch x y
by_kind P null flag num raw str branch rec array map (Rec x) = rec x
by_kind P null flag num raw str branch rec array map (Array x) = array x
by_kind P null flag num raw str branch rec array map (Map x) = map x

-- what a value is, by what it is seen as
-- a boolean
flag_level : (level : Level) (x : Bool) → flag_in level ≡ Some x → roll-Datum level ≡ datums.Flag x
flag_level Null x seen = cc
flag_level (Flag y) x seen = let same : y ≡ x = cc in rw same (datums.rolls-Flag x)
flag_level (Num y) x seen = cc
flag_level (Raw y) x seen = cc
flag_level (Str y) x seen = cc
flag_level (Branch place inside) x seen = cc
flag_level (Rec y) x seen = cc
flag_level (Array y) x seen = cc
flag_level (Map y) x seen = cc

pub is_flag : (datum : Datum) (x : Bool) → flag_in (out-Datum datum) ≡ Some x → datum ≡ datums.Flag x
is_flag datum x seen = sym (roll-out-Datum datum) ∙ flag_level (out-Datum datum) x seen

-- a number
number_level : (level : Level) (x : ℤ) → number_in level ≡ Some x → roll-Datum level ≡ datums.Num x
number_level Null x seen = cc
number_level (Flag y) x seen = cc
number_level (Num y) x seen = let same : y ≡ x = cc in rw same (datums.rolls-Num x)
number_level (Raw y) x seen = cc
number_level (Str y) x seen = cc
number_level (Branch place inside) x seen = cc
number_level (Rec y) x seen = cc
number_level (Array y) x seen = cc
number_level (Map y) x seen = cc

pub is_number : (datum : Datum) (x : ℤ) → number_in (out-Datum datum) ≡ Some x → datum ≡ datums.Num x
is_number datum x seen = sym (roll-out-Datum datum) ∙ number_level (out-Datum datum) x seen

-- bytes
raw_level : (level : Level) (x : List ℕ) → raw_in level ≡ Some x → roll-Datum level ≡ datums.Raw x
raw_level Null x seen = cc
raw_level (Flag y) x seen = cc
raw_level (Num y) x seen = cc
raw_level (Raw y) x seen = let same : y ≡ x = cc in rw same (datums.rolls-Raw x)
raw_level (Str y) x seen = cc
raw_level (Branch place inside) x seen = cc
raw_level (Rec y) x seen = cc
raw_level (Array y) x seen = cc
raw_level (Map y) x seen = cc

pub is_raw : (datum : Datum) (x : List ℕ) → raw_in (out-Datum datum) ≡ Some x → datum ≡ datums.Raw x
is_raw datum x seen = sym (roll-out-Datum datum) ∙ raw_level (out-Datum datum) x seen

-- a text
text_level : (level : Level) (x : List ℕ) → text_in level ≡ Some x → roll-Datum level ≡ datums.Str x
text_level Null x seen = cc
text_level (Flag y) x seen = cc
text_level (Num y) x seen = cc
text_level (Raw y) x seen = cc
text_level (Str y) x seen = let same : y ≡ x = cc in rw same (datums.rolls-Str x)
text_level (Branch place inside) x seen = cc
text_level (Rec y) x seen = cc
text_level (Array y) x seen = cc
text_level (Map y) x seen = cc

pub is_text : (datum : Datum) (x : List ℕ) → text_in (out-Datum datum) ≡ Some x → datum ≡ datums.Str x
is_text datum x seen = sym (roll-out-Datum datum) ∙ text_level (out-Datum datum) x seen

-- a record
fields_level : (level : Level) (x : List Datum) → fields_in level ≡ Some x → roll-Datum level ≡ datums.Rec x
fields_level Null x seen = cc
fields_level (Flag y) x seen = cc
fields_level (Num y) x seen = cc
fields_level (Raw y) x seen = cc
fields_level (Str y) x seen = cc
fields_level (Branch place inside) x seen = cc
fields_level (Rec y) x seen = let same : y ≡ x = cc in rw same (datums.rolls-Rec x)
fields_level (Array y) x seen = cc
fields_level (Map y) x seen = cc

pub is_fields : (datum : Datum) (x : List Datum) → fields_in (out-Datum datum) ≡ Some x → datum ≡ datums.Rec x
is_fields datum x seen = sym (roll-out-Datum datum) ∙ fields_level (out-Datum datum) x seen

-- an array
array_level : (level : Level) (x : List Datum) → array_in level ≡ Some x → roll-Datum level ≡ datums.Array x
array_level Null x seen = cc
array_level (Flag y) x seen = cc
array_level (Num y) x seen = cc
array_level (Raw y) x seen = cc
array_level (Str y) x seen = cc
array_level (Branch place inside) x seen = cc
array_level (Rec y) x seen = cc
array_level (Array y) x seen = let same : y ≡ x = cc in rw same (datums.rolls-Array x)
array_level (Map y) x seen = cc

pub is_array : (datum : Datum) (x : List Datum) → array_in (out-Datum datum) ≡ Some x → datum ≡ datums.Array x
is_array datum x seen = sym (roll-out-Datum datum) ∙ array_level (out-Datum datum) x seen

-- a map
pairs_level : (level : Level) (x : List (List ℕ × Datum)) → pairs_in level ≡ Some x → roll-Datum level ≡ datums.Map x
pairs_level Null x seen = cc
pairs_level (Flag y) x seen = cc
pairs_level (Num y) x seen = cc
pairs_level (Raw y) x seen = cc
pairs_level (Str y) x seen = cc
pairs_level (Branch place inside) x seen = cc
pairs_level (Rec y) x seen = cc
pairs_level (Array y) x seen = cc
pairs_level (Map y) x seen = let same : y ≡ x = cc in rw same (datums.rolls-Map x)

pub is_pairs : (datum : Datum) (x : List (List ℕ × Datum)) → pairs_in (out-Datum datum) ≡ Some x → datum ≡ datums.Map x
is_pairs datum x seen = sym (roll-out-Datum datum) ∙ pairs_level (out-Datum datum) x seen

-- a branch
branch_level : (level : Level) (x : ℕ × Datum) → branch_in level ≡ Some x → roll-Datum level ≡ datums.Branch x.0 x.1
branch_level Null x seen = cc
branch_level (Flag y) x seen = cc
branch_level (Num y) x seen = cc
branch_level (Raw y) x seen = cc
branch_level (Str y) x seen = cc
branch_level (Branch place inside) x seen =
    let same : (place, inside) ≡ x = cc in subst
    (λ (b : ℕ × Datum). roll-Datum (Branch place inside) ≡ datums.Branch b.0 b.1) same
    (datums.rolls-Branch place inside)
branch_level (Rec y) x seen = cc
branch_level (Array y) x seen = cc
branch_level (Map y) x seen = cc

pub is_branch : (datum : Datum) (x : ℕ × Datum) → branch_in (out-Datum datum) ≡ Some x → datum ≡ datums.Branch x.0 x.1
is_branch datum x seen = sym (roll-out-Datum datum) ∙ branch_level (out-Datum datum) x seen

-- the null
null_level : (level : Level) → is_null level ≡ true → roll-Datum level ≡ datums.Null
null_level Null seen = datums.rolls-Null
null_level (Flag y) seen = cc
null_level (Num y) seen = cc
null_level (Raw y) seen = cc
null_level (Str y) seen = cc
null_level (Branch place inside) seen = cc
null_level (Rec y) seen = cc
null_level (Array y) seen = cc
null_level (Map y) seen = cc

pub is_null_value : (datum : Datum) → is_null (out-Datum datum) ≡ true → datum ≡ datums.Null
is_null_value datum seen = sym (roll-out-Datum datum) ∙ null_level (out-Datum datum) seen

-- the tests' answers differ
pub false_is_not_true : false ≡ true → ⊥
false_is_not_true h = cc

-- what is there and passes
pub record IsThere {A : Type 0} (test : A → Bool) (seen : Option A) : Type 0 where
  pub value : A
  pub is : seen ≡ Some value
  pub passes : test value ≡ true

-- a test that is passed was of something
pub there : {A : Type 0} (test : A → Bool) (seen : Option A) → test_if test seen ≡ true → IsThere test seen
there test None passed = absurd (false_is_not_true passed)
there test (Some x) passed = record { value = x; is = refl; passes = passed }

-- both of two tests
pub both : (a b : Bool) → (a && b) ≡ true → (a ≡ true) × (b ≡ true)
both true b passed = (refl, passed)
both false b passed = absurd (false_is_not_true passed)
