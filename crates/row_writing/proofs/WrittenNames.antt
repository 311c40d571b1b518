-- The names of the fields of a file that is written: each is one of Avro's, and none stands twice.
use Rattle.std.proofs.Common.{◌≡◌, ℕ, zero, suc, ◌<◌, ◌^◌, Bool, true, false, not, List, [], ◌∷◌, ◌++◌, map, get_or}
use Rattle.std.proofs.Common.{inl, inr, refl, arith}
use Rattle.std.specs.Prelude.{◌≢◌, ◌||◌, ◌&&◌, ℤ, pos, negsuc, ◌≤ℤ◌, codes}
use Rattle.std.specs.List.{All, AllPairs, list_all, list_any}
use Rattle.std.specs.Str.{bytes_eq}
use Rattle.std.specs.Fmt.{decimal, signed_decimal}
use Rattle.std.specs.Int.{IsInRange}
use Rattle.std.specs.Int.Signed.{mag}
use Rattle.std.proofs.lemmas.Bool.{cases_Bool, le-leb}
use Rattle.std.proofs.lemmas.Int.{ints}
use Rattle.std.proofs.lemmas.Fmt.{decimal_is_IsNumeral, signed_decimal_injective}
use Rattle.std.proofs.lemmas.Str.Parse.{digit_at}
use Rattle.std.proofs.lemmas.Slice.Eq.{bytes_eq-Decides}
use Rattle.std.proofs.lemmas.List.Elements.{All-nil, All-cons, All-head, All-tail, All-append, All-map, All-weaker}
use Rattle.std.proofs.lemmas.List.Elements.{All-from_get_or}
use Rattle.std.proofs.lemmas.List.Folds.{list_any_none}
use Rattle.std.proofs.lemmas.List.Sums.{AllPass-from_list_all, list_all-from_AllPass}
use Rattle.row_types.specs.declared.column.Column.{Column}
use Rattle.row_types.specs.Columns.{IsColumns}
use Rattle.avro_schema.specs.Printable.{begins_name, goes_on_name, is_avro_name, are_distinct}
use Rattle.row_writing.specs.Writing.{row_id_name, last_updated_name, is_plain_name, are_plain_names, field_name}

-- a name of Avro's that is not a lineage column's
record IsNamed (name : List ℕ) : Type 0 where
  avro : is_avro_name name ≡ true
  not_id : bytes_eq name row_id_name ≡ false
  not_last : bytes_eq name last_updated_name ≡ false

-- ---- plain names

-- three tests of a name
three : (a b c : Bool) → (a && not b && not c) ≡ true → (a ≡ true) × (b ≡ false) × (c ≡ false)
three true false false passed = (refl, refl, refl)
three true false true passed = absurd cc
three true true c passed = absurd cc
three false b c passed = absurd cc

-- a plain name is such a name
plain_named : (name : List ℕ) → is_plain_name name ≡ true → IsNamed name
plain_named name plain =
    let tests = three (is_avro_name name) (bytes_eq name row_id_name) (bytes_eq name last_updated_name) plain in
    record { avro = tests.0; not_id = tests.1; not_last = tests.2 }

-- ---- names of ids

-- a digit goes on a name
digit_goes_on : (byte : ℕ) → IsInRange 48 57 byte → goes_on_name byte ≡ true
digit_goes_on byte digit = rw (le-leb 48 byte digit.0, le-leb byte 57 digit.1) (or_true (begins_name byte))
  where
    or_true : (b : Bool) → (b || true) ≡ true
    or_true true = refl
    or_true false = refl

-- and so do all digits of a number
digits_go_on : (n : ℕ) → n < 2 ^ 64 → list_all goes_on_name (decimal n) ≡ true
digits_go_on n few =
    list_all-from_AllPass goes_on_name (decimal n)
    (All-weaker (IsInRange 48 57) (λ byte. goes_on_name byte ≡ true) digit_goes_on (decimal n)
    (All-from_get_or (IsInRange 48 57) (decimal n) 0 (λ i within. digit_at (decimal n) i (decimal_is_IsNumeral n few).0.1 within)))

-- a name of an id is such a name
numbered : (id : ℤ) → pos 1 ≤ℤ id → id ≤ℤ pos 2147483447 → IsNamed (codes "f" ++ signed_decimal id)
numbered (pos n) low high = record { avro = digits_go_on n (omega (arith, ints)); not_id = refl; not_last = refl }
numbered (negsuc n) low high = absurd (omega (arith, ints))

-- an id of a column is no large number
few_digits : (id : ℤ) → pos 1 ≤ℤ id → id ≤ℤ pos 2147483447 → mag id < 2 ^ 63
few_digits (pos n) low high = omega (arith, ints)
few_digits (negsuc n) low high = absurd (omega (arith, ints))

-- names of ids are the same where the ids are
same_number : (a b : ℤ) → mag a < 2 ^ 63 → mag b < 2 ^ 63 → codes "f" ++ signed_decimal a ≡ codes "f" ++ signed_decimal b → a ≡ b
same_number a b few_a few_b same = let digits : signed_decimal a ≡ signed_decimal b = cc in signed_decimal_injective a b few_a few_b digits

-- ---- the names of columns

-- each is such a name
columns_named : (plain : Bool) (columns : List Column) → are_plain_names columns ≡ plain → IsColumns columns → All (λ (column : Column). IsNamed (field_name plain column)) columns
columns_named true columns plain are k d within = plain_named (get_or columns k d).name (AllPass-from_list_all (λ (column : Column). is_plain_name column.name) columns plain k d within)
columns_named false columns plain are k d within = let low = are.ids k d within in numbered (get_or columns k d).id low.0 low.1

-- no two are the same
columns_differ : (plain : Bool) (columns : List Column) → IsColumns columns → AllPairs (λ (a b : Column). field_name plain a ≢ field_name plain b) columns
columns_differ true columns are i j d lt within same = are.distinct_names i j d lt within same
columns_differ false columns are i j d lt within same =
    let one = are.ids i d (omega arith) in
    let other = are.ids j d within in
    let a = (get_or columns i d).id in
    let b = (get_or columns j d).id in
    are.distinct_ids i j d lt within (same_number a b (few_digits a one.0 one.1) (few_digits b other.0 other.1) same)

-- ---- the names of all fields

-- the names of the lineage columns, where they are written
abbrev pub lineage_names : Bool → List (List ℕ)
lineage_names false = []
lineage_names true = row_id_name ∷ last_updated_name ∷ []

-- the names of a file's fields
abbrev pub written_names : Bool → List Column → Bool → List (List ℕ)
written_names plain columns lineage = map (field_name plain) columns ++ lineage_names lineage

-- names that differ are found to
found_to_differ : (a b : List ℕ) → a ≢ b → bytes_eq a b ≡ false
found_to_differ a b differ =
    elim (cases_Bool (bytes_eq a b)) [
      | inl same ↦ absurd (differ ((bytes_eq-Decides a b).0 same))
      | inr right ↦ right
    ]

-- a name is no lineage column's
no_lineage_name : (lineage : Bool) (name : List ℕ) → IsNamed name → All (λ (other : List ℕ). bytes_eq name other ≡ false) (lineage_names lineage)
no_lineage_name false name named = All-nil (λ (other : List ℕ). bytes_eq name other ≡ false)
no_lineage_name true name named =
    All-cons (λ (other : List ℕ). bytes_eq name other ≡ false) row_id_name (last_updated_name ∷ []) named.not_id
    (All-cons (λ (other : List ℕ). bytes_eq name other ≡ false) last_updated_name [] named.not_last (All-nil (λ (other : List ℕ). bytes_eq name other ≡ false)))

-- all are names of Avro's
all_avro : (plain : Bool) (columns : List Column) (lineage : Bool) → All (λ (column : Column). IsNamed (field_name plain column)) columns → list_all is_avro_name (written_names plain columns lineage) ≡ true
all_avro plain [] false named = refl
all_avro plain [] true named = refl
all_avro plain (column ∷ columns) lineage named =
    let first = (All-head (λ (column : Column). IsNamed (field_name plain column)) column columns named).avro in
    rw first (all_avro plain columns lineage (All-tail (λ (column : Column). IsNamed (field_name plain column)) column columns named))

-- and none stands twice
all_distinct : (plain : Bool) (columns : List Column) (lineage : Bool) → All (λ (column : Column). IsNamed (field_name plain column)) columns → AllPairs (λ (a b : Column). field_name plain a ≢ field_name plain b) columns
    → are_distinct (written_names plain columns lineage) ≡ true
all_distinct plain [] false named differ = refl
all_distinct plain [] true named differ = refl
all_distinct plain (column ∷ columns) lineage named differ =
    let name : List ℕ = field_name plain column in
    let others : All (λ (other : List ℕ). bytes_eq name other ≡ false) (map (field_name plain) columns) =
    All-map (λ (other : List ℕ). bytes_eq name other ≡ false) (field_name plain) columns (λ k d within. found_to_differ name (field_name plain (get_or columns k d)) (differ zero (suc k) d (omega arith) (omega arith))) in
    let none : list_any (bytes_eq name) (written_names plain columns lineage) ≡ false =
    list_any_none (bytes_eq name) (written_names plain columns lineage)
    (All-append (λ (other : List ℕ). bytes_eq name other ≡ false) (map (field_name plain) columns) (lineage_names lineage) others
    (no_lineage_name lineage name (All-head (λ (column : Column). IsNamed (field_name plain column)) column columns named))) in
    rw none (all_distinct plain columns lineage (All-tail (λ (column : Column). IsNamed (field_name plain column)) column columns named) (λ i j d lt within. differ (suc i) (suc j) d (omega arith) (omega arith)))

-- the names of a file that is written
pub record AreNamed (columns : List Column) (lineage : Bool) : Type 0 where
  pub avro : list_all is_avro_name (written_names (are_plain_names columns) columns lineage) ≡ true
  pub distinct : are_distinct (written_names (are_plain_names columns) columns lineage) ≡ true

-- they are so
pub are_named : (columns : List Column) (lineage : Bool) → IsColumns columns → AreNamed columns lineage
are_named columns lineage are =
    let named = columns_named (are_plain_names columns) columns refl are in
    record { avro = all_avro (are_plain_names columns) columns lineage named; distinct = all_distinct (are_plain_names columns) columns lineage named (columns_differ (are_plain_names columns) columns are) }
