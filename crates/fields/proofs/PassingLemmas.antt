-- The first required field that is null, found in the order of a record's fields.
use Rattle.std.proofs.Common.{◌≡◌, ℕ, zero, suc, ◌+◌, ◌<◌, ◌≤◌, true, false, Bool, List, [], ◌∷◌, ◌++◌, length, map}
use Rattle.std.proofs.Common.{get_or, Result, Ok, Err, refl, sym, ap, ap₂, ◌∙◌, subst, inl, inr, arith, length-append}
use Rattle.std.specs.Prelude.{◌==◌, ◌&&◌, ◌||◌, nat_lt, if◌then◌else◌}
use Rattle.std.specs.declared.option.Option.{Option}
use Rattle.std.specs.declared.option.Option.TheVariants.{Some}
use Rattle.std.proofs.lemmas.List.{length-map}
use Rattle.std.proofs.lemmas.Bool.{cases_Bool, lt-ltb, ltb-true, le-ltb, ltb-false, eq-eqb, eqb-true}
use Rattle.std.proofs.lemmas.Bool.{false_from_ne_true, false≢true}
use Rattle.words.specs.Reading.{map_value}
use Rattle.words.specs.Steps.{ok_is, bind_then, map_then}
use Rattle.row_types.specs.declared.cell.Cell.{Cell}
use Rattle.row_types.specs.declared.cell.Cell.TheVariants as cells
use Rattle.row_types.specs.CellRef.{is_null}
use Rattle.schema_tree.specs.declared.schema.Schema.{Schema, out-Schema}
use Rattle.schema_tree.specs.declared.schema.Schema.TheOpen as types
use Rattle.schema_tree.specs.declared.schema.Schema.TheVariants as schemas
use Rattle.schema_tree.specs.declared.schema.Schema.TheViews.{roll-Schema, roll-out-Schema}
use Rattle.schema_tree.specs.declared.schema.Field.{Field}
use Rattle.datum_reading.specs.declared.cursor.Cursor.{Cursor}
use Rattle.datum_tree.specs.declared.datum.Datum.{Datum}
use Rattle.datum_reading.specs.declared.refusal.DatumRefusal.{DatumRefusal}
use Rattle.datum_reading.specs.Reading.{Reader, fields_at, datum_at}
use Rattle.datum_reading.specs.Readers.{passed}
use Rattle.fields.specs.declared.wanted.Wanted.{Wanted}
use Rattle.fields.specs.declared.refusal.FieldRefusal.{FieldRefusal}
use Rattle.fields.specs.declared.refusal.FieldRefusal.TheVariants.{MissingField}
use Rattle.avro_cells.specs.declared.form.Form.{Form}
use Rattle.avro_cells.specs.Kind.{Level}
use Rattle.avro_cells.specs.Form.{form_of}
use Rattle.fields.specs.declared.leaf.Leaf.{Leaf}
use Rattle.fields.specs.Flat.{Opens, leaves, leaf_readers}
use Rattle.fields.specs.Kept.{kept, kept_values}
use Rattle.fields.specs.Wanted.{fields_of_level, fields_of, opens, source, is_none, check_missing, check_nulls}
use Rattle.fields.specs.Nulls.{first_of, is_at, needed_from, with_null, with_nulls, refused_at}
use Rattle.fields.specs.Record.{datum_refusal, start, read_as, read_cells, field_as, null_as, value_as}
use Rattle.fields.specs.Record.{pick, place_in, first_as, passed_at}
use Rattle.fields.proofs.TakingLemmas.{read_more, IsPlaced, is_placed, record_as, record_right, record_null}
use Rattle.fields.proofs.TakingLemmas.{record_fails}

abbrev Test : Type 0
Test = Option ℕ → Bool

-- ---- the first of what passes a test

-- of tests that are the same
first_same : (f g : Test) → ((s : Option ℕ) → f s ≡ g s) → (wanted : List Wanted) (sources : List (Option ℕ)) → first_of f wanted sources ≡ first_of g wanted sources
unfolding first_of
first_same f g same [] sources = refl
first_same f g same (w ∷ wanted) [] = refl
first_same f g same (w ∷ wanted) (s ∷ sources) = ap₂ (λ (b : Bool) (n : ℕ). if w.required && b then 0 else suc n) (same s) (first_same f g same wanted sources)

-- of a test that nothing passes
first_never : (wanted : List Wanted) (sources : List (Option ℕ)) → first_of (λ s. false) wanted sources ≡ length wanted
unfolding first_of
first_never [] sources = refl
first_never (w ∷ wanted) [] = refl
first_never (w ∷ wanted) (s ∷ sources) = never_here w.required (first_of (λ s. false) wanted sources) ∙ ap suc (first_never wanted sources)
  where
    never_here : (r : Bool) (n : ℕ) → (if r && false then 0 else suc n) ≡ suc n
    never_here true n = refl
    never_here false n = refl

-- the lesser of a number and itself
lesser_same : (test : Bool) (n : ℕ) → n ≡ (if test then n else n)
lesser_same true n = refl
lesser_same false n = refl

lesser_suc : (test : Bool) (a b : ℕ) → suc (if test then a else b) ≡ (if test then suc a else suc b)
lesser_suc true a b = refl
lesser_suc false a b = refl

lt_suc : (a b : ℕ) → nat_lt a b ≡ nat_lt (suc a) (suc b)
lt_suc a b = elim (cases_Bool (nat_lt a b)) [
  | inl less ↦ less ∙ sym (lt-ltb (suc a) (suc b) (omega (arith, ltb-true a b less)))
  | inr more ↦ more ∙ sym (le-ltb (suc a) (suc b) (omega (arith, ltb-false a b more)))
]

-- the lesser of two numbers, and of those behind them
lesser_behind : (a b n : ℕ) → n ≡ with_null true a b → suc n ≡ with_null true (suc a) (suc b)
lesser_behind a b n is = ap suc is ∙ lesser_suc (nat_lt a b) a b ∙ ap (λ (t : Bool). if t then suc a else suc b) (lt_suc a b)

-- one source: of those that pass one of two tests
either_here : (r f g : Bool) (a b n : ℕ) → n ≡ with_null true a b
    → (if r && (f || g) then 0 else suc n) ≡ with_null true (if r && f then 0 else suc a) (if r && g then 0 else suc b)
either_here true true true a b n is = refl
either_here true true false a b n is = sym (ap (λ (t : Bool). if t then 0 else suc b) (lt-ltb 0 (suc b) (omega arith)))
either_here true false true a b n is = sym (ap (λ (t : Bool). if t then suc a else 0) (le-ltb (suc a) 0 (omega arith)))
either_here true false false a b n is = lesser_behind a b n is
either_here false f g a b n is = lesser_behind a b n is

-- of those that pass one of two tests
first_either : (f g : Test) (wanted : List Wanted) (sources : List (Option ℕ)) → first_of (λ s. f s || g s) wanted sources ≡ with_null true (first_of f wanted sources) (first_of g wanted sources)
unfolding first_of
first_either f g [] sources = refl
first_either f g (w ∷ wanted) [] = lesser_same (nat_lt (length (w ∷ wanted)) (length (w ∷ wanted))) (length (w ∷ wanted))
first_either f g (w ∷ wanted) (s ∷ sources) =
    either_here w.required (f s) (g s) (first_of f wanted sources) (first_of g wanted sources) (first_of (λ s. f s || g s) wanted sources) (first_either f g wanted sources)

-- ---- nulls

or_false : (b : Bool) → b ≡ (b || false)
or_false true = refl
or_false false = refl

or_swap : (a b : Bool) → (a || b) ≡ (b || (a && true))
or_swap true true = refl
or_swap true false = refl
or_swap false true = refl
or_swap false false = refl

or_none : (a b : Bool) → b ≡ (b || (a && false))
or_none true true = refl
or_none true false = refl
or_none false true = refl
or_none false false = refl

or_behind : (a b c : Bool) → ((a || b) || c) ≡ (a || (b || c))
or_behind true b c = refl
or_behind false b c = refl

-- one field more is read
one_more : (null : Bool) (place : ℕ) (before : Test) (wanted : List Wanted) (sources : List (Option ℕ))
    → with_null null (first_of (is_at place) wanted sources) (first_of before wanted sources) ≡ first_of (λ s. before s || (is_at place s && null)) wanted sources
one_more true place before wanted sources = sym (first_either (is_at place) before wanted sources) ∙ first_same _ _ (λ s. or_swap (is_at place s) (before s)) wanted sources
one_more false place before wanted sources = first_same _ _ (λ s. or_none (is_at place s) (before s)) wanted sources

-- the source is one of the cells, the first of which stands at the place, and it is null
unfoldable pub null_from : ℕ → List Cell → Option ℕ → Bool
null_from place [] source = false
null_from place (cell ∷ cells) source = (is_at place source && is_null cell) || null_from (place + 1) cells source

-- all fields are read
nulls_from : (before : Test) (read : List Cell) (place many : ℕ) (wanted : List Wanted) (sources : List (Option ℕ)) → length read ≤ many
    → with_nulls (first_of before wanted sources) (needed_from wanted sources place many) read ≡ first_of (λ s. before s || null_from place read s) wanted sources
unfolding with_nulls needed_from null_from
nulls_from before [] place zero wanted sources few = first_same _ _ (λ s. or_false (before s)) wanted sources
nulls_from before [] place (suc many) wanted sources few = first_same _ _ (λ s. or_false (before s)) wanted sources
nulls_from before (cell ∷ read) place zero wanted sources few = absurd (omega (arith, few))
nulls_from before (cell ∷ read) place (suc many) wanted sources few =
    ap (λ (n : ℕ). with_nulls n (needed_from wanted sources (place + 1) many) read) (one_more (is_null cell) place before wanted sources)
    ∙ nulls_from (λ s. before s || (is_at place s && is_null cell)) read (place + 1) many wanted sources (omega (arith, few))
    ∙ first_same _ _ (λ s. or_behind (before s) (is_at place s && is_null cell) (null_from (place + 1) read s)) wanted sources

-- all fields of a record are read
pub nulls_read : (read : List Cell) (many : ℕ) (wanted : List Wanted) (sources : List (Option ℕ)) → length read ≤ many
    → with_nulls (length wanted) (needed_from wanted sources 0 many) read ≡ first_of (null_from 0 read) wanted sources
nulls_read read many wanted sources few =
    ap (λ (n : ℕ). with_nulls n (needed_from wanted sources 0 many) read) (sym (first_never wanted sources))
    ∙ nulls_from (λ s. false) read 0 many wanted sources few

-- one cell more is null, or it is not
pub nulls_on : (first : ℕ) (needed : List ℕ) (read : List Cell) (cell : Cell) (d : ℕ) → length read < length needed
    → with_nulls first needed (read ++ cell ∷ []) ≡ with_null (is_null cell) (get_or needed (length read) d) (with_nulls first needed read)
unfolding with_nulls
nulls_on first [] read cell d few = absurd (omega (arith, few))
nulls_on first (n ∷ []) [] cell d few = refl
nulls_on first (n ∷ m ∷ needed) [] cell d few = refl
nulls_on first (n ∷ needed) (c ∷ read) cell d few = nulls_on (with_null (is_null c) n first) needed read cell d (omega (arith, few))

-- ---- cells that are picked

-- numbers that are the same, or not
here : (a b : ℕ) → b ≡ a → (b == a) ≡ true
here a b is = eq-eqb b a is

less_not : (a b : ℕ) → a < b → (a == b) ≡ false
less_not a b lt = false_from_ne_true (a == b) (λ same. omega (arith, lt, eqb-true a b same))

more_not : (a b : ℕ) → b < a → (a == b) ≡ false
more_not a b lt = false_from_ne_true (a == b) (λ same. omega (arith, lt, eqb-true a b same))

-- a place before all cells
null_before : (place source : ℕ) (read : List Cell) → source < place → null_from place read (Some source) ≡ false
unfolding null_from
null_before place source [] lt = refl
null_before place source (cell ∷ read) lt =
    rw (less_not source place lt) (null_before (place + 1) source read (omega (arith, lt)))

null_there : (read : List Cell) (place index : ℕ) → index < length read → null_from place read (Some (place + index)) ≡ is_null (get_or read index cells.Null)
unfolding null_from
null_there [] place index within = absurd (omega (arith, within))
null_there (cell ∷ read) place zero within =
    rw (here place (place + 0) (omega arith), null_before (place + 1) (place + 0) read (omega arith)) (sym (or_false (is_null cell)))
null_there (cell ∷ read) place (suc index) within =
    rw (more_not (place + suc index) place (omega arith))
    (next_there read place index (null_there read (place + 1) index (omega (arith, within))))
  where
    next_there : (read : List Cell) (place index : ℕ) → null_from (place + 1) read (Some (place + 1 + index)) ≡ is_null (get_or read index cells.Null)
        → null_from (place + 1) read (Some (place + suc index)) ≡ is_null (get_or read index cells.Null)
    next_there read place index there =
        let same : place + suc index ≡ place + 1 + index = omega arith in
        ap (λ (n : ℕ). null_from (place + 1) read (Some n)) same ∙ there

-- the cell of a source
source_null : (read : List Cell) (source : Option ℕ) → IsPlaced (length read) source → null_from 0 read source ≡ is_null (pick read source)
source_null read from at =
    let same : 0 + at.place ≡ at.place = omega arith in
    let there = subst (λ (n : ℕ). null_from 0 read (Some n) ≡ is_null (get_or read at.place cells.Null)) same (null_there read 0 at.place at.within) in
    rw at.is there

-- each required field has a source
abbrev pub Placed : ℕ → List Wanted → List (Option ℕ) → Type 0
Placed many [] sources = Unit {0}
Placed many (w ∷ wanted) [] = Unit {0}
Placed many (w ∷ wanted) (s ∷ sources) = (w.required ≡ true → IsPlaced many s) × Placed many wanted sources

-- one wanted field
check_one : (w : Wanted) (wanted : List Wanted) (others : List Cell) (cell : Cell) (test : Bool) (first : ℕ) (required : Bool) → w.required ≡ required → (required ≡ true → test ≡ is_null cell)
    → check_nulls wanted others ≡ refused_at wanted first → check_nulls (w ∷ wanted) (cell ∷ others) ≡ refused_at (w ∷ wanted) (if required && test then 0 else suc first)
unfolding check_nulls
check_one w wanted others cell test first false is same rest =
    ap (λ (b : Bool). if b && is_null cell then Err (MissingField w.id) else check_nulls wanted others) is ∙ rest
check_one w wanted others cell test first true is same rest =
    ap (λ (b : Bool). if b && is_null cell then Err (MissingField w.id) else check_nulls wanted others) is
    ∙ one_is w wanted others (is_null cell) first rest
    ∙ ap (λ (b : Bool). refused_at (w ∷ wanted) (if b then 0 else suc first)) (sym (same refl))
  where
    one_is : (w : Wanted) (wanted : List Wanted) (others : List Cell) (null : Bool) (first : ℕ) → check_nulls wanted others ≡ refused_at wanted first
        → (if null then Err (MissingField w.id) else check_nulls wanted others) ≡ refused_at (w ∷ wanted) (if null then 0 else suc first)
    one_is w wanted others true first rest = refl
    one_is w wanted others false first rest = rest

-- the first required field that is null is refused
pub check_first : (read : List Cell) (wanted : List Wanted) (sources : List (Option ℕ)) → length sources ≡ length wanted → Placed (length read) wanted sources
    → check_nulls wanted (map (pick read) sources) ≡ refused_at wanted (first_of (null_from 0 read) wanted sources)
unfolding check_nulls first_of
check_first read [] sources each placed = refl
check_first read (w ∷ wanted) [] each placed = absurd (omega (arith, each))
check_first read (w ∷ wanted) (s ∷ sources) each placed =
    check_one w wanted (map (pick read) sources) (pick read s) (null_from 0 read s) (first_of (null_from 0 read) wanted sources) w.required refl (λ required. source_null read s (placed.0 required))
    (check_first read wanted sources (omega (arith, each)) placed.1)

-- ---- what is there

there_first : (fields : List Leaf) (w : Wanted) (wanted : List Wanted) → check_missing fields (w ∷ wanted) ≡ Ok tt → (w.required ≡ true → is_none (source fields w) ≡ false) × (check_missing fields wanted ≡ Ok tt)
unfolding check_missing
there_first fields w wanted there = there_as (MissingField w.id) (check_missing fields wanted) w.required (is_none (source fields w)) there
  where
    there_as : (e : FieldRefusal) (rest : Result (Unit {0}) FieldRefusal) (required none : Bool) → (if required && none then Err e else rest) ≡ Ok tt → (required ≡ true → none ≡ false) × (rest ≡ Ok tt)
    there_as e rest true true is = absurd cc
    there_as e rest true false is = ((λ _. refl), is)
    there_as e rest false none is = ((λ wrong. absurd (false≢true wrong)), is)

pub all_placed : (fields : List Leaf) (wanted : List Wanted) → check_missing fields wanted ≡ Ok tt → Placed (length (kept fields)) wanted (map (place_in fields) wanted)
all_placed fields [] there = tt
all_placed fields (w ∷ wanted) there =
    let first = there_first fields w wanted there in
    ((λ required. is_placed fields w (first.0 required)), all_placed fields wanted first.1)

-- ---- a record

-- as many values are read as there are fields
fields_long : (readers : List Reader) (before : List Datum) (input : List ℕ) (at : Cursor) (read : List Datum × Cursor) → fields_at readers before input at ≡ Ok read → length read.0 ≡ length before + length readers
unfolding fields_at
fields_long [] before input at read is =
    let same = ok_is (before, at) read is in
    let none : length before ≡ length before + 0 = omega arith in
    sym (ap (λ (p : List Datum × Cursor). length p.0) same) ∙ none
fields_long (reader ∷ readers) before input at read is =
    bind_then (reader input at) _ read is (λ x _ rest.
    let inner = fields_long readers (before ++ x.0 ∷ []) input x.1 read rest in
    omega (arith, inner, length-append before (x.0 ∷ [])))

-- a cell for each field
cells_long : (fields : List Leaf) (values : List Datum) → length values ≡ length fields → length (read_cells fields values) ≡ length fields
unfolding read_cells
cells_long [] values same = refl
cells_long (field ∷ fields) [] same = absurd (omega (arith, same))
cells_long (field ∷ fields) (value ∷ values) same = ap suc (cells_long fields values (omega (arith, same)))

leaves_long : (fields : List Leaf) → length (leaf_readers fields) ≡ length fields
leaves_long [] = refl
leaves_long (field ∷ fields) = ap suc (leaves_long fields)

-- what reading a record answers
abbrev whole : Opens → Schema → List ℕ → Cursor → Result (List Cell × Cursor) DatumRefusal
whole opened schema input at = value_as opened (fields_of schema) (datum_at schema input at)

-- the cells of a record
wide_record : (opened : Opens) (schema : Schema) (name : List ℕ) (fields : List Field) (input : List ℕ) (at : Cursor) (read : List Cell) (after : Cursor) → schema ≡ schemas.Rec name fields → whole opened schema input at ≡ Ok (read, after)
    → length read ≡ length (kept (leaves opened (fields_of schema)))
wide_record opened schema name fields input at read after is got =
    let all = kept (leaves opened (fields_of schema)) in
    let as_fields = sym (record_as opened schema name fields input at is) ∙ got in
    map_then (λ (r : List Datum × Cursor). (read_cells all r.0, r.1)) (fields_at (leaf_readers all) [] input at) (read, after) as_fields (λ x was view.
    let long = fields_long (leaf_readers all) [] input at x was in
    sym (ap (λ (p : List Cell × Cursor). length p.0) view) ∙ cells_long all x.0 (omega (arith, long, leaves_long all)))

-- those of a value without fields
wide_none : (opened : Opens) (fields : List Field) (answer : Result (Datum × Cursor) DatumRefusal) (read : List Cell) (after : Cursor) → fields ≡ [] → value_as opened fields answer ≡ Ok (read, after) → length read ≡ length (kept (leaves opened fields))
unfolding read_cells kept kept_values
wide_none opened (field ∷ fields) answer read after none got = absurd cc
wide_none opened [] (Err e) read after none got = absurd cc
wide_none opened [] (Ok answer) read after none got =
    let same = ok_is ([], answer.1) (read, after) got in
    sym (ap (λ (p : List Cell × Cursor). length p.0) same)

-- there is a cell for each field whose values take bytes
wide_level : (opened : Opens) (schema : Schema) (level : Level) → out-Schema schema ≡ level → (input : List ℕ) (at : Cursor) (read : List Cell) (after : Cursor) → whole opened schema input at ≡ Ok (read, after)
    → length read ≡ length (kept (leaves opened (fields_of schema)))
wide_level opened schema (types.Rec name fields) is input at read after got = wide_record opened schema name fields input at read after (sym (roll-out-Schema schema) ∙ ap roll-Schema is ∙ schemas.rolls-Rec name fields) got
wide_level opened schema types.Null is input at read after got = wide_none opened (fields_of schema) (datum_at schema input at) read after (ap fields_of_level is) got
wide_level opened schema types.Boolean is input at read after got = wide_none opened (fields_of schema) (datum_at schema input at) read after (ap fields_of_level is) got
wide_level opened schema (types.Int l) is input at read after got = wide_none opened (fields_of schema) (datum_at schema input at) read after (ap fields_of_level is) got
wide_level opened schema (types.Long l) is input at read after got = wide_none opened (fields_of schema) (datum_at schema input at) read after (ap fields_of_level is) got
wide_level opened schema types.Float is input at read after got = wide_none opened (fields_of schema) (datum_at schema input at) read after (ap fields_of_level is) got
wide_level opened schema types.Double is input at read after got = wide_none opened (fields_of schema) (datum_at schema input at) read after (ap fields_of_level is) got
wide_level opened schema types.Raw is input at read after got = wide_none opened (fields_of schema) (datum_at schema input at) read after (ap fields_of_level is) got
wide_level opened schema types.Str is input at read after got = wide_none opened (fields_of schema) (datum_at schema input at) read after (ap fields_of_level is) got
wide_level opened schema (types.Fixed name size) is input at read after got = wide_none opened (fields_of schema) (datum_at schema input at) read after (ap fields_of_level is) got
wide_level opened schema (types.Enum name symbols) is input at read after got = wide_none opened (fields_of schema) (datum_at schema input at) read after (ap fields_of_level is) got
wide_level opened schema (types.Array items id keyed) is input at read after got = wide_none opened (fields_of schema) (datum_at schema input at) read after (ap fields_of_level is) got
wide_level opened schema (types.Map values key value) is input at read after got = wide_none opened (fields_of schema) (datum_at schema input at) read after (ap fields_of_level is) got
wide_level opened schema (types.Union branches) is input at read after got = wide_none opened (fields_of schema) (datum_at schema input at) read after (ap fields_of_level is) got

-- a record that is passed, and its cells
record ReadFirst (schema : Schema) (wanted : List Wanted) (sources : List (Option ℕ)) (input : List ℕ) (at : Cursor) (first : ℕ) (after : Cursor) : Type 0 where
  read : List Cell
  is : whole (opens wanted) schema input at ≡ Ok (read, after)
  same : check_nulls wanted (map (pick read) sources) ≡ refused_at wanted first

-- what is passed is read
first_read : (schema : Schema) (wanted : List Wanted) (sources : List (Option ℕ)) (needed : List ℕ) (many : ℕ) (input : List ℕ) (at : Cursor) (first : ℕ) (after : Cursor)
    → sources ≡ map (place_in (leaves (opens wanted) (fields_of schema))) wanted → needed ≡ needed_from wanted sources 0 many → many ≡ length (kept (leaves (opens wanted) (fields_of schema))) → check_missing (leaves (opens wanted) (fields_of schema)) wanted ≡ Ok tt
    → first_as (length wanted) needed (whole (opens wanted) schema input at) ≡ Ok (first, after) → ReadFirst schema wanted sources input at first after
first_read schema wanted sources needed many input at first after sources_are needed_are many_is there got =
    map_then (λ (r : List Cell × Cursor). (with_nulls (length wanted) needed r.0, r.1)) (whole (opens wanted) schema input at) (first, after) got (λ x was view.
    let behind : x.1 ≡ after = ap (λ (p : ℕ × Cursor). p.1) view in
    let wide : length x.0 ≡ many = wide_level (opens wanted) schema (out-Schema schema) refl input at x.0 x.1 was ∙ sym many_is in
    let found : with_nulls (length wanted) needed x.0 ≡ first = ap (λ (p : ℕ × Cursor). p.0) view in
    let nulls : first_of (null_from 0 x.0) wanted sources ≡ first =
    sym (ap (λ (ns : List ℕ). with_nulls (length wanted) ns x.0) needed_are ∙ nulls_read x.0 many wanted sources (omega (arith, wide))) ∙ found in
    let placed : Placed (length x.0) wanted sources =
    subst (λ (ss : List (Option ℕ)). Placed (length x.0) wanted ss) (sym sources_are) (subst (λ (n : ℕ). Placed n wanted (map (place_in (leaves (opens wanted) (fields_of schema))) wanted)) (sym (wide ∙ many_is)) (all_placed (leaves (opens wanted) (fields_of schema)) wanted there)) in
    let each : length sources ≡ length wanted = ap length sources_are ∙ length-map wanted (place_in (leaves (opens wanted) (fields_of schema))) in
    record {
      read = x.0;
      is = was ∙ ap (λ (c : Cursor). Ok (x.0, c)) behind;
      same = check_first x.0 wanted sources each placed ∙ ap (refused_at wanted) nulls;
    })

-- a record that is right
pub pass_right : (schema : Schema) (wanted : List Wanted) (sources : List (Option ℕ)) (needed : List ℕ) (many : ℕ) (input : List ℕ) (place first : ℕ) (after : Cursor)
    → sources ≡ map (place_in (leaves (opens wanted) (fields_of schema))) wanted → needed ≡ needed_from wanted sources 0 many → many ≡ length (kept (leaves (opens wanted) (fields_of schema))) → check_missing (leaves (opens wanted) (fields_of schema)) wanted ≡ Ok tt
    → first_as (length wanted) needed (whole (opens wanted) schema input (start place)) ≡ Ok (first, after) → refused_at wanted first ≡ Ok tt → passed_at schema wanted input place ≡ Ok after.place
pass_right schema wanted sources needed many input place first after sources_are needed_are many_is there got right =
    let r = first_read schema wanted sources needed many input (start place) first after sources_are needed_are many_is there got in
    ap (map_value (λ read. read.1)) (record_right schema wanted input place sources r.read (map (pick r.read) sources) after sources_are r.is refl (r.same ∙ right))

-- a record with a null where something is required
pub pass_null : (schema : Schema) (wanted : List Wanted) (sources : List (Option ℕ)) (needed : List ℕ) (many : ℕ) (input : List ℕ) (place first : ℕ) (after : Cursor) (e : FieldRefusal)
    → sources ≡ map (place_in (leaves (opens wanted) (fields_of schema))) wanted → needed ≡ needed_from wanted sources 0 many → many ≡ length (kept (leaves (opens wanted) (fields_of schema))) → check_missing (leaves (opens wanted) (fields_of schema)) wanted ≡ Ok tt
    → first_as (length wanted) needed (whole (opens wanted) schema input (start place)) ≡ Ok (first, after) → refused_at wanted first ≡ Err e → passed_at schema wanted input place ≡ Err e
pass_null schema wanted sources needed many input place first after e sources_are needed_are many_is there got wrong =
    let r = first_read schema wanted sources needed many input (start place) first after sources_are needed_are many_is there got in
    ap (map_value (λ read. read.1)) (record_null schema wanted input place sources r.read (map (pick r.read) sources) after e sources_are r.is refl (r.same ∙ wrong))

-- a value that is refused
first_refused : (none : ℕ) (needed : List ℕ) (read : Result (List Cell × Cursor) DatumRefusal) (e : DatumRefusal) → first_as none needed read ≡ Err e → read ≡ Err e
first_refused none needed (Ok read) e is = absurd cc
first_refused none needed (Err d) e is = cc

pub pass_fails : (schema : Schema) (wanted : List Wanted) (needed : List ℕ) (input : List ℕ) (place none : ℕ) (e : DatumRefusal)
    → first_as none needed (whole (opens wanted) schema input (start place)) ≡ Err e → passed_at schema wanted input place ≡ Err (datum_refusal e)
pass_fails schema wanted needed input place none e got =
    ap (map_value (λ read. read.1)) (record_fails schema wanted input place e (first_refused none needed (whole (opens wanted) schema input (start place)) e got))

-- a schema without fields has no nulls
pub none_first : (opened : Opens) (fields : List Field) (none : ℕ) (needed : List ℕ) (read : Result (Datum × Cursor) DatumRefusal) → fields ≡ [] → first_as none needed (value_as opened fields read) ≡ map_value (λ after. (none, after)) (passed read)
unfolding read_cells kept kept_values with_nulls
none_first opened [] none [] (Ok read) empty = refl
none_first opened [] none (n ∷ needed) (Ok read) empty = refl
none_first opened (field ∷ fields) none needed (Ok read) empty = absurd cc
none_first opened fields none needed (Err e) empty = refl

-- ---- fields, one behind the other

-- no cell is null
pub no_nulls : (first : ℕ) (needed : List ℕ) → with_nulls first needed [] ≡ first
unfolding with_nulls
no_nulls first [] = refl
no_nulls first (n ∷ needed) = refl

-- a cell for each value
cells_many : (fields : List Leaf) (values : List Datum) → length values ≤ length fields → length (read_cells fields values) ≡ length values
unfolding read_cells
cells_many [] [] few = refl
cells_many [] (value ∷ values) few = absurd (omega (arith, few))
cells_many (field ∷ fields) [] few = refl
cells_many (field ∷ fields) (value ∷ values) few = ap suc (cells_many fields values (omega (arith, few)))

-- one field more is read
pub null_on : (fields : List Leaf) (needed : List ℕ) (none place : ℕ) (before : List Datum) (value : Datum) (field : Leaf) (null : Bool) (first d : ℕ) → place < length fields → length needed ≡ length fields → length before ≡ place
    → field ≡ get_or fields place field → null ≡ is_null (read_as (form_of field.schema) value) → first ≡ with_nulls none needed (read_cells fields before)
    → with_null null (get_or needed place d) first ≡ with_nulls none needed (read_cells fields (before ++ value ∷ []))
null_on fields needed none place before value field null first d within wide count is null_is so_far =
    let here : field ≡ get_or fields (length before) field = is ∙ ap (λ (n : ℕ). get_or fields n field) (sym count) in
    let more = read_more fields before value field (omega (arith, within, count)) here in
    let many : length (read_cells fields before) ≡ place = cells_many fields before (omega (arith, within, count)) ∙ count in
    let step = nulls_on none needed (read_cells fields before) (read_as (form_of field.schema) value) d (omega (arith, many, within, wide)) in
    ap (λ (b : Bool). with_null b (get_or needed place d) first) null_is
    ∙ ap (λ (n : ℕ). with_null (is_null (read_as (form_of field.schema) value)) (get_or needed place d) n) so_far
    ∙ ap (λ (n : ℕ). with_null (is_null (read_as (form_of field.schema) value)) (get_or needed n d) (with_nulls none needed (read_cells fields before))) (sym many)
    ∙ sym step ∙ ap (with_nulls none needed) (sym more)

-- a value that was passed in a form
pub record PassedAs (form : Option Form) (read : Result (Datum × Cursor) DatumRefusal) (null : Bool) (after : Cursor) : Type 0 where
  pub value : Datum
  pub is : read ≡ Ok (value, after)
  pub null_is : null ≡ is_null (read_as form value)

pub was_passed : (form : Option Form) (read : Result (Datum × Cursor) DatumRefusal) (null : Bool) (after : Cursor) → null_as (field_as form read) ≡ Ok (null, after) → PassedAs form read null after
was_passed form (Ok (value, at)) null after is =
    let both = ok_is (is_null (read_as form value), at) (null, after) is in record {
      value = value;
      is = ap (λ (c : Cursor). Ok (value, c)) (ap (λ (p : Bool × Cursor). p.1) both);
      null_is = sym (ap (λ (p : Bool × Cursor). p.0) both);
    }
was_passed form (Err e) null after is = absurd cc

pub not_passed : (form : Option Form) (read : Result (Datum × Cursor) DatumRefusal) (e : DatumRefusal) → null_as (field_as form read) ≡ Err e → read ≡ Err e
not_passed form (Ok read) e is = absurd cc
not_passed form (Err d) e is = cc

-- ---- fields that are needed

-- there is one for each field
pub needed_many : (wanted : List Wanted) (sources : List (Option ℕ)) (place many : ℕ) → length (needed_from wanted sources place many) ≡ many
unfolding needed_from
needed_many wanted sources place zero = refl
needed_many wanted sources place (suc many) = ap suc (needed_many wanted sources (place + 1) many)
