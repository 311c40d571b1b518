-- Readers of different values that end at the same places.
use Rattle.std.proofs.Common.{◌≡◌, ℕ, zero, suc, ◌+◌, ◌-◌, ◌<◌, ℤ, pos, negsuc, true, false, Bool, List, [], ◌∷◌, ◌++◌, length, take, get_or, Option, Result, Ok, Err, refl, sym, ap, subst, ◌∙◌, ◌≤◌, arith}
use Rattle.std.specs.Prelude.{nat_lt, if◌then◌else◌}
use Rattle.std.proofs.lemmas.Bool.{le-ltb}
use Rattle.std.proofs.lemmas.List.{take_more, take_all}
use Rattle.std.proofs.lemmas.List.Elements.{all_zip_more}
use Rattle.words.specs.Reading.{◌>>=◌, map_value, repeated}
use Rattle.avro_wire.specs.Number.{long}
use Rattle.schema_tree.specs.declared.schema.Schema.{Schema}
use Rattle.schema_tree.specs.declared.schema.Schema.TheVariants as schemas
use Rattle.schema_tree.specs.declared.schema.Field.{Field}
use Rattle.datum_reading.specs.declared.cursor.Cursor.{Cursor}
use Rattle.datum_tree.specs.declared.datum.Datum.{Datum}
use Rattle.datum_tree.specs.declared.datum.Datum.TheVariants as datums
use Rattle.datum_reading.specs.declared.refusal.DatumRefusal.{DatumRefusal}
use Rattle.datum_reading.specs.Reading.{Reads, Reader, moved, raw_at, text_at, fields_at, pair_at, item_at, items_at, with_count, is_natural, number_from}
use Rattle.datum_reading.specs.Reading.{sized_block_at, block_at, blocks_at, all_at, branch_at, choice_at, datum_at}
use Rattle.datum_reading.specs.Readers.{readers_of, branch_readers, union_at, passed}
use Rattle.datum_reading.specs.Layers.{reads-Null, reads-Fixed, reads-Rec, reads-Array, reads-Map, reads-Union}
use Rattle.datum_reading.specs.Agreeing.{cursor_is}
use Rattle.datum_reading.specs.Compact.{IsPassedAs, ArePassedAs, EachIsPassedAs, TakesNothing, AddsField}

-- two readers end at the same places
abbrev IsSame : {A B : Type 0} → Reads A → Reads B → Type 0
IsSame item other = (input : List ℕ) (at : Cursor) → passed (item input at) ≡ passed (other input at)

-- what is read next, behind two that end at the same place
bind_same : {A B C D : Type 0} (read : Result (A × Cursor) DatumRefusal) (other : Result (B × Cursor) DatumRefusal)
    (f : A × Cursor → Result (C × Cursor) DatumRefusal) (g : B × Cursor → Result (D × Cursor) DatumRefusal) → passed read ≡ passed other
    → ((x : A) (y : B) (at : Cursor) → passed (f (x, at)) ≡ passed (g (y, at))) → passed (read >>= f) ≡ passed (other >>= g)
bind_same (Ok (x, a)) (Ok (y, b)) f g same next =
    let there : a ≡ b = cc in
    next x y a ∙ ap (λ (c : Cursor). passed (g (y, c))) there
bind_same (Ok (x, a)) (Err e) f g same next = absurd cc
bind_same (Err e) (Ok (y, b)) f g same next = absurd cc
bind_same (Err e) (Err d) f g same next = same

-- a value seen otherwise ends at the same place
view_same : {A B C D : Type 0} (f : A → C) (g : B → D) (read : Result (A × Cursor) DatumRefusal) (other : Result (B × Cursor) DatumRefusal)
    → passed read ≡ passed other → passed (map_value (λ read. (f read.0, read.1)) read) ≡ passed (map_value (λ read. (g read.0, read.1)) other)
view_same f g (Ok x) (Ok y) same = same
view_same f g (Ok x) (Err e) same = absurd cc
view_same f g (Err e) (Ok y) same = absurd cc
view_same f g (Err e) (Err d) same = same

-- behind a reading that both share
after_same : {X A B : Type 0} (read : Result X DatumRefusal) (f : X → Result (A × Cursor) DatumRefusal) (g : X → Result (B × Cursor) DatumRefusal)
    → ((x : X) → passed (f x) ≡ passed (g x)) → passed (read >>= f) ≡ passed (read >>= g)
after_same (Ok x) f g next = next x
after_same (Err e) f g next = refl

-- a choice by a test that both share
test_same : {A B : Type 0} (test : Bool) (r s : Result (A × Cursor) DatumRefusal) (t u : Result (B × Cursor) DatumRefusal)
    → passed r ≡ passed t → passed s ≡ passed u → passed (if test then r else s) ≡ passed (if test then t else u)
test_same true r s t u first second = first
test_same false r s t u first second = second

-- so many items
items_same : {A B : Type 0} (item : Reads A) (other : Reads B) → IsSame item other → (count : ℕ) (before : List A) (mine : List B) (input : List ℕ) (at : Cursor)
    → passed (items_at item count before input at) ≡ passed (items_at other count mine input at)
unfolding items_at
items_same item other same zero before mine input at = refl
items_same {A} {B} item other same (suc count) before mine input at =
    bind_same (map_value (λ read. (before ++ read.0 ∷ [], read.1)) (item input at)) (map_value (λ read. (mine ++ read.0 ∷ [], read.1)) (other input at))
    (repeated (item_at item input) count) (repeated (item_at other input) count)
    (view_same (λ (x : A). before ++ x ∷ []) (λ (y : B). mine ++ y ∷ []) (item input at) (other input at) (same input at))
    (λ x y place. items_same item other same count x y input place)

-- the size of a block is judged alike
size_same : {A B : Type 0} (size : ℤ) (from : ℕ) (place : ℕ) (read : Result (List A × Cursor) DatumRefusal) (other : Result (List B × Cursor) DatumRefusal) (e : DatumRefusal)
    → passed read ≡ passed other → passed (read >>= λ block. if is_natural size (block.1.place - from) then Ok block else Err e) ≡ passed (other >>= λ block. if is_natural size (block.1.place - from) then Ok block else Err e)
size_same {A} {B} size from place read other e same =
    bind_same read other _ _ same (λ x y at. test_same {A = List A} {B = List B} (is_natural size (at.place - from)) (Ok (x, at)) (Err e) (Ok (y, at)) (Err e) refl refl)

-- a block that tells its size
sized_same : {A B : Type 0} (item : Reads A) (other : Reads B) → IsSame item other → (count : ℕ) (before : List A) (mine : List B) (input : List ℕ) (at : Cursor)
    → passed (sized_block_at item count before input at) ≡ passed (sized_block_at other count mine input at)
unfolding sized_block_at
sized_same item other same count before mine input at =
    after_same (number_from long input at) _ _ (λ size. size_same size.0 size.1.place 0 _ _ _ (items_same item other same count before mine input size.1))

-- a block
block_same : {A B : Type 0} (item : Reads A) (other : Reads B) → IsSame item other → (place : ℕ) (before : List A) (mine : List B) (input : List ℕ) (count : ℤ × Cursor)
    → passed (block_at item place before input count) ≡ passed (block_at other place mine input count)
block_same item other same place before mine input (pos count, at) =
    after_same (with_count place count at) _ _ (λ behind. items_same item other same count before mine input behind)
block_same item other same place before mine input (negsuc count, at) =
    after_same (with_count place (suc count) at) _ _ (λ behind. sized_same item other same (suc count) before mine input behind)

-- blocks
blocks_same : {A B : Type 0} (item : Reads A) (other : Reads B) → IsSame item other → (tries : ℕ) (before : List A) (mine : List B) (input : List ℕ) (at : Cursor)
    → passed (blocks_at item tries before input at) ≡ passed (blocks_at other tries mine input at)
unfolding blocks_at
blocks_same item other same zero before mine input at = refl
blocks_same {A} {B} item other same (suc tries) before mine input at =
    after_same (number_from long input at) _ _ (λ count.
    test_same {A = List A} {B = List B} (is_natural count.0 0) (Ok (before, count.1)) _ (Ok (mine, count.1)) _ refl
    (bind_same (block_at item at.place before input count) (block_at other at.place mine input count) _ _ (block_same item other same at.place before mine input count)
    (λ x y place. blocks_same item other same tries x y input place)))

-- all items
pub all_same : {A B : Type 0} (item : Reads A) (other : Reads B) → IsSame item other → (input : List ℕ) (at : Cursor) → passed (all_at item input at) ≡ passed (all_at other input at)
all_same item other same input at = blocks_same item other same (suc (length input)) [] [] input at

-- a key and its value
pub pair_same : (value other : Reader) → IsSame value other → IsSame (pair_at value) (pair_at other)
pair_same value other same input at =
    after_same (text_at input at) _ _ (λ key. view_same (λ (x : Datum). (key.0, x)) (λ (x : Datum). (key.0, x)) (value input key.1) (other input key.1) (same input key.1))

-- a branch
branch_same : (branches others : List Schema) → EachIsPassedAs branches others → (number chosen : ℕ) (input : List ℕ) (at : Cursor)
    → passed (branch_at (branch_readers branches) number chosen input at) ≡ passed (branch_at (branch_readers others) number chosen input at)
unfolding branch_at
branch_same [] [] each number chosen input at = refl
branch_same [] (other ∷ others) each number chosen input at = absurd each
branch_same (branch ∷ branches) [] each number chosen input at = absurd each
branch_same (branch ∷ branches) (other ∷ others) each zero chosen input at =
    view_same (datums.Branch chosen) (datums.Branch chosen) (datum_at branch input at) (datum_at other input at) (each.0 input at)
branch_same (branch ∷ branches) (other ∷ others) each (suc number) chosen input at = branch_same branches others each.1 number chosen input at

-- there are as many branches
many_same : (branches others : List Schema) → EachIsPassedAs branches others → length branches ≡ length others
many_same [] [] each = refl
many_same [] (other ∷ others) each = absurd each
many_same (branch ∷ branches) [] each = absurd each
many_same (branch ∷ branches) (other ∷ others) each = ap suc (many_same branches others each.1)

-- the value of a union
pub union_same : (branches others : List Schema) → EachIsPassedAs branches others → (input : List ℕ) (at : Cursor) → passed (union_at branches input at) ≡ passed (union_at others input at)
union_same branches others each input at =
    after_same (choice_at (length branches) input at) _ _ (λ choice. branch_same branches others each choice.0 choice.0 input choice.1)
    ∙ ap (λ (n : ℕ). passed (choice_at n input at >>= λ choice. branch_at (branch_readers others) choice.0 choice.0 input choice.1)) (many_same branches others each)

-- a value, without what it is seen as
pub view_passed : {A B : Type 0} (view : A → B) (read : Result (A × Cursor) DatumRefusal) → passed (map_value (λ read. (view read.0, read.1)) read) ≡ passed read
view_passed view (Ok x) = refl
view_passed view (Err e) = refl

-- the last field, behind those before it
snoc_here : (field : Reader) (before : List Datum) (input : List ℕ) (at : Cursor) (read : Result (Datum × Cursor) DatumRefusal)
    → passed (read >>= λ read. fields_at [] (before ++ read.0 ∷ []) input read.1) ≡ passed read
unfolding fields_at
snoc_here field before input at (Ok x) = refl
snoc_here field before input at (Err e) = refl

snoc_next : (read : Result (Datum × Cursor) DatumRefusal) (f g : Datum × Cursor → Result (List Datum × Cursor) DatumRefusal) (last : Cursor → Result Cursor DatumRefusal)
    → ((x : Datum × Cursor) → passed (f x) ≡ (passed (g x) >>= last)) → passed (read >>= f) ≡ (passed (read >>= g) >>= last)
snoc_next (Ok x) f g last next = next x
snoc_next (Err e) f g last next = refl

fields_snoc : (fields : List Reader) (field : Reader) (before : List Datum) (input : List ℕ) (at : Cursor)
    → passed (fields_at (fields ++ field ∷ []) before input at) ≡ (passed (fields_at fields before input at) >>= λ behind. passed (field input behind))
unfolding fields_at
fields_snoc [] field before input at = snoc_here field before input at (field input at)
fields_snoc (first ∷ fields) field before input at =
    snoc_next (first input at) _ _ (λ behind. passed (field input behind)) (λ read. fields_snoc fields field (before ++ read.0 ∷ []) input read.1)

-- the readers of fields, and of one more
readers_snoc : (fields : List Field) (field : Field) → readers_of (fields ++ field ∷ []) ≡ readers_of fields ++ datum_at field.schema ∷ []
readers_snoc [] field = refl
readers_snoc (first ∷ fields) field = ap (λ (rs : List Reader). datum_at first.schema ∷ rs) (readers_snoc fields field)

-- a field behind others
pub one_more : (fields : List Field) (field : Field) (input : List ℕ) (at : Cursor)
    → passed (fields_at (readers_of (fields ++ field ∷ [])) [] input at) ≡ (passed (fields_at (readers_of fields) [] input at) >>= λ behind. passed (datum_at field.schema input behind))
one_more fields field input at =
    ap (λ (rs : List Reader). passed (fields_at rs [] input at)) (readers_snoc fields field) ∙ fields_snoc (readers_of fields) (datum_at field.schema) [] input at

-- what takes nothing may be left out
pub behind_nothing : (read : Result Cursor DatumRefusal) (next : Cursor → Result Cursor DatumRefusal) → ((behind : Cursor) → next behind ≡ Ok behind) → read ≡ (read >>= next)
behind_nothing (Ok at) next nothing = sym (nothing at)
behind_nothing (Err e) next nothing = refl

-- the same, behind what is the same
pub next_same : (read other : Result Cursor DatumRefusal) (f g : Cursor → Result Cursor DatumRefusal) → read ≡ other → ((behind : Cursor) → f behind ≡ g behind) → (read >>= f) ≡ (other >>= g)
next_same (Ok a) other f g same next = next a ∙ ap (λ (r : Result Cursor DatumRefusal). r >>= g) same
next_same (Err e) other f g same next = ap (λ (r : Result Cursor DatumRefusal). r >>= g) same

-- ---- schemas

pub rec_same : (name other : List ℕ) (fields others : List Field) → ArePassedAs fields others → IsPassedAs (schemas.Rec name fields) (schemas.Rec other others)
rec_same name other fields others same input at =
    ap passed (reads-Rec name fields input at) ∙ view_passed datums.Rec (fields_at (readers_of fields) [] input at)
    ∙ (same input at ∙ (sym (view_passed datums.Rec (fields_at (readers_of others) [] input at)) ∙ sym (ap passed (reads-Rec other others input at))))

pub array_same : (items others : Schema) (id : Option ℤ) (keyed : Bool) → IsPassedAs items others → IsPassedAs (schemas.Array items id keyed) (schemas.Array others id keyed)
array_same items others id keyed same input at =
    ap passed (reads-Array items id keyed input at) ∙ view_passed datums.Array (all_at (datum_at items) input at)
    ∙ (all_same (datum_at items) (datum_at others) same input at
    ∙ (sym (view_passed datums.Array (all_at (datum_at others) input at)) ∙ sym (ap passed (reads-Array others id keyed input at))))

pub map_same : (values others : Schema) (key value : Option ℤ) → IsPassedAs values others → IsPassedAs (schemas.Map values key value) (schemas.Map others key value)
map_same values others key value same input at =
    ap passed (reads-Map values key value input at) ∙ view_passed datums.Map (all_at (pair_at (datum_at values)) input at)
    ∙ (all_same (pair_at (datum_at values)) (pair_at (datum_at others)) (pair_same (datum_at values) (datum_at others) same) input at
    ∙ (sym (view_passed datums.Map (all_at (pair_at (datum_at others)) input at)) ∙ sym (ap passed (reads-Map others key value input at))))

-- the branches are those that the other ones were made of
pub union_as : (branches others : List Schema) → EachIsPassedAs others branches → IsPassedAs (schemas.Union branches) (schemas.Union others)
union_as branches others each input at =
    ap passed (reads-Union branches input at) ∙ (sym (union_same others branches each input at) ∙ sym (ap passed (reads-Union others input at)))

-- ---- types whose values take no bytes

pub null_nothing : TakesNothing schemas.Null
null_nothing input at = ap passed (reads-Null input at)

pub fixed_nothing : (name : List ℕ) (size : ℕ) → size ≡ 0 → TakesNothing (schemas.Fixed name size)
unfolding raw_at
fixed_nothing name size none input at =
    let fits : nat_lt (length input - at.place) 0 ≡ false = le-ltb (length input - at.place) 0 (omega arith) in
    let stays : moved at (at.place + 0) ≡ at = cursor_is (moved at (at.place + 0)) at (omega arith) refl in
    ap passed (reads-Fixed name size input at) ∙ (ap (λ (n : ℕ). passed (raw_at n input at)) none ∙ rw fits (ap (λ (c : Cursor). Ok c) stays))

pub rec_nothing : (name : List ℕ) (fields : List Field) → fields ≡ [] → TakesNothing (schemas.Rec name fields)
unfolding fields_at
rec_nothing name fields none input at =
    ap passed (reads-Rec name fields input at) ∙ (view_passed datums.Rec (fields_at (readers_of fields) [] input at)
    ∙ ap (λ (fs : List Field). passed (fields_at (readers_of fs) [] input at)) none)

-- ---- fields

-- one that takes nothing is left out
pub adds_nothing : (found : List Field) (schema : Schema) → TakesNothing schema → AddsField found found schema
adds_nothing found schema nothing = record { added = λ input at. behind_nothing (passed (fields_at (readers_of found) [] input at)) _ (λ behind. nothing input behind) }

-- another one goes behind those before it
pub adds_one : (found after : List Field) (field : Field) (schema : Schema) → after ≡ found ++ field ∷ [] → field.schema ≡ schema → AddsField found after schema
adds_one found after field schema grown is = record {
  added = λ input at. ap (λ (fs : List Field). passed (fields_at (readers_of fs) [] input at)) grown ∙ (one_more found field input at
      ∙ ap (λ (s : Schema). passed (fields_at (readers_of found) [] input at) >>= λ behind. passed (datum_at s input behind)) is);
}

-- one field more
pub fields_next : (found after fields : List Field) (place : ℕ) (field : Field) (schema : Schema) → place < length fields → field ≡ get_or fields place field
    → ArePassedAs found (take place fields) → IsPassedAs schema field.schema → AddsField found after schema → ArePassedAs after (take (place + 1) fields)
fields_next found after fields place field schema within is so_far same adds input at =
    let all : take (place + 1) fields ≡ take place fields ++ field ∷ [] = take_more fields place field within ∙ ap (λ (f : Field). take place fields ++ f ∷ []) (sym is) in
    adds.added input at
    ∙ (next_same _ _ _ _ (so_far input at) (λ behind. same input behind)
    ∙ (sym (one_more (take place fields) field input at) ∙ sym (ap (λ (fs : List Field). passed (fields_at (readers_of fs) [] input at)) all)))

-- ---- branches

-- one branch more
pub union_next : (items found after : List Schema) (place : ℕ) (branch made : Schema) → place < length items → branch ≡ get_or items place branch
    → EachIsPassedAs (take place items) found → IsPassedAs made branch → after ≡ found ++ made ∷ [] → EachIsPassedAs (take (place + 1) items) after
union_next items found after place branch made within is each same grown =
    subst (EachIsPassedAs (take (place + 1) items)) (sym grown) (all_zip_more IsPassedAs items found place branch made within is each (λ input at. sym (same input at)))

-- all branches
pub union_done : (items branches found made : List Schema) (place : ℕ) → length items ≤ place → items ≡ branches → made ≡ found → EachIsPassedAs (take place items) found → IsPassedAs (schemas.Union made) (schemas.Union branches)
union_done items branches found made place all are is each =
    let whole : EachIsPassedAs branches found = subst (λ (bs : List Schema). EachIsPassedAs bs found) (take_all place items all ∙ are) each in
    subst (λ (bs : List Schema). IsPassedAs (schemas.Union bs) (schemas.Union branches)) (sym is) (union_as found branches whole)
