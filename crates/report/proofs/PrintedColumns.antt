-- The line of the columns that is printed is read as them.
use Rattle.std.proofs.Common.{◌≡◌, ◌≢◌, ℕ, ◌+◌, ◌<◌, ◌^◌, ℤ, pos, negsuc, ◌≤ℤ◌, Bool, true, false, codes, List, []}
use Rattle.std.proofs.Common.{◌∷◌, ◌++◌, length, take, drop, All, Some, None, Result, Ok, refl, sym, ap, ◌∙◌, arith}
use Rattle.std.proofs.Common.{append_assoc, length-append}
use Rattle.std.specs.Prelude.{slice_get}
use Rattle.std.specs.Fmt.{signed_decimal}
use Rattle.std.specs.List.{flat_map}
use Rattle.std.proofs.lemmas.Bool.{and_parts, lt-ltb, eq-eqb, ne_eqb}
use Rattle.std.proofs.lemmas.Int.{ints}
use Rattle.std.proofs.lemmas.List.{length-drop}
use Rattle.std.proofs.lemmas.List.Elements.{All-head, All-tail}
use Rattle.words.specs.Reading.{map_value}
use Rattle.row_types.specs.declared.column.Column.{Column}
use Rattle.row_types.specs.declared.column.Kind.{Kind}
use Rattle.row_types.specs.KindWord.{kind_words, kind_of_word, kind_text}
use Rattle.row_types.specs.Columns.{IsColumns}
use Rattle.row_types.specs.Fits.{is_int}
use Rattle.row_types.specs.ColumnsLaws.{columns_accepted}
use Rattle.row_types.specs.KindWordLaws.{apart, all_apart, has_word}
use Rattle.pieces.specs.declared.refusal.PieceRefusal.{PieceRefusal}
use Rattle.pieces.specs.Word.{spaces, one_of, gap_at}
use Rattle.pieces.specs.Literal.{literal_text}
use Rattle.pieces.specs.ManyLaws.{many_from_start}
use Rattle.pieces.specs.ChoiceLaws.{AllRefused, differ, all_differ, differ_refused, one_of_first}
use Rattle.words.specs.Parts.{behind_is}
use Rattle.pieces.specs.WordLaws.{byte_again, word_again, gap_again}
use Rattle.pieces.specs.NumberLaws.{no_digit_first, long_again, long_no_space}
use Rattle.pieces.specs.LiteralLaws.{literal_again}
use Rattle.row_types.specs.FitsLaws.{int_is_long}
use Rattle.report.specs.Schema.{null_words, id_at, kind_at, required_at, before_colon, named_at}
use Rattle.report.specs.Schema.{column_at, gap_or_end, columns_at, listed, schema_of}
use Rattle.report.specs.Printed.{required_text, column_text, next_column_text, schema_text}
use Rattle.report.proofs.SchemaLemmas.{item, ColumnsFrom, list_of, column_last, column_more}

-- ---- the parts of a column, with a colon behind them

-- a part is read with the colon behind it
colon_again : {X : Type 0} (x : X) (read : Result (X × ℕ) PieceRefusal) (part input rest : List ℕ) (place : ℕ) → drop place input ≡ part ++ 58 ∷ rest → read ≡ Ok (x, place + length part) → before_colon input read ≡ Ok (x, place + length part + 1)
colon_again x read part input rest place e is =
    let colon = byte_again 58 input rest (place + length part) (behind_is input place part (58 ∷ rest) e) in
    rw (is, colon) refl

-- what stands behind the colon
colon_behind : (part input rest : List ℕ) (place : ℕ) → drop place input ≡ part ++ 58 ∷ rest → drop (place + length part + 1) input ≡ rest
colon_behind part input rest place e = behind_is input (place + length part) (58 ∷ []) rest (behind_is input place part (58 ∷ rest) e)

-- words that differ from one with a colon behind it are refused there
others_refused : (words : List (List ℕ)) (word input rest : List ℕ) (place : ℕ) → all_differ words word ≡ true → drop place input ≡ word ++ rest → AllRefused input place words
others_refused [] word input rest place d e = tt
others_refused (other ∷ words) word input rest place d e =
    let parts = and_parts (differ other word) (all_differ words word) d in
    (differ_refused other word input rest place parts.0 e, others_refused words word input rest place parts.1 e)

-- a word with a colon behind it is read
word_before_colon : (words : List (List ℕ)) (k : ℕ) (word input rest : List ℕ) (place : ℕ) → slice_get words k ≡ Some word → all_differ (take k words) (word ++ 58 ∷ []) ≡ true → drop place input ≡ word ++ 58 ∷ rest → one_of words input place ≡ Ok (k, place + length word)
word_before_colon words k word input rest place is d e =
    let whole : drop place input ≡ (word ++ 58 ∷ []) ++ rest = e ∙ sym (append_assoc word (58 ∷ []) rest) in
    one_of_first words k word input place (place + length word) is (others_refused (take k words) (word ++ 58 ∷ []) input rest place d whole) (word_again word input (58 ∷ rest) place e)

-- a kind by its place among the words
kind_by : (k : ℕ) (kind : Kind) (input rest : List ℕ) (place : ℕ) → kind_of_word k ≡ kind
    → slice_get kind_words k ≡ Some (kind_text kind) → all_differ (take k kind_words)
    (kind_text kind ++ 58 ∷ []) ≡ true → drop place input ≡ kind_text kind ++ 58 ∷ rest
    → kind_at input place ≡ Ok (kind, place + length (kind_text kind))
kind_by k kind input rest place same is d e =
    ap (map_value (λ (word : ℕ × ℕ). (kind_of_word word.0, word.1))) (word_before_colon kind_words k (kind_text kind) input rest place is d e) ∙ ap (λ (one : Kind). Ok (one, place + length (kind_text kind))) same

-- texts that are apart differ
apart_differ : (text other : List ℕ) → apart text other ≡ differ text other
apart_differ [] other = refl
apart_differ (byte ∷ text) [] = refl
apart_differ (byte ∷ text) (first ∷ other) = rw (apart_differ text other) refl

-- so do several from one
all_apart_differ : (texts : List (List ℕ)) (other : List ℕ) → all_apart texts other ≡ all_differ texts other
all_apart_differ [] other = refl
all_apart_differ (text ∷ texts) other = rw (apart_differ text other, all_apart_differ texts other) refl

-- a kind is read
kind_again : (kind : Kind) (input rest : List ℕ) (place : ℕ) → drop place input ≡ kind_text kind ++ 58 ∷ rest → kind_at input place ≡ Ok (kind, place + length (kind_text kind))
kind_again kind input rest place e =
    let word = has_word kind in
    let others = take word.place kind_words in
    let differs = sym (all_apart_differ others (kind_text kind ++ 58 ∷ [])) ∙ word.first in
    kind_by word.place kind input rest place word.means word.stands differs e

-- whether a column is required is read
required_again : (required : Bool) (input rest : List ℕ) (place : ℕ) → drop place input ≡ required_text required ++ 58 ∷ rest → required_at input place ≡ Ok (required, place + length (required_text required))
required_again true input rest place e = rw (word_before_colon null_words 0 (codes "required") input rest place refl refl e) refl
required_again false input rest place e = rw (word_before_colon null_words 1 (codes "optional") input rest place refl refl e) refl

-- an id is read
id_again : (id : ℤ) (input rest : List ℕ) (place : ℕ) → is_int id ≡ true → drop place input ≡ signed_decimal id ++ 58 ∷ rest → id_at input place ≡ Ok (id, place + length (signed_decimal id))
id_again id input rest place fits e =
    rw (long_again id input (58 ∷ rest) place (int_is_long id fits) e (no_digit_first 58 rest refl), fits) refl

-- a name is read
named_again : (column : Column) (input rest : List ℕ) (place : ℕ) → drop place input ≡ literal_text column.name ++ rest → named_at input column.id column.kind column.required place ≡ Ok (column, place + length (literal_text column.name))
named_again column input rest place e = rw (literal_again column.name input rest place e) refl

-- ---- columns

-- a column is its parts
column_parts : (column : Column) (rest : List ℕ) → column_text column ++ rest ≡ signed_decimal column.id ++ 58 ∷ (kind_text column.kind ++ 58 ∷ (required_text column.required ++ 58 ∷ (literal_text column.name ++ rest)))
column_parts column rest =
    append_assoc (signed_decimal column.id) _ rest
    ∙ ap (λ (l : List ℕ). signed_decimal column.id ++ 58 ∷ l) (append_assoc (kind_text column.kind) _ rest
    ∙ ap (λ (l : List ℕ). kind_text column.kind ++ 58 ∷ l) (append_assoc (required_text column.required) _ rest))

-- how long they are
column_size : (id kind required name : List ℕ) (place : ℕ) → place + length id + 1 + length kind + 1 + length required + 1 + length name ≡ place + length (id ++ 58 ∷ (kind ++ 58 ∷ (required ++ 58 ∷ name)))
column_size id kind required name place =
    omega (arith, length-append id (58 ∷ (kind ++ 58 ∷ (required ++ 58 ∷ name))), length-append kind (58 ∷ (required ++ 58 ∷ name)), length-append required (58 ∷ name))

-- a column is read
pub column_again : (column : Column) (input rest : List ℕ) (place : ℕ) → is_int column.id ≡ true → drop place input ≡ column_text column ++ rest → column_at input place ≡ Ok (column, place + length (column_text column))
column_again column input rest place fits e =
    let id = signed_decimal column.id in
    let kind = kind_text column.kind in
    let required = required_text column.required in
    let name = literal_text column.name in
    let from_required = required ++ 58 ∷ (name ++ rest) in
    let from_kind = kind ++ 58 ∷ from_required in
    let whole : drop place input ≡ id ++ 58 ∷ from_kind = e ∙ column_parts column rest in
    let at_kind = colon_behind id input from_kind place whole in
    let at_required = colon_behind kind input from_required (place + length id + 1) at_kind in
    let at_name = colon_behind required input (name ++ rest) (place + length id + 1 + length kind + 1) at_required in
    let one = colon_again column.id (id_at input place) id input from_kind place whole (id_again column.id input from_kind place fits whole) in
    let two = colon_again column.kind (kind_at input (place + length id + 1)) kind input from_required (place + length id + 1) at_kind (kind_again column.kind input from_required (place + length id + 1) at_kind) in
    let three = colon_again column.required (required_at input (place + length id + 1 + length kind + 1)) required input (name ++ rest) (place + length id + 1 + length kind + 1) at_required (required_again column.required input (name ++ rest) (place + length id + 1 + length kind + 1) at_required) in
    let four = named_again column input rest (place + length id + 1 + length kind + 1 + length required + 1) at_name in
    rw (one, two, three, four, column_size id kind required name place) refl

-- a column doesn't begin with a space
column_no_space : (column : Column) (rest : List ℕ) → is_int column.id ≡ true → spaces (column_text column ++ rest) ≡ 0
column_no_space column rest fits = ap spaces (append_assoc (signed_decimal column.id) _ rest) ∙ long_no_space column.id _ (int_is_long column.id fits)

-- a line that is left reaches to its end
left_size : (line text : List ℕ) (at : ℕ) → 0 < length text → drop at line ≡ text → at + length text ≡ length line
left_size line text at some e = omega (arith, ap length e, length-drop at line)

-- a column is not empty
column_some : (column : Column) (rest : List ℕ) → 0 < length (column_text column ++ rest)
column_some column rest = omega (arith, ap length (column_parts column rest), length-append (signed_decimal column.id) (58 ∷ (kind_text column.kind ++ 58 ∷ (required_text column.required ++ 58 ∷ (literal_text column.name ++ rest)))))

-- at the end no column follows
none_next : (line : List ℕ) (at : ℕ) → at ≡ length line → Ok None ≡ gap_or_end line at
none_next line at end = rw (eq-eqb at (length line) end) refl

-- before it one does
some_next : (line : List ℕ) (at start : ℕ) → at < length line → gap_at line at ≡ Ok start → Ok (Some start) ≡ gap_or_end line at
some_next line at start before read =
    let other : at ≢ length line = omega arith in
    rw (ne_eqb at (length line) other, read) refl

-- columns are read, up to the end
columns_again : (others : List Column) (column : Column) (read : List Column) (line : List ℕ) (at : ℕ) (total : Result (List Column × ℕ) PieceRefusal) → ColumnsFrom line read at total → All (λ (one : Column). is_int one.id ≡ true) (column ∷ others)
    → drop at line ≡ column_text column ++ flat_map next_column_text others → list_of total ≡ Ok (read ++ column ∷ others)
columns_again [] column read line at total from fit e =
    let fits = All-head (λ (one : Column). is_int one.id ≡ true) column [] fit in
    let size = left_size line (column_text column ++ []) at (column_some column []) e in
    let after = at + length (column_text column) in
    let end : after ≡ length line = omega (arith, length-append (column_text column) []) in
    column_last line read (read ++ column ∷ []) at total column after from (omega arith) (column_again column line [] at fits e) (none_next line after end) refl
columns_again (other ∷ others) column read line at total from fit e =
    let fits = All-head (λ (one : Column). is_int one.id ≡ true) column (other ∷ others) fit in
    let fit_others = All-tail (λ (one : Column). is_int one.id ≡ true) column (other ∷ others) fit in
    let fits_other = All-head (λ (one : Column). is_int one.id ≡ true) other others fit_others in
    let more = column_text other ++ flat_map next_column_text others in
    let after = at + length (column_text column) in
    let size = left_size line (column_text column ++ 32 ∷ more) at (column_some column (32 ∷ more)) e in
    let parts = length-append (column_text column) (32 ∷ more) in
    let next : drop after line ≡ 32 ∷ more = behind_is line at (column_text column) (32 ∷ more) e in
    let gap = gap_again line more after next (column_no_space other (flat_map next_column_text others) fits_other) in
    let here : drop (after + 1) line ≡ more = behind_is line after (32 ∷ []) more next in
    let on = column_more line read (read ++ column ∷ []) at total column after (after + 1) from (omega arith) (column_again column line (32 ∷ more) at fits e) (some_next line after (after + 1) (omega arith) gap) (omega arith) refl in
    columns_again others other (read ++ column ∷ []) line (after + 1) total on fit_others here ∙ ap Ok (append_assoc read (column ∷ []) (other ∷ others))

-- ---- the line

-- an id of a table is of 32 bits
pub id_is_int : (id : ℤ) → pos 1 ≤ℤ id → id ≤ℤ pos 2147483447 → is_int id ≡ true
id_is_int (pos n) low high = lt-ltb n (2 ^ 31) (omega (arith, ints))
id_is_int (negsuc n) low high = absurd (omega (arith, ints))

-- the list of the line is read
listed_again : (column : Column) (others : List Column) → All (λ (one : Column). is_int one.id ≡ true) (column ∷ others) → listed (schema_text (column ∷ others)) ≡ Ok (column ∷ others)
listed_again column others fit =
    let fits = All-head (λ (one : Column). is_int one.id ≡ true) column others fit in
    let more = column_text column ++ flat_map next_column_text others in
    let line = schema_text (column ∷ others) in
    let word = word_again (codes "schema") line (32 ∷ more) 0 refl in
    let gap = gap_again line more 6 refl (column_no_space column (flat_map next_column_text others) fits) in
    let read = columns_again others column [] line 7 (columns_at line 7) (many_from_start (item line) (gap_or_end line) (length line) 7) fit refl in
    rw (word, gap) read

-- the columns of a table that are printed are read
pub schema_again : (columns : List Column) → IsColumns columns → schema_of (schema_text columns) ≡ Ok columns
unfolding schema_of
schema_again [] right = let some = right.some in absurd (omega arith)
schema_again (column ∷ others) right =
    let fit : All (λ (one : Column). is_int one.id ≡ true) (column ∷ others) = λ k d lt. id_is_int _ (right.ids k d lt).0 (right.ids k d lt).1 in
    rw (listed_again column others fit, columns_accepted (column ∷ others) right) refl
