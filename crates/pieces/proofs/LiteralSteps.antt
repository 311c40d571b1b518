-- The reading of a literal, one byte on.
use Rattle.std.proofs.Common.{◌≡◌, ℕ, ◌+◌, ◌<◌, ◌≤◌, ◌==◌, ◌||◌, true, false, List, [], ◌∷◌, ◌++◌, length, get_or}
use Rattle.std.proofs.Common.{drop, Some, None, Ok, Err, refl, arith, IsUtf8, IsCharBoundary}
use Rattle.std.proofs.lemmas.Bool.{not-true, not-false, or_parts, ne_eqb}
use Rattle.std.proofs.lemmas.List.{drop_more, drop_all}
use Rattle.std.proofs.lemmas.Str.{IsCharBoundary-after_ascii}
use Rattle.pieces.specs.declared.refusal.PieceRefusal.TheVariants.{Syntax}
use Rattle.pieces.specs.Literal.{rest_at, unescaped, is_never_raw}
use Rattle.pieces.specs.Word.{byte_at}
use Rattle.pieces.specs.Plain.{is_plain}
use Rattle.pieces.specs.WordLaws.{byte_stands}

-- at the end of the input no closing quote stands
pub at_end : (content input : List ℕ) (place : ℕ) → length input ≤ place → rest_at false content (drop place input) place ≡ Err (Syntax place)
unfolding rest_at
at_end content input place over = rw (drop_all place input over) refl

-- nor does a byte behind a backslash
pub behind_end : (content input : List ℕ) (place : ℕ) → length input ≤ place → rest_at true content (drop place input) place ≡ Err (Syntax place)
unfolding rest_at
behind_end content input place over = rw (drop_all place input over) refl

-- the closing quote
pub at_quote : (content input : List ℕ) (place : ℕ) → place < length input → get_or input place 0 ≡ 34 → rest_at false content (drop place input) place ≡ Ok (content, place + 1)
unfolding rest_at
at_quote content input place lt is = rw (drop_more input place 0 lt, is) refl

-- a backslash
pub at_backslash : (content input : List ℕ) (place : ℕ) → place < length input → get_or input place 0 ≡ 92 → rest_at false content (drop place input) place ≡ rest_at true content (drop (place + 1) input) (place + 1)
unfolding rest_at
at_backslash content input place lt is = rw (drop_more input place 0 lt, is) refl

-- a byte that is neither plain nor one of those two is never raw
never_raw : (byte : ℕ) → is_plain byte ≡ false → (byte ≡ 34 → ⊥) → (byte ≡ 92 → ⊥) → is_never_raw byte ≡ true
never_raw byte stops quote backslash = rw (ne_eqb byte 34 quote, ne_eqb byte 92 backslash) at (not-false (byte == 34 || byte == 92 || is_never_raw byte) stops)

-- such a byte
pub at_raw : (content input : List ℕ) (place : ℕ) → place < length input → is_plain (get_or input place 0) ≡ false → (get_or input place 0 ≡ 34 → ⊥) → (get_or input place 0 ≡ 92 → ⊥) → rest_at false content (drop place input) place ≡ Err (Syntax place)
unfolding rest_at
at_raw content input place lt stops quote backslash =
    rw (drop_more input place 0 lt, ne_eqb _ 34 quote, ne_eqb _ 92 backslash, never_raw (get_or input place 0) stops quote backslash) refl

-- a byte that stands for itself
pub at_plain : (content input : List ℕ) (place : ℕ) → place < length input → is_plain (get_or input place 0) ≡ true
    → rest_at false content (drop place input) place ≡ rest_at false (content ++ get_or input place 0 ∷ []) (drop (place + 1) input) (place + 1)
unfolding rest_at
at_plain content input place lt plain =
    let byte = get_or input place 0 in
    let none = not-true (byte == 34 || byte == 92 || is_never_raw byte) plain in
    let first = or_parts (byte == 34 || byte == 92) (is_never_raw byte) none in
    let second = or_parts (byte == 34) (byte == 92) first.0 in
    rw (drop_more input place 0 lt, second.0, second.1, first.1) refl

-- a byte behind a backslash that stands for another one
pub behind_known : (content input : List ℕ) (place other : ℕ) → place < length input → unescaped (get_or input place 0) ≡ Some other
    → rest_at true content (drop place input) place ≡ rest_at false (content ++ other ∷ []) (drop (place + 1) input) (place + 1)
unfolding rest_at
behind_known content input place other lt known = rw (drop_more input place 0 lt, known) refl

-- and one that stands for none
pub behind_unknown : (content input : List ℕ) (place : ℕ) → place < length input → unescaped (get_or input place 0) ≡ None → rest_at true content (drop place input) place ≡ Err (Syntax place)
unfolding rest_at
behind_unknown content input place lt unknown = rw (drop_more input place 0 lt, unknown) refl

-- both bytes of an escape are ASCII
pub unescaped_ascii : (byte other : ℕ) → unescaped byte ≡ Some other → (byte < 128) × (other < 128)
unescaped_ascii byte other known = (grind arith, grind arith)

-- ---- the byte before a literal's text

-- behind an ASCII byte the text may be cut
pub boundary_behind : (byte : ℕ) (input : List ℕ) (place after : ℕ) → IsUtf8 input → byte < 128 → byte_at byte input place ≡ Ok after → IsCharBoundary input after
boundary_behind byte input place after utf8 ascii taken =
    let stands = byte_stands byte input place after taken in
    rw stands.2 (IsCharBoundary-after_ascii input place utf8 stands.0 (rw stands.1 ascii))
