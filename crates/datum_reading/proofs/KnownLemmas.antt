-- A text that was checked is read again.
use Rattle.std.proofs.Common.{◌≡◌, ℕ, Bool, true, false, List, Result, Ok, Err, refl, subst}
use Rattle.std.specs.Prelude.{is_ok, if◌then◌else◌}
use Rattle.std.proofs.lemmas.Bool.{false≢true}
use Rattle.std.specs.Str.{is_utf8}
use Rattle.words.specs.Reading.{◌>>=◌}
use Rattle.datum_reading.specs.declared.cursor.Cursor.{Cursor}
use Rattle.datum_reading.specs.declared.refusal.DatumRefusal.{DatumRefusal}
use Rattle.datum_reading.specs.declared.refusal.DatumRefusal.TheVariants.{Utf8}
use Rattle.datum_reading.specs.Reading.{sized_at, text_at}

-- the test that was passed
passed_test : (test : Bool) (taken : List ℕ × Cursor) (refusal : DatumRefusal) → is_ok (if test then Ok taken else Err refusal) ≡ true → test ≡ true
passed_test true taken refusal known = refl
passed_test false taken refusal known = known

-- what is read once the bytes are there
abbrev tested : Cursor → Result (List ℕ × Cursor) DatumRefusal → Result (List ℕ × Cursor) DatumRefusal
tested at read = read >>= λ taken. if is_utf8 taken.0 then Ok taken else Err (Utf8 at.place)

-- its bytes are there
pub known_sized : (input : List ℕ) (at : Cursor) (refusal : DatumRefusal) → is_ok (text_at input at) ≡ true → sized_at input at ≡ Err refusal → ⊥
unfolding text_at
known_sized input at refusal known refused =
    let no : is_ok (tested at (Err refusal)) ≡ true = subst (λ (read : Result (List ℕ × Cursor) DatumRefusal). is_ok (tested at read) ≡ true) refused known in
    absurd (false≢true no)

-- and are UTF-8
pub known_utf8 : (input : List ℕ) (at : Cursor) (bytes : List ℕ) (after : Cursor) → is_ok (text_at input at) ≡ true → sized_at input at ≡ Ok (bytes, after) → is_utf8 bytes ≡ true
unfolding text_at
known_utf8 input at bytes after known sized =
    passed_test (is_utf8 bytes) (bytes, after) (Utf8 at.place) (subst (λ (read : Result (List ℕ × Cursor) DatumRefusal). is_ok (tested at read) ≡ true) sized known)

-- so they are what is read
pub known_text : (input : List ℕ) (at : Cursor) (bytes : List ℕ) (after : Cursor) → is_ok (text_at input at) ≡ true → sized_at input at ≡ Ok (bytes, after) → text_at input at ≡ Ok (bytes, after)
unfolding text_at
known_text input at bytes after known sized = rw (sized, known_utf8 input at bytes after known sized) refl
