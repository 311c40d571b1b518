-- The value of a text, by what the parser returns.
use Rattle.std.proofs.Common.{◌≡◌, ℕ, List, if◌then◌else◌, Bool, true, false, Some, None, IsUtf8, refl, sym}
use Rattle.std.proofs.lemmas.Str.{IsUtf8-from_is_utf8, is_utf8-from_IsUtf8}
use Rattle.std.specs.Str.{is_utf8}
use Rattle.serde_json.specs.Data.{Data}
use Rattle.serde_json.specs.Read.{read}
use Rattle.json_members.specs.Parsing.{value_of}
use Rattle.json_members.specs.ParseLaws.{value_of_json}

-- the parser found a value
pub value_found : (text : List ℕ) (value : Data) → IsUtf8 text → read text ≡ Some value → Some value ≡ value_of text
value_found text value utf8 is = sym (value_of_json text value (is_utf8-from_IsUtf8 text utf8) is)

-- the parser found none
pub no_value_found : (text : List ℕ) → (IsUtf8 text → read text ≡ None) → None ≡ value_of text
unfolding value_of
no_value_found text none = by_utf8 (is_utf8 text) (λ is. none (IsUtf8-from_is_utf8 text is))
  where
    by_utf8 : (b : Bool) → (b ≡ true → read text ≡ None) → None ≡ (if b then read text else None)
    by_utf8 true h = rw (h refl) refl
    by_utf8 false h = refl
