-- When a text has a value.
use Rattle.std.proofs.Common.{◌≡◌, ℕ, List, if◌then◌else◌, Bool, true, false, Some, None, refl}
use Rattle.std.specs.Str.{is_utf8}
use Rattle.serde_json.specs.Data.{Data}
use Rattle.serde_json.specs.Read.{read}
use Rattle.json_members.specs.Parsing.{value_of}

-- a text in UTF-8 that is JSON has its value
pub value_of_json : (text : List ℕ) (value : Data) → is_utf8 text ≡ true → read text ≡ Some value
    → value_of text ≡ Some value
unfolding value_of
value_of_json text value utf8 json = rw (utf8, json) refl

-- a text that has a value is such a text
pub json_of_value : (text : List ℕ) (value : Data) → value_of text ≡ Some value
    → (is_utf8 text ≡ true) × (read text ≡ Some value)
unfolding value_of
json_of_value text value is = by_utf8 (is_utf8 text) refl is
  where
    by_utf8 : (b : Bool) → is_utf8 text ≡ b → (if b then read text else None) ≡ Some value
        → (is_utf8 text ≡ true) × (read text ≡ Some value)
    by_utf8 true utf8 is = (utf8, is)
    by_utf8 false utf8 is = absurd cc
