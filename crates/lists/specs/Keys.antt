-- Lists whose items have keys.
use Rattle.std.specs.Prelude.{◌≡◌, ◌≢◌, ℕ, Bool, List}
use Rattle.std.specs.List.{AllPairs, list_any}
use Rattle.std.specs.Str.{bytes_eq}

-- some item has the key
abbrev pub has_key : {A : Type 0} → (A → List ℕ) → List A → List ℕ → Bool
has_key key_of items key = list_any (λ item. bytes_eq (key_of item) key) items

-- no two items have one key
abbrev pub AreDistinctBy : {A : Type 0} → (A → List ℕ) → List A → Type 0
AreDistinctBy key_of items = AllPairs (λ item later. key_of item ≢ key_of later) items

-- a set has the keys of the items and no other key, and no two items have one key
pub record IsKeyed {A : Type 0} (key_of : A → List ℕ) (items : List A) (is_in : List ℕ → Bool) : Type 0 where
  pub known : (key : List ℕ) → is_in key ≡ has_key key_of items key
  pub distinct : AreDistinctBy key_of items
