-- A law of the words of the kinds: each kind has one, that is read as it where a colon stands after it.
use Rattle.std.specs.Prelude.{◌≡◌, ℕ, ◌==◌, Bool, true, false, ◌&&◌, nat_lt, if◌then◌else◌, List, [], ◌∷◌, ◌++◌, Some}
use Rattle.std.specs.Prelude.{codes, slice_get, take}
use Rattle.std.specs.List.{list_all}
use Rattle.std.proofs.Common.{refl}
use Rattle.row_types.specs.declared.column.Kind.{Kind}
use Rattle.row_types.specs.declared.column.Kind.TheVariants as kinds
use Rattle.row_types.specs.KindWord.{kind_words, kind_of_word, kind_text}

-- two texts have different bytes at a place that both have, so neither is a front of the other
abbrev pub apart : List ℕ → List ℕ → Bool
apart [] other = false
apart (byte ∷ text) [] = false
apart (byte ∷ text) (first ∷ other) = if first == byte then apart text other else true

-- each of the texts is apart from this one
abbrev pub all_apart : List (List ℕ) → List ℕ → Bool
all_apart [] other = true
all_apart (text ∷ texts) other = apart text other && all_apart texts other

-- a printed character of ASCII, other than the space
abbrev pub is_graphic : ℕ → Bool
is_graphic byte = nat_lt 32 byte && nat_lt byte 127

-- the kind has a word of such characters at a place among the words, and no word before it can be taken for it if a
-- colon stands after it
pub record HasWord (kind : Kind) : Type 0 where
  pub place : ℕ
  pub means : kind_of_word place ≡ kind
  pub stands : slice_get kind_words place ≡ Some (kind_text kind)
  pub first : all_apart (take place kind_words) (kind_text kind ++ codes ":") ≡ true
  pub graphic : list_all is_graphic (kind_text kind) ≡ true

-- each kind has such a word
pub has_word : (kind : Kind) → HasWord kind
has_word kinds.Boolean = record { place = 0; means = refl; stands = refl; first = refl; graphic = refl }
has_word kinds.Int = record { place = 1; means = refl; stands = refl; first = refl; graphic = refl }
has_word kinds.Long = record { place = 2; means = refl; stands = refl; first = refl; graphic = refl }
has_word kinds.Date = record { place = 3; means = refl; stands = refl; first = refl; graphic = refl }
has_word kinds.Timestamptz = record { place = 4; means = refl; stands = refl; first = refl; graphic = refl }
has_word kinds.Timestamp = record { place = 5; means = refl; stands = refl; first = refl; graphic = refl }
has_word kinds.Time = record { place = 6; means = refl; stands = refl; first = refl; graphic = refl }
has_word kinds.Text = record { place = 7; means = refl; stands = refl; first = refl; graphic = refl }
has_word kinds.Bytes = record { place = 8; means = refl; stands = refl; first = refl; graphic = refl }
