-- The kind that a type's word names. Iceberg spec, "Primitive Types".
use Rattle.std.specs.Prelude.{ℕ, List, [], ◌∷◌, Option, Some, None, if◌then◌else◌}
use Rattle.std.specs.Str.{bytes_eq}
use Rattle.row_types.specs.declared.column.Kind.{Kind}
use Rattle.row_types.specs.declared.column.Kind.TheVariants as kinds
use Rattle.row_types.specs.KindWord.{kind_text}

-- all kinds
abbrev pub all_kinds : List Kind
all_kinds =
    kinds.Boolean ∷ kinds.Int ∷ kinds.Long ∷ kinds.Date ∷ kinds.Time ∷ kinds.Timestamp ∷ kinds.Timestamptz ∷ kinds.Text
    ∷ kinds.Bytes ∷ []

-- the one of these whose word it is
abbrev pub kind_among : List Kind → List ℕ → Option Kind
kind_among [] word = None
kind_among (kind ∷ others) word = if bytes_eq (kind_text kind) word then Some kind else kind_among others word

abbrev pub kind_of : List ℕ → Option Kind
kind_of word = kind_among all_kinds word
