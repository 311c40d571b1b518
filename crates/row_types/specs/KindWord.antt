-- The words of the kinds.
use Rattle.std.specs.Prelude.{ℕ, zero, suc, List, [], ◌∷◌, codes}
use Rattle.row_types.specs.declared.column.Kind.{Kind}
use Rattle.row_types.specs.declared.column.Kind.TheVariants as kinds

-- the words of the kinds; of two that begin alike the longer one is looked for first
abbrev pub kind_words : List (List ℕ)
kind_words =
    codes "boolean" ∷ codes "int" ∷ codes "long" ∷ codes "date" ∷ codes "timestamptz" ∷ codes "timestamp"
    ∷ codes "time" ∷ codes "string" ∷ codes "binary" ∷ []

-- the kind of a word, by its place among them
abbrev pub kind_of_word : ℕ → Kind
kind_of_word zero = kinds.Boolean
kind_of_word (suc zero) = kinds.Int
kind_of_word (suc (suc zero)) = kinds.Long
kind_of_word (suc (suc (suc zero))) = kinds.Date
kind_of_word (suc (suc (suc (suc zero)))) = kinds.Timestamptz
kind_of_word (suc (suc (suc (suc (suc zero))))) = kinds.Timestamp
kind_of_word (suc (suc (suc (suc (suc (suc zero)))))) = kinds.Time
kind_of_word (suc (suc (suc (suc (suc (suc (suc zero))))))) = kinds.Text
kind_of_word (suc (suc (suc (suc (suc (suc (suc (suc index)))))))) = kinds.Bytes

-- the word of a kind
abbrev pub kind_text : Kind → List ℕ
kind_text kinds.Boolean = codes "boolean"
kind_text kinds.Int = codes "int"
kind_text kinds.Long = codes "long"
kind_text kinds.Date = codes "date"
kind_text kinds.Time = codes "time"
kind_text kinds.Timestamp = codes "timestamp"
kind_text kinds.Timestamptz = codes "timestamptz"
kind_text kinds.Text = codes "string"
kind_text kinds.Bytes = codes "binary"
