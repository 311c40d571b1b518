-- Refusals of a part, as those of the whole.
use Rattle.std.specs.Prelude.{ℕ, Bool, true, false, List, [], ◌∷◌, ◌++◌, Result, codes}
use Rattle.words.specs.Reading.{map_refusal}
use Rattle.avro_schema.specs.declared.refusal.SchemaRefusal.{SchemaRefusal}
use Rattle.avro_schema.specs.declared.refusal.SchemaRefusal.TheVariants.{NotJson, Form, Unknown, Nesting, Memory}

-- memory ran out, the one free answer
abbrev pub is_memory : SchemaRefusal → Bool
is_memory NotJson = false
is_memory (Form path) = false
is_memory (Unknown name) = false
is_memory Nesting = false
is_memory Memory = true

-- the path of a place, seen from the place that has it as this piece
abbrev pub behind_piece : List ℕ → List ℕ → List ℕ
behind_piece piece [] = piece
behind_piece piece (byte ∷ path) = piece ++ (codes "/" ++ (byte ∷ path))

-- a refusal of the piece, as one of what it is a piece of
abbrev pub refusal_under : List ℕ → SchemaRefusal → SchemaRefusal
refusal_under piece NotJson = NotJson
refusal_under piece (Form path) = Form (behind_piece piece path)
refusal_under piece (Unknown name) = Unknown name
refusal_under piece Nesting = Nesting
refusal_under piece Memory = Memory

-- what is read of the piece
abbrev pub under : {A : Type 0} → List ℕ → Result A SchemaRefusal → Result A SchemaRefusal
under piece read = map_refusal (refusal_under piece) read
