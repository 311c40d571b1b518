-- The text of a refusal.
use Rattle.std.specs.Prelude.{ℕ, List, [], ◌++◌, codes}
use Rattle.pieces.specs.Literal.{literal_text}
use Rattle.avro_schema.specs.declared.refusal.SchemaRefusal.{SchemaRefusal}
use Rattle.avro_schema.specs.declared.refusal.SchemaRefusal.TheVariants.{NotJson, Form, Unknown, Nesting, Memory}

-- the variant's name, and then its path or name between quotes; nothing of memory
abbrev pub refusal_text : SchemaRefusal → List ℕ
refusal_text NotJson = codes "NotJson"
refusal_text (Form path) = codes "Form " ++ literal_text path
refusal_text (Unknown name) = codes "Unknown " ++ literal_text name
refusal_text Nesting = codes "Nesting"
refusal_text Memory = []
