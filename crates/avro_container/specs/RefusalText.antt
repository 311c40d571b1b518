-- The text of a refusal.
use Rattle.std.specs.Prelude.{ℕ, List, [], ◌++◌, codes, decimal}
use Rattle.pieces.specs.HexLiteral.{hex_text}
use Rattle.avro_container.specs.declared.refusal.ContainerRefusal.{ContainerRefusal}
use Rattle.avro_container.specs.declared.refusal.ContainerRefusal.TheVariants.{Limit, Magic, Header, Codec, Short}
use Rattle.avro_container.specs.declared.refusal.ContainerRefusal.TheVariants.{Form, Sync, Memory}

-- the variant's name, and then its field; a limit by the name of what is limited; nothing of memory
abbrev pub refusal_text : ContainerRefusal → List ℕ
refusal_text (Limit found) = codes "Object " ++ decimal found
refusal_text Magic = codes "Magic"
refusal_text (Header place) = codes "Header " ++ decimal place
refusal_text (Codec name) = codes "Codec " ++ hex_text name
refusal_text (Short place) = codes "Short " ++ decimal place
refusal_text (Form block) = codes "Form " ++ decimal block
refusal_text (Sync block) = codes "Sync " ++ decimal block
refusal_text Memory = []
