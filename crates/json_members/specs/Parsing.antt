-- The value of a JSON text. RFC 8259, as serde_json reads it.
use Rattle.std.specs.Prelude.{ℕ, List, Option, None, if◌then◌else◌}
use Rattle.std.specs.Str.{is_utf8}
use Rattle.serde_json.specs.Data.{Data}
use Rattle.serde_json.specs.Read.{read}

-- the value of a text in UTF-8 that is JSON
unfoldable pub value_of : List ℕ → Option Data
value_of text = if is_utf8 text then read text else None
