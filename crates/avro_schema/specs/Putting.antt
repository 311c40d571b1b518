-- What the calls that put a part of a schema's text do to the writer of tokens.
use Rattle.std.specs.Prelude.{◌≡◌, List, ◌++◌, map, Result, OnOk}
use Rattle.json.specs.Token.{Token}
use Rattle.json.specs.Written as json
use Rattle.schema_tree.specs.declared.schema.Schema.{Schema}
use Rattle.schema_tree.specs.declared.schema.Schema.TheFolds.{fold-Field}
use Rattle.schema_tree.specs.declared.schema.Field.{Field}
use Rattle.avro_schema.specs.Printing.{Written, written_of, written_field, written, all_tokens}

-- the tokens stand after those that were there, and nothing else has changed
abbrev pub Puts : {E : Type 0} → Result (Unit {0}) E → json.Written → json.Written → List Token → Type 0
Puts result old new tokens = OnOk result ((new.before ≡ old.before) × (new.tokens ≡ old.tokens ++ tokens))

-- a field as it is written
abbrev pub field_written : Field → Written
field_written = fold-Field Written Written written_of written_field

-- the fields of a record, in their list
abbrev pub fields_tokens : List Field → List Token
fields_tokens fields = all_tokens (map field_written fields)

-- the branches of a union, in their list
abbrev pub branches_tokens : List Schema → List Token
branches_tokens branches = all_tokens (map written branches)
