-- The operation that the summary of a snapshot names, in the members that are carried. Iceberg spec, "Snapshots".
use Rattle.std.specs.Prelude.{◌≡◌, ℕ, List, Option, Some, None, option_and_then, codes, refl}
use Rattle.serde_json.specs.Data.{string, object, Members, no_members, member}
use Rattle.serde_json.specs.Find.{get_member, as_object}
use Rattle.json_members.specs.Values.{text_in}

-- a summary that names this operation, and nothing else
abbrev pub of_operation : List ℕ → Members
of_operation operation =
    member (codes "summary") (object (member (codes "operation") (string operation) no_members)) no_members

-- the members of the summary, if there is one that is an object
abbrev pub summary : Members → Option Members
summary members = option_and_then as_object (get_member (codes "summary") members)

-- the text at `operation` in the members of a summary
abbrev pub operation_in : Option Members → Option (List ℕ)
operation_in None = None
operation_in (Some summary) = text_in (get_member (codes "operation") summary)

-- the operation, if the summary is an object and names one
abbrev pub operation : Members → Option (List ℕ)
operation members = operation_in (summary members)

-- the operation that is set is found
pub operation_again : (text : List ℕ) → operation (of_operation text) ≡ Some text
operation_again text = refl
