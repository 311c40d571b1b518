use Rattle.std.proofs.Common.{◌≡◌, ◌++◌, ◌∷◌, [], drop, map, true}
use Rattle.json.specs.Token.{end_array}
use Rattle.avro_schema.specs.Printing.{list_of}
use Rattle.schema_tree.specs.Ids.{all_true, has_ids, field_has_ids}
use Rattle.avro_schema.specs.Putting.{fields_tokens, branches_tokens}
use Rattle.avro_schema.proofs.printing.+printing.Given as goal

abbrev pub invariant-put_branches-loop-branch : goal.invariant-put_branches-loop-branch
invariant-put_branches-loop-branch l =
    (l.out.before ≡ l.fn.out.before)
    × (l.out.tokens ++ (branches_tokens (drop l.branch-index l.branch-items) ++ end_array ∷ []) ≡ l.fn.out.tokens ++ list_of (branches_tokens l.fn.branches))
    × (all_true (map has_ids (drop l.branch-index l.branch-items)) ≡ true → all_true (map has_ids l.fn.branches) ≡ true)

abbrev pub invariant-put_fields-loop-field : goal.invariant-put_fields-loop-field
invariant-put_fields-loop-field l =
    (l.out.before ≡ l.fn.out.before)
    × (l.out.tokens ++ (fields_tokens (drop l.field-index l.field-items) ++ end_array ∷ []) ≡ l.fn.out.tokens ++ list_of (fields_tokens l.fn.fields))
    × (all_true (map field_has_ids (drop l.field-index l.field-items)) ≡ true → all_true (map field_has_ids l.fn.fields) ≡ true)
