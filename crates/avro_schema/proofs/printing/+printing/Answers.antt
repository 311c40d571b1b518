use Rattle.std.proofs.Common.{◌∷◌, [], ◌++◌, codes, ap, append_assoc, ◌∙◌}
use Rattle.json.specs.Token.{key, begin_object, end_object}
use Rattle.avro_schema.specs.Printing.{Written, written, written_of, written_field, text_member, id_member}
use Rattle.schema_tree.specs.Equations.{fold_rec, fold_map}
use Rattle.avro_schema.proofs.Puts.{put_then, wrote_last, puts_as}
use Rattle.avro_schema.proofs.printing.+printing.Goals as goal

pub put_record-returns-clause-tokens : goal.put_record-returns-clause-tokens
put_record-returns-clause-tokens t c =
    puts_as _ c.args.out.now c.end_object.new.self (ap (λ (w : Written). w.tokens) (fold_rec written_of written_field c.args.name.now c.args.fields.now))
    (put_then _ c.args.out.now c.begin_fields.new.out c.end_object.new.self _ _ c.in_ok-begin_fields.ensures
    (put_then _ c.begin_fields.new.out c.put_fields.new.out c.end_object.new.self _ _ c.in_ok-put_fields.ensures.tokens (wrote_last _ _ _ _ c.end_object.ensures)))

pub put_map-returns-clause-tokens : goal.put_map-returns-clause-tokens
put_map-returns-clause-tokens t c =
    let ids = id_member (codes "key-id") c.args.key_id ++ id_member (codes "value-id") c.args.value_id in
    puts_as _ c.args.out.now c.end_object.new.self
    (ap (λ (w : Written). w.tokens) (fold_map written_of written_field c.args.values.now c.args.key_id c.args.value_id)
    ∙ ap (λ l. begin_object ∷ (text_member (codes "type") (codes "map") ++ (key (codes "values") ∷ l)))
    (append_assoc (written c.args.values.now).tokens ids (end_object ∷ [])))
    (put_then _ c.args.out.now c.begin_values.new.out c.end_object.new.self _ _ c.in_ok-begin_values.ensures
    (put_then _ c.begin_values.new.out c.put_schema.new.out c.end_object.new.self _ _ c.in_ok-put_schema.ensures.tokens
    (put_then _ c.put_schema.new.out c.put_ids.new.out c.end_object.new.self _ _ c.in_ok-put_ids.ensures.tokens (wrote_last _ _ _ _ c.end_object.ensures))))
