use Rattle.std.proofs.Common.{codes, rules, w64, SFits, ap, ◌∙◌}
use Rattle.std.proofs.lemmas.Int.{to_z-of_z}
use Rattle.serde_json.specs.Data.{Members}
use Rattle.serde_json.specs.Find.{get_member}
use Rattle.serde_json.specs.View.{view}
use Rattle.json_members.specs.Form.{items_in}
use Rattle.metadata_reading.specs.Schemas.{schema_of}
use Rattle.metadata_writing.specs.TextLaws.{schema_text_is}
use Rattle.metadata_writing.proofs.schema.schema_text.Goals as goal

pub returns-in_ok-to_vec-in-Some : goal.returns-in_ok-to_vec-in-Some
returns-in_ok-to_vec-in-Some c =
    let m = c.args.meta.now in
    let value = view c.in-Some.schema.now in
    let fits : SFits w64 m.schema_id = search rules in
    let found = simp to_z-of_z at c.in-Some.ensures in
    let items = c.items_at.ensures ∙ ap (λ (ms : Members). items_in (get_member (codes "schemas") ms)) c.members.ensures in
    record {
      text = λ h.
          c.from_vec.ensures ∙ schema_text_is m value c.in_ok-to_vec-in-Some.field-0.items h
          (found ∙ ap (schema_of m.schema_id) items) c.in_ok-to_vec-in-Some.ensures.text;
    }
