use Rattle.std.proofs.Common.{List, w64, rules, FitsSigned, ap, ap₂, ◌∙◌}
use Rattle.std.proofs.lemmas.Int.{to_z-of_z}
use Rattle.serde_json.specs.Find.{get_member}
use Rattle.serde_json.specs.View.{members_view}
use Rattle.json_members.specs.declared.rows.Version.{Version}
use Rattle.json_members.specs.Members.{without}
use Rattle.json_members.specs.Rows.{Row, field_names}
use Rattle.json_members.specs.Values.{number_since}
use Rattle.std.specs.Prelude.{codes}
use Rattle.metadata_reading.proofs.MetadataSteps.{record_is}
use Rattle.metadata_reading.proofs.metadata.record_of.Goals as goal

pub returns : goal.returns
returns c =
    let ms = members_view c.args.members.entries in
    let sequence_fits : FitsSigned w64 c.number_or_0-last_sequence.result = search rules in
    let updated_fits : FitsSigned w64 c.number_or_0-last_updated.result = search rules in
    let schema_fits : FitsSigned w64 c.number_or_0-schema_id.result = search rules in
    let spec_fits : FitsSigned w64 c.number_or_0-spec_id.result = search rules in
    let next = c.number_since-next_row_id.ensures
    ∙ ap (λ (v : Version). number_since v (get_member (codes "next-row-id") ms)) c.format_of.ensures in
    let rest = c.from_members.ensures ∙ c.leave_out_fields.ensures
    ∙ ap₂ (λ (v : Version) (rows : List Row). without (field_names v rows) ms) c.format_of-2.ensures c.members.ensures in
    simp to_z-of_z (record_is ms c.args.head c.args.location c.args.parts c.from_members.result _ _ _ _ _ _
    c.number_or_0-last_sequence.ensures c.number_or_0-last_updated.ensures c.number_or_0-schema_id.ensures
    c.number_or_0-spec_id.ensures next c.current_at-current.ensures rest)
