use Rattle.std.proofs.Common.{List, ℕ, subst}
use Rattle.words.specs.Reading.{Gives}
use Rattle.json_members.specs.declared.rows.Version.{Version}
use Rattle.serde_json.specs.Find.{get_member}
use Rattle.serde_json.specs.View.{members_view}
use Rattle.metadata_reading.specs.Reading.{uuid_by}
use Rattle.metadata_reading.specs.Refusal.{is_memory}
use Rattle.metadata_reading.proofs.reading.uuid_at.Goals as goal

pub returns : goal.returns
returns c =
    let ms = members_view c.args.members.now.entries in
    record {
      exact = subst (λ (v : Version). Gives is_memory (λ (uuid : List ℕ). uuid) c.checked_uuid.result
          (uuid_by v (λ name. get_member name ms))) c.format_of.ensures c.checked_uuid.ensures.exact;
    }
