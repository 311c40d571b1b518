use Rattle.std.proofs.Common.{[], ◌∷◌, codes, ap, ◌∙◌}
use Rattle.serde_json.specs.View.{members_view}
use Rattle.json_members.specs.Members.{without}
use Rattle.json_members.specs.MemberLaws.{without_more}
use Rattle.metadata_changes.specs.Upgrade.{new_in_snapshots}
use Rattle.metadata_changes.proofs.upgrade.without_new.Goals as goal

pub returns : goal.returns
returns c =
    c.from_members.ensures ∙ c.take-2.ensures.left ∙ ap (without (codes "added-rows" ∷ [])) c.take.ensures.left
    ∙ without_more (codes "first-row-id") (codes "added-rows" ∷ []) (members_view c.in_ok-members.members.entries)
    ∙ ap (without new_in_snapshots) c.in_ok-members.ensures
