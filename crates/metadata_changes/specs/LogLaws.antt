-- The carried members that a change touches, one taken out after the other.
use Rattle.std.proofs.Common.{◌≡◌, ℕ, ℤ, List, [], ◌∷◌, ◌++◌, codes, refl, ap, ◌∙◌}
use Rattle.serde_json.specs.Data.{array, Items, item, Members, put}
use Rattle.serde_json.specs.Find.{get_member}
use Rattle.serde_json.specs.View.{view, items_view}
use Rattle.serde_json.specs.declared.value.Value.{Value}
use Rattle.json_members.specs.Form.{items_in}
use Rattle.json_members.specs.MemberLaws.{without_more, get_kept}
use Rattle.json_members.specs.Members.{without, with_fields}
use Rattle.metadata_changes.specs.Logs.{with_last, members_in, snapshot_entry, metadata_entry, with_main}
use Rattle.metadata_changes.specs.Commit.{touched, fields_of, changed_rest}
use Rattle.metadata_changes.specs.Upgrade.{upgraded_rest}

-- a value that is pushed is last
pub last_is : (vs : List Value) (v : Value) → items_view (vs ++ v ∷ []) ≡ with_last (items_view vs) (view v)
last_is [] v = refl
last_is (w ∷ vs) v = ap (item (view w)) (last_is vs v)

-- what is left after the three members of a commit are taken out
pub touched_left : (ms a b c : Members) → a ≡ without (codes "snapshot-log" ∷ []) ms
    → b ≡ without (codes "metadata-log" ∷ []) a → c ≡ without (codes "refs" ∷ []) b → c ≡ without touched ms
touched_left ms a b c first second third =
    third ∙ ap (without (codes "refs" ∷ [])) second ∙ without_more (codes "metadata-log") (codes "refs" ∷ []) a
    ∙ ap (without (codes "metadata-log" ∷ codes "refs" ∷ [])) first
    ∙ without_more (codes "snapshot-log") (codes "metadata-log" ∷ codes "refs" ∷ []) ms

-- the second one is found after the first one is taken out
pub second_found : (ms a : Members) → a ≡ without (codes "snapshot-log" ∷ []) ms
    → get_member (codes "metadata-log") a ≡ get_member (codes "metadata-log") ms
second_found ms a first =
    ap (get_member (codes "metadata-log")) first ∙ get_kept (codes "metadata-log") (codes "snapshot-log" ∷ []) ms refl

-- and the third one after both
pub third_found : (ms a b : Members) → a ≡ without (codes "snapshot-log" ∷ []) ms
    → b ≡ without (codes "metadata-log" ∷ []) a → get_member (codes "refs") b ≡ get_member (codes "refs") ms
third_found ms a b first second =
    ap (get_member (codes "refs")) second ∙ get_kept (codes "refs") (codes "metadata-log" ∷ []) a refl
    ∙ ap (get_member (codes "refs")) first ∙ get_kept (codes "refs") (codes "snapshot-log" ∷ []) ms refl

same_fields : (a a' b b' : Items) (r r' left left' : Members) → a ≡ a' → b ≡ b' → r ≡ r' → left ≡ left'
    → with_fields (fields_of a b r) left ≡ with_fields (fields_of a' b' r') left'
same_fields a a' b b' r r' left left' p q s t =
    ap (λ (items : Items). with_fields (fields_of items b r) left) p
    ∙ ap (λ (items : Items). with_fields (fields_of a' items r) left) q
    ∙ ap (λ (refs : Members). with_fields (fields_of a' b' refs) left) s ∙ ap (with_fields (fields_of a' b' r')) t

-- the three members, changed and put in again
pub rest_is : (path : List ℕ) (old id time : ℤ) (ms left after refs main : Members) (log files newer latest : Items)
    → log ≡ items_in (get_member (codes "snapshot-log") ms) → files ≡ items_in (get_member (codes "metadata-log") ms)
    → refs ≡ members_in (get_member (codes "refs") ms) → left ≡ without touched ms
    → newer ≡ with_last log (snapshot_entry id time) → latest ≡ with_last files (metadata_entry path old)
    → main ≡ with_main id refs → after ≡ with_fields (fields_of newer latest main) left
    → after ≡ changed_rest ms path old id time
rest_is path old id time ms left after refs main log files newer latest l f r out n e m changed =
    let log_is = n ∙ ap (λ (items : Items). with_last items (snapshot_entry id time)) l in
    let files_are = e ∙ ap (λ (items : Items). with_last items (metadata_entry path old)) f in
    let main_is = m ∙ ap (with_main id) r in
    changed ∙ same_fields newer _ latest _ main _ left _ log_is files_are main_is out

-- what is left after the two members of an upgrade are taken out
two_left : (ms a b : Members) → a ≡ without (codes "metadata-log" ∷ []) ms → b ≡ without (codes "next-row-id" ∷ []) a
    → b ≡ without (codes "metadata-log" ∷ codes "next-row-id" ∷ []) ms
two_left ms a b first second =
    second ∙ ap (without (codes "next-row-id" ∷ [])) first
    ∙ without_more (codes "metadata-log") (codes "next-row-id" ∷ []) ms

-- and the log, changed and put in again
pub upgraded_is : (path : List ℕ) (old : ℤ) (ms a left after : Members) (files latest : Items)
    → files ≡ items_in (get_member (codes "metadata-log") ms) → a ≡ without (codes "metadata-log" ∷ []) ms
    → left ≡ without (codes "next-row-id" ∷ []) a → latest ≡ with_last files (metadata_entry path old)
    → after ≡ put (codes "metadata-log") (array latest) left → after ≡ upgraded_rest ms path old
upgraded_is path old ms a left after files latest f first second e changed =
    let files_are = e ∙ ap (λ (items : Items). with_last items (metadata_entry path old)) f in
    changed ∙ ap (λ (items : Items). put (codes "metadata-log") (array items) left) files_are
    ∙ ap (put (codes "metadata-log") (array _)) (two_left ms a left first second)
