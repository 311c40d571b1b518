-- Steps of the loop that leaves out the members of fields.
use Rattle.std.proofs.Common.{◌≡◌, ℕ, ◌+◌, ◌<◌, ◌≤◌, List, [], ◌∷◌, length, get_or, drop, Bool, true, false}
use Rattle.std.proofs.Common.{if◌then◌else◌, refl, sym, ap, ◌∙◌}
use Rattle.std.proofs.lemmas.List.{at_drop_more, at_drop_all}
use Rattle.serde_json.specs.Data.{Members, no_members, member}
use Rattle.json_members.specs.declared.rows.Row as code
use Rattle.json_members.specs.declared.rows.Version.{Version}
use Rattle.json_members.specs.Members.{without}
use Rattle.json_members.specs.Rows.{is_in, is_kept, field_names, row_of, rows_of}
use Rattle.json_members.specs.MemberLaws.{without_more}

-- no name leaves all members
without_none : (ms : Members) → without [] ms ≡ ms
without_none no_members = refl
without_none (member k d ms) = ap (member k d) (without_none ms)

field_step : (b : Bool) (name : List ℕ) (names : List (List ℕ)) (ms : Members)
    → without names (without (if b then name ∷ [] else []) ms) ≡ without (if b then name ∷ names else names) ms
field_step true name names ms = without_more name names ms
field_step false name names ms = ap (without names) (without_none ms)

-- one more row
pub fields_on : (rows : List code.Row) (version : Version) (ms after : Members) (i : ℕ) (d : code.Row) (total : Members)
    → i < length rows → after ≡ without (field_names version (row_of (get_or rows i d) ∷ [])) ms
    → without (field_names version (rows_of (drop i rows))) ms ≡ total
    → without (field_names version (rows_of (drop (i + 1) rows))) after ≡ total
fields_on rows version ms after i d total lt after_is so_far =
    let row = get_or rows i d in
    let names = field_names version (rows_of (drop (i + 1) rows)) in
    let here = at_drop_more (λ (rs : List code.Row). without (field_names version (rows_of rs)) ms) rows i d lt in
    ap (without names) after_is ∙ field_step (is_kept row.keep (is_in version (row_of row))) row.name.now names ms
    ∙ sym here ∙ so_far

-- no row is left
pub fields_end : (rows : List code.Row) (version : Version) (ms : Members) (i : ℕ) (total : Members)
    → length rows ≤ i → without (field_names version (rows_of (drop i rows))) ms ≡ total → ms ≡ total
fields_end rows version ms i total le so_far =
    sym (without_none ms)
    ∙ sym (at_drop_all (λ (rs : List code.Row). without (field_names version (rows_of rs)) ms) rows i le) ∙ so_far

-- a row without a field leaves all members
pub no_field : (b : Bool) (name : List ℕ) (ms : Members) → b ≡ false → ms ≡ without (if b then name ∷ [] else []) ms
no_field true name ms is = absurd cc
no_field false name ms is = sym (without_none ms)
