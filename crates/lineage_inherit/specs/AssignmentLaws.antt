-- What a commit gives to manifests depends on the live rows of each alone.
use Rattle.std.specs.Prelude.{◌≡◌, ℤ, pos, ◌+ℤ◌, ◌≤ℤ◌, Bool, true, false, List, [], ◌∷◌, ◌++◌, map}
use Rattle.std.specs.Prelude.{Option, Some, if◌then◌else◌}
use Rattle.std.proofs.Common.{refl, ap, ◌∙◌, arith}
use Rattle.std.proofs.lemmas.Int.{ints}
use Rattle.file_types.specs.declared.list_entry.ListEntry.{ListEntry}
use Rattle.lineage_inherit.specs.Assignment.{AreNatural, needs_id, assigned_rows, assigned_ids}
use Rattle.lineage_inherit.specs.Assignment.{with_first, assigned, assigned_first_row_ids}
use Rattle.lineage_inherit.specs.Live.{Manifest, rows_live}

-- the entries of the manifest list
abbrev pub entries_of : List Manifest → List ListEntry
entries_of manifests = map (λ (manifest : Manifest). manifest.0) manifests

-- the live rows of each manifest
abbrev pub live_of : List Manifest → List ℤ
live_of manifests = map (λ (manifest : Manifest). rows_live manifest.1) manifests

-- ---- the ids

abbrev firsts_of : List Manifest → List (Option ℤ)
firsts_of manifests = map (λ (manifest : Manifest). manifest.0.first_row_id) manifests

-- by whether the manifest gets an id
ids_by : (needs : Bool) (m : Manifest) (next : ℤ) (got kept : List Manifest × ℤ) (ids_got ids_kept : List (Option ℤ))
    → firsts_of got.0 ≡ ids_got → firsts_of kept.0 ≡ ids_kept
    → firsts_of (if◌then◌else◌ {A = List Manifest × ℤ} needs (with_first m next ∷ got.0, got.1) (m ∷ kept.0, kept.1)).0
    ≡ (if needs then Some next ∷ ids_got else m.0.first_row_id ∷ ids_kept)
ids_by true m next got kept ids_got ids_kept is_got is_kept = ap (λ (ids : List (Option ℤ)). Some next ∷ ids) is_got
ids_by false m next got kept ids_got ids_kept is_got is_kept =
    ap (λ (ids : List (Option ℤ)). m.0.first_row_id ∷ ids) is_kept

-- the first row ids of the manifests
pub assigned_ids_are : (next : ℤ) (manifests : List Manifest)
    → assigned_first_row_ids next manifests ≡ assigned_ids next (entries_of manifests) (live_of manifests)
assigned_ids_are next [] = refl
assigned_ids_are next (m ∷ ms) =
    ids_by (needs_id m.0) m next (assigned (next +ℤ rows_live m.1) ms) (assigned next ms)
    (assigned_ids (next +ℤ rows_live m.1) (entries_of ms) (live_of ms)) (assigned_ids next (entries_of ms) (live_of ms))
    (assigned_ids_are (next +ℤ rows_live m.1) ms) (assigned_ids_are next ms)

-- ---- the next id

-- by whether the manifest gets an id
next_by : (needs : Bool) (m : Manifest) (next rows others : ℤ) (got kept : List Manifest × ℤ)
    → got.1 ≡ (next +ℤ rows) +ℤ others → kept.1 ≡ next +ℤ others
    → (if◌then◌else◌ {A = List Manifest × ℤ} needs (with_first m next ∷ got.0, got.1) (m ∷ kept.0, kept.1)).1
    ≡ next +ℤ ((if needs then rows else pos 0) +ℤ others)
next_by true m next rows others got kept is_got is_kept =
    let whole : (next +ℤ rows) +ℤ others ≡ next +ℤ (rows +ℤ others) = omega (arith, ints) in
    is_got ∙ whole
next_by false m next rows others got kept is_got is_kept =
    let whole : next +ℤ others ≡ next +ℤ (pos 0 +ℤ others) = omega (arith, ints) in
    is_kept ∙ whole

-- the next id then is that before, and the rows of the manifests that got one
pub assigned_next_is : (next : ℤ) (manifests : List Manifest)
    → (assigned next manifests).1 ≡ next +ℤ assigned_rows (entries_of manifests) (live_of manifests)
assigned_next_is next [] =
    let whole : next ≡ next +ℤ pos 0 = omega (arith, ints) in
    whole
assigned_next_is next (m ∷ ms) =
    next_by (needs_id m.0) m next (rows_live m.1) (assigned_rows (entries_of ms) (live_of ms))
    (assigned (next +ℤ rows_live m.1) ms) (assigned next ms)
    (assigned_next_is (next +ℤ rows_live m.1) ms) (assigned_next_is next ms)

-- ---- rows that aren't below 0

-- one more manifest
pub natural_more : (live : List ℤ) (rows : ℤ) → AreNatural live → pos 0 ≤ℤ rows → AreNatural (live ++ rows ∷ [])
natural_more [] rows are natural = (natural, tt)
natural_more (first ∷ live) rows are natural = (are.0, natural_more live rows are.1 natural)
