-- The first row ids that a commit gives to manifests. Iceberg spec, "First Row ID Assignment".
use Rattle.std.specs.Prelude.{◌^◌, ◌-◌, ℤ, pos, ◌+ℤ◌, ◌≤ℤ◌, int_lt, ⊤, Bool, not, ◌&&◌, List, [], ◌∷◌}
use Rattle.std.specs.Prelude.{map, Option, Some, None, is_some, Result, Ok, Err, if◌then◌else◌}
use Rattle.std.specs.Ordering.{int_eq}
use Rattle.file_types.specs.declared.list_entry.ListEntry.{ListEntry}
use Rattle.lineage_inherit.specs.declared.refusal.InheritRefusal.{InheritRefusal}
use Rattle.lineage_inherit.specs.declared.refusal.InheritRefusal.TheVariants.{IdsSpent}
use Rattle.lineage_inherit.specs.Live.{Manifest, rows_live}

-- a manifest of data files without a first row id
abbrev pub needs_id : ListEntry → Bool
needs_id manifest = int_eq manifest.content (pos 0) && not (is_some manifest.first_row_id)

-- ---- by the live rows of each manifest

-- the rows of a manifest that gets an id
abbrev pub rows_given : ListEntry → ℤ → ℤ
rows_given manifest rows = if needs_id manifest then rows else pos 0

-- the id of a manifest, if that is the next one
abbrev pub id_of : ℤ → ListEntry → Option ℤ
id_of next manifest = if needs_id manifest then Some next else manifest.first_row_id

-- the next id behind a manifest, if that isn't above 2^63 - 1
abbrev pub end_of : ℤ → ListEntry → ℤ → Option ℤ
end_of next manifest rows =
    if int_lt (next +ℤ rows_given manifest rows) (pos (2 ^ 63)) then Some (next +ℤ rows_given manifest rows) else None

-- the rows of the manifests that get an id
abbrev pub assigned_rows : List ListEntry → List ℤ → ℤ
assigned_rows [] live = pos 0
assigned_rows (manifest ∷ manifests) [] = pos 0
assigned_rows (manifest ∷ manifests) (rows ∷ live) =
    rows_given manifest rows +ℤ assigned_rows manifests live

-- each of them gets the next id, and the next one is behind its rows; the others keep what they have
abbrev pub assigned_ids : ℤ → List ListEntry → List ℤ → List (Option ℤ)
assigned_ids next [] live = []
assigned_ids next (manifest ∷ manifests) [] = []
assigned_ids next (manifest ∷ manifests) (rows ∷ live) =
    if needs_id manifest then Some next ∷ assigned_ids (next +ℤ rows) manifests live
    else manifest.first_row_id ∷ assigned_ids next manifests live

-- the greatest number of 64 bits, where a number passes it
abbrev pub at_most_max : ℤ → ℤ
at_most_max z = if int_lt z (pos (2 ^ 63)) then z else pos (2 ^ 63 - 1)

-- the ids, and the next one after them, if that isn't above 2^63 - 1
abbrev pub assign : ℤ → List ListEntry → List ℤ → Result (List (Option ℤ) × ℤ) InheritRefusal
assign next manifests live =
    if int_lt (next +ℤ assigned_rows manifests live) (pos (2 ^ 63))
    then Ok (assigned_ids next manifests live, next +ℤ assigned_rows manifests live)
    else Err (IdsSpent next (at_most_max (assigned_rows manifests live)))

-- no number of rows is below 0
abbrev pub AreNatural : List ℤ → Type 0
AreNatural [] = ⊤
AreNatural (rows ∷ live) = (pos 0 ≤ℤ rows) × AreNatural live

-- ---- by the entries of each manifest

-- the manifests with the first row ids that they get, and the next id then
abbrev pub with_first : Manifest → ℤ → Manifest
with_first manifest next = (record manifest.0 { first_row_id = Some next }, manifest.1)

abbrev pub assigned : ℤ → List Manifest → List Manifest × ℤ
assigned next [] = ([], next)
assigned next (manifest ∷ manifests) =
    if needs_id manifest.0
    then (
      with_first manifest next ∷ (assigned (next +ℤ rows_live manifest.1) manifests).0,
      (assigned (next +ℤ rows_live manifest.1) manifests).1,
    )
    else (manifest ∷ (assigned next manifests).0, (assigned next manifests).1)

abbrev pub assigned_first_row_ids : ℤ → List Manifest → List (Option ℤ)
assigned_first_row_ids next manifests =
    map (λ (manifest : Manifest). manifest.0.first_row_id) (assigned next manifests).0
