-- The first row ids of a manifest's files are those that a running number gives.
use Rattle.std.specs.Prelude.{◌≡◌, ◌^◌, ℤ, pos, ◌+ℤ◌, ◌≤ℤ◌, int_lt, Bool, true, false, not, ◌&&◌, List, [], ◌∷◌, ◌++◌}
use Rattle.std.specs.Prelude.{Option, Some, None, is_some, Result, Ok, Err, if◌then◌else◌}
use Rattle.std.proofs.Common.{refl, sym, ap, ◌∙◌, arith}
use Rattle.std.proofs.lemmas.Int.{ints}
use Rattle.std.proofs.Math.IntN.{+ℤ_assoc, +ℤ_idl}
use Rattle.words.specs.Reading.{◌>>=◌, map_value}
use Rattle.file_types.specs.declared.file_entry.FileEntry.{FileEntry}
use Rattle.lineage_inherit.specs.declared.refusal.InheritRefusal.{InheritRefusal}
use Rattle.lineage_inherit.specs.declared.refusal.InheritRefusal.TheVariants.{IdsSpent}
use Rattle.lineage_inherit.specs.FirstRowId.{rows_taken, rows_taken_by, id_after, own_or, firsts_behind, first_ids}
use Rattle.lineage_inherit.specs.FirstRowId.{AreCounted, is_spent, spent_at, first_spent, unless_spent}
use Rattle.lineage_inherit.specs.Live.{is_live}
use Rattle.lineage_inherit.specs.RunningId.{live_and_next, firsts_from}

-- ---- the running number

plus_zero : (a : ℤ) → a +ℤ pos 0 ≡ a
plus_zero a = grind (arith, ints)

-- two lists of entries take the rows of both
pub rows_of_both : (first second : List FileEntry)
    → rows_taken_by (first ++ second) ≡ rows_taken_by first +ℤ rows_taken_by second
rows_of_both [] second = sym (+ℤ_idl (rows_taken_by second))
rows_of_both (entry ∷ first) second =
    ap (λ (rows : ℤ). rows_taken entry +ℤ rows) (rows_of_both first second)
    ∙ sym (+ℤ_assoc (rows_taken entry) (rows_taken_by first) (rows_taken_by second))

-- no row behind the next id
pub id_after_none : (next : Option ℤ) → id_after next (pos 0) ≡ next
id_after_none None = refl
id_after_none (Some first) = ap (λ (id : ℤ). Some id) (plus_zero first)

-- rows, and then more rows
pub id_after_both : (next : Option ℤ) (rows more : ℤ)
    → id_after (id_after next rows) more ≡ id_after next (rows +ℤ more)
id_after_both None rows more = refl
id_after_both (Some first) rows more = ap (λ (id : ℤ). Some id) (+ℤ_assoc first rows more)

-- one more entry
pub id_after_entry : (first : Option ℤ) (before : List FileEntry) (entry : FileEntry)
    → id_after first (rows_taken_by (before ++ entry ∷ []))
    ≡ id_after (id_after first (rows_taken_by before)) (rows_taken entry)
id_after_entry first before entry =
    ap (λ (rows : ℤ). id_after first rows)
    (rows_of_both before (entry ∷ []) ∙ ap (λ (rows : ℤ). rows_taken_by before +ℤ rows) (plus_zero (rows_taken entry)))
    ∙ sym (id_after_both first (rows_taken_by before) (rows_taken entry))

-- ---- the loop

abbrev Firsts : Type 0
Firsts = Result (List (Option ℤ)) InheritRefusal

-- the first id before the others
consed : (own : Option ℤ) (firsts : List (Option ℤ)) (spent : Option (ℤ × ℤ))
    → map_value (λ (others : List (Option ℤ)). own ∷ others) (unless_spent firsts spent)
    ≡ unless_spent (own ∷ firsts) spent
consed own firsts None = refl
consed own firsts (Some passed) = refl

-- the first ids of an entry and of the others
abbrev joined : (Option ℤ → Firsts) → Option ℤ × Option ℤ → Firsts
joined others pair = map_value (λ (firsts : List (Option ℤ)). pair.0 ∷ firsts) (others pair.1)

-- by whether the entry's rows fit
tested : (fits : Bool) (first count : ℤ) (after : Option ℤ) (found : Option ℤ → Option ℤ × Option ℤ)
    (others : Option ℤ → Firsts) (firsts : List (Option ℤ)) (spent : Option (ℤ × ℤ))
    → joined others (found after) ≡ unless_spent firsts spent
    → (((if fits then Ok after else Err (IdsSpent first count)) >>= λ (id : Option ℤ). Ok (found id)) >>= joined others)
    ≡ unless_spent firsts (if not fits then Some (first, count) else spent)
tested true first count after found others firsts spent is = is
tested false first count after found others firsts spent is = refl

-- an entry, by what it is
one_entry : (live : Bool) (own next : Option ℤ) (count : ℤ) (others : Option ℤ → Firsts)
    (firsts : List (Option ℤ)) (spent : Option (ℤ × ℤ))
    → others (id_after next (if live && not (is_some own) then count else pos 0)) ≡ unless_spent firsts spent
    → ((if live then live_and_next next count own else Ok (own, next)) >>= joined others)
    ≡ unless_spent ((if live then own_or own next else own) ∷ firsts)
    (if live && is_spent count (if live then own_or own next else own)
    then spent_at (if live then own_or own next else own) count else spent)
one_entry false own next count others firsts spent is =
    ap (map_value (λ (rest : List (Option ℤ)). own ∷ rest)) (sym (ap others (id_after_none next)) ∙ is)
    ∙ consed own firsts spent
one_entry true (Some own) next count others firsts spent is =
    tested (int_lt (own +ℤ count) (pos (2 ^ 63))) own count (Some (own +ℤ count))
    (λ (_ : Option ℤ). (Some own, next)) others (Some own ∷ firsts) spent
    (ap (map_value (λ (rest : List (Option ℤ)). Some own ∷ rest)) (sym (ap others (id_after_none next)) ∙ is)
    ∙ consed (Some own) firsts spent)
one_entry true None None count others firsts spent is =
    ap (map_value (λ (rest : List (Option ℤ)). None ∷ rest)) is ∙ consed None firsts spent
one_entry true None (Some next) count others firsts spent is =
    tested (int_lt (next +ℤ count) (pos (2 ^ 63))) next count (Some (next +ℤ count))
    (λ (id : Option ℤ). (Some next, id)) others (Some next ∷ firsts) spent
    (ap (map_value (λ (rest : List (Option ℤ)). Some next ∷ rest)) is ∙ consed (Some next) firsts spent)

-- the first ids of entries behind those before them
pub firsts_running : (first : Option ℤ) (before entries : List FileEntry)
    → firsts_from (id_after first (rows_taken_by before)) entries
    ≡ unless_spent (firsts_behind first before entries) (first_spent first before entries)
firsts_running first before [] = refl
firsts_running first before (entry ∷ entries) =
    one_entry (is_live entry) entry.first_row_id (id_after first (rows_taken_by before)) entry.count
    (λ (next : Option ℤ). firsts_from next entries)
    (firsts_behind first (before ++ entry ∷ []) entries) (first_spent first (before ++ entry ∷ []) entries)
    (sym (ap (λ (next : Option ℤ). firsts_from next entries) (id_after_entry first before entry))
    ∙ firsts_running first (before ++ entry ∷ []) entries)

-- the first ids of a manifest's entries
pub first_ids_running : (first : Option ℤ) (entries : List FileEntry)
    → firsts_from first entries ≡ first_ids first entries
first_ids_running first entries =
    sym (ap (λ (next : Option ℤ). firsts_from next entries) (id_after_none first)) ∙ firsts_running first [] entries

-- ---- counts that aren't below 0

-- one more entry
pub counted_more : (entries : List FileEntry) (entry : FileEntry) → AreCounted entries → pos 0 ≤ℤ entry.count
    → AreCounted (entries ++ entry ∷ [])
counted_more [] entry counted natural = (natural, tt)
counted_more (first ∷ entries) entry counted natural = (counted.0, counted_more entries entry counted.1 natural)
