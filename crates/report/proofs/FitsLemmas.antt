-- Entries that fit the columns.
use Rattle.std.proofs.Common.{◌≡◌, List, [], ◌∷◌, ◌++◌, All, arith}
use Rattle.std.proofs.lemmas.List.Elements.{All-append, All-cons}
use Rattle.row_types.specs.declared.column.Column.{Column}
use Rattle.history_types.specs.declared.entry.Entry.{Entry}
use Rattle.history_types.specs.Fits.{FitsEntry}

-- entries that fit, and one more that does
pub entry_more : (columns : List Column) (old new : List Entry) (entry : Entry) → new ≡ old ++ entry ∷ [] → FitsEntry columns entry → All (FitsEntry columns) old → All (FitsEntry columns) new
entry_more columns old new entry grown fits all =
    let alone : All (FitsEntry columns) (entry ∷ []) = All-cons (FitsEntry columns) entry [] fits (λ i d inside. absurd (omega arith)) in
    rw grown (All-append (FitsEntry columns) old (entry ∷ []) all alone)
