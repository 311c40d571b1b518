-- Which requests and entries are about a table of these columns.
use Rattle.std.specs.Prelude.{All, ◌<◌, IfSome, ◌≢◌, ◌^◌, pos, ◌+ℤ◌, ◌≤ℤ◌, true, List, [], ◌∷◌, ◌≡◌}
use Rattle.std.specs.List.{AllPairs}
use Rattle.row_types.specs.declared.column.Column.{Column}
use Rattle.row_types.specs.Fits.{is_long, IsRow}
use Rattle.history_types.specs.declared.entry.Run.{Run}
use Rattle.history_types.specs.declared.entry.Entry.{Entry}
use Rattle.history_types.specs.declared.request.Request.{Request}
use Rattle.history_types.specs.declared.request.Request.TheVariants.{Append, Compact, Upgrade}

-- a request is about a table of these columns: an append has rows, which fit; the paths of a compaction are distinct
abbrev pub FitsRequest : List Column → Request → Type 0
FitsRequest columns (Append rows) = (rows ≢ []) × All (IsRow columns) rows
FitsRequest columns (Compact paths) = AllPairs (λ a b. a ≢ b) paths
FitsRequest columns Upgrade = Unit {0}

-- a run of ids that are numbers of 64 bits, at least one
pub record IsRun (run : Run) : Type 0 where
  pub first : is_long run.first ≡ true
  pub some : pos 1 ≤ℤ run.count
  pub count : is_long run.count ≡ true

-- runs in their one spelling: none goes on where the one before it ends
abbrev pub AreRuns : List Run → Type 0
AreRuns [] = Unit {0}
AreRuns (run ∷ []) = IsRun run
AreRuns (run ∷ next ∷ runs) = IsRun run × (next.first ≢ (run.first +ℤ run.count)) × AreRuns (next ∷ runs)

-- an entry is about a table of these columns: its request is, its runs are in their one spelling,
-- and its numbers are of 64 bits
pub record FitsEntry (columns : List Column) (entry : Entry) : Type 0 where
  pub who : entry.who < 2 ^ 64
  pub request : FitsRequest columns entry.request
  pub seq : IfSome entry.seq (λ seq. is_long seq ≡ true)
  pub named : AreRuns entry.named
  pub given : AreRuns entry.given
  pub next : IfSome entry.next (λ next. is_long next ≡ true)
