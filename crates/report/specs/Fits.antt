-- What is read fits the columns that are read.
use Rattle.std.specs.Prelude.{List, All}
use Rattle.row_types.specs.declared.column.Column.{Column}
use Rattle.history_types.specs.Fits.{FitsEntry}
use Rattle.report.specs.declared.whole.Report.{Report}
use Rattle.report.specs.declared.stage.Part.{Part}
use Rattle.report.specs.declared.stage.Part.TheVariants.{Nothing, Schema, Rows, Entries, Ended}

-- each entry of a report fits its columns
abbrev pub FitsReport : Report → Type 0
FitsReport report = All (λ entry. FitsEntry report.columns entry) report.entries

-- each entry that was taken so far does: what that says of its taker
abbrev pub FitsPart : {T : Type 0} → (List Column → T → Type 0) → Part T → Type 0
FitsPart fits Nothing = Unit {0}
FitsPart fits (Schema columns) = Unit {0}
FitsPart fits (Rows columns start) = Unit {0}
FitsPart fits (Entries columns taker) = fits columns taker
FitsPart fits (Ended columns taker) = fits columns taker
