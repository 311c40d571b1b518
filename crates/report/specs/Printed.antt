-- The one text that a report is printed as: a line for the columns, one for the state at the start, one for each
-- of its rows, one for each entry, and the end.
use Rattle.std.specs.Prelude.{◌≡◌, ◌<◌, ℕ, ℤ, Bool, true, IfSome, All, List, [], ◌∷◌, ◌++◌, Option, Result, Ok, codes}
use Rattle.std.specs.Prelude.{decimal, if◌then◌else◌}
use Rattle.std.specs.Fmt.{signed_decimal}
use Rattle.std.specs.List.{flat_map, list_all}
use Rattle.std.specs.Str.{is_utf8}
use Rattle.words.specs.Reading.{◌>>=◌}
use Rattle.row_types.specs.declared.cell.Cell.{Cell}
use Rattle.row_types.specs.declared.cell.Cell.TheVariants.{Null, Flag, Num, Text, Bytes}
use Rattle.row_types.specs.declared.column.Column.{Column}
use Rattle.history_types.specs.declared.entry.Entry.{Entry}
use Rattle.history_types.specs.declared.request.Request.{Request}
use Rattle.history_types.specs.declared.request.Request.TheVariants.{Append, Compact, Upgrade}
use Rattle.row_types.specs.declared.row.Row.{Row}
use Rattle.history_types.specs.declared.state.State.{State}
use Rattle.row_types.specs.KindWord.{kind_text}
use Rattle.row_types.specs.Columns.{IsColumns}
use Rattle.row_types.specs.Fits.{is_long, IsRow}
use Rattle.history_types.specs.Fits.{FitsEntry}
use Rattle.pieces.specs.Number.{optional_text}
use Rattle.pieces.specs.Literal.{literal_text}
use Rattle.row_pred.specs.Cells.{cells_text}
use Rattle.history_log.specs.Entry.{entry_text, entry_of}
use Rattle.report.specs.declared.refusal.LineRefusal.{LineRefusal}
use Rattle.report.specs.Start.{without_rows}
use Rattle.report.specs.Rows.{joined}

-- ---- the lines, without LF

-- whether a column is required
abbrev pub required_text : Bool → List ℕ
required_text required = if required then codes "required" else codes "optional"

-- a column, with colons between its parts
abbrev pub column_text : Column → List ℕ
column_text column =
    signed_decimal column.id ++ (codes ":" ++ (kind_text column.kind ++ (codes ":"
    ++ (required_text column.required ++ (codes ":" ++ literal_text column.name)))))

-- a column behind the word or another one
abbrev pub next_column_text : Column → List ℕ
next_column_text column = codes " " ++ column_text column

-- the line of the columns
abbrev pub schema_text : List Column → List ℕ
schema_text columns = codes "schema" ++ flat_map next_column_text columns

-- the line of the state at the start, without its rows
abbrev pub start_text : ℕ → ℤ → Option ℤ → List ℕ
start_text version seq next =
    codes "start " ++ (decimal version ++ (codes " " ++ (signed_decimal seq ++ (codes " " ++ optional_text next))))

-- the line of a row
abbrev pub row_text : Row → List ℕ
row_text row =
    codes "row "
    ++ (optional_text row.id ++ (codes " " ++ (signed_decimal row.last ++ (codes " " ++ cells_text row.cells))))

-- ---- the whole

-- what a report tells: the columns, the version, the sequence number, the next id and the rows of the state
-- at the start, and the entries
pub record Told : Type 0 where
  pub columns : List Column
  pub version : ℕ
  pub seq : ℤ
  pub next : Option ℤ
  pub rows : List Row
  pub entries : List Entry

-- a line, which ends with LF
abbrev pub lined : List ℕ → List ℕ
lined line = line ++ codes "\n"

abbrev pub report_text : Told → List ℕ
report_text told =
    lined (schema_text told.columns)
    ++ (lined (start_text told.version told.seq told.next)
    ++ (flat_map (λ row. lined (row_text row)) told.rows
    ++ (flat_map (λ entry. lined (entry_text entry)) told.entries
    ++ lined (codes "end"))))

-- ---- what may be told

-- the text of a cell is in UTF-8
abbrev pub is_text : Cell → Bool
is_text (Text text) = is_utf8 text
is_text Null = true
is_text (Flag flag) = true
is_text (Num number) = true
is_text (Bytes bytes) = true

-- the texts of a request are in UTF-8
abbrev pub HasTexts : Request → Type 0
HasTexts (Append rows) = All (λ cells. list_all is_text cells ≡ true) rows
HasTexts (Compact paths) = All (λ path. is_utf8 path ≡ true) paths
HasTexts Upgrade = Unit {0}

-- a row of numbers of 64 bits, whose cells fit the columns
pub record FitsRow (columns : List Column) (row : Row) : Type 0 where
  pub id : IfSome row.id (λ id. is_long id ≡ true)
  pub last : is_long row.last ≡ true
  pub cells : IsRow columns row.cells
  pub texts : list_all is_text row.cells ≡ true

-- what is told is about a table
pub record IsTold (told : Told) : Type 0 where
  pub columns : IsColumns told.columns
  pub names : All (λ column. is_utf8 column.name ≡ true) told.columns
  pub version : told.version < 256
  pub seq : is_long told.seq ≡ true
  pub next : IfSome told.next (λ next. is_long next ≡ true)
  pub rows : All (FitsRow told.columns) told.rows
  pub entries : All (λ entry. FitsEntry told.columns entry × HasTexts entry.request) told.entries

-- the text of an entry about a table is read as the entry
abbrev pub IsReadBack : Entry → Type 0
IsReadBack entry = (columns : List Column) → FitsEntry columns entry → entry_of columns (entry_text entry) ≡ Ok entry

-- a state that the rows join, one behind the other; refused where two have one id
unfoldable pub all_joined : State → List Row → Result State LineRefusal
all_joined state [] = Ok state
all_joined state (row ∷ rows) = joined state row row.id >>= λ after. all_joined after rows

-- the state at the start that is told
abbrev pub start_told : Told → Result State LineRefusal
start_told told = all_joined (without_rows (told.version, told.seq, told.next)) told.rows
