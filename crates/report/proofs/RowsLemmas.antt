-- A row that joins a state.
use Rattle.std.proofs.Common.{◌≡◌, ℤ, List, Option, Some, None, Result, Ok, Err, refl, sym, ap}
use Rattle.words.specs.Reading.{Gives}
use Rattle.row_types.specs.declared.row.Row.{Row}
use Rattle.history_types.specs.declared.state.State.{State}
use Rattle.row_types.specs.RowMap.{UnnamedRow, NamedRow, with_row, row_at}
use Rattle.report.specs.declared.refusal.LineRefusal.{LineRefusal}
use Rattle.report.specs.declared.refusal.LineRefusal.TheVariants.{Wrong}
use Rattle.report.specs.Refusal.{is_memory}
use Rattle.report.specs.Rows.{put_at, joined}

-- a row has the id
pub put_taken : (state : State) (id : ℤ) (row other : UnnamedRow) (found : Option UnnamedRow) → Some other ≡ found → put_at state id row found ≡ Err Wrong
put_taken state id row other found is = sym (ap (put_at state id row) is)

-- no row has the id
pub put_free : (state : State) (id : ℤ) (row : UnnamedRow) (rows : List NamedRow) (found : Option UnnamedRow) → None ≡ found → rows ≡ with_row state.rows id row
    → put_at state id row found ≡ Ok (record { version = state.version; unnamed = state.unnamed; rows = rows; next = state.next; seq = state.seq })
put_free state id row rows found is now = rw (now, sym is) refl

-- a row with an id is put there
pub joined_at : (state : State) (row : Row) (id : ℤ) (result : Result State LineRefusal) → row.id ≡ Some id → Gives is_memory (λ x. x) result (put_at state id (row.last, row.cells) (row_at state.rows id)) → Gives is_memory (λ x. x) result (joined state row row.id)
joined_at state row id result is gives = rw is gives
