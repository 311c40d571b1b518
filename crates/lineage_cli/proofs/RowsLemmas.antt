-- What `rows` answers.
use Rattle.std.proofs.Common.{◌≡◌, ℕ, Bool, true, false, pos, List, Option, Some, None, Ok, Err, refl, option_map, inl}
use Rattle.std.specs.Bool.{OnFalse}
use Rattle.lt_port.specs.Streams.{Outgoing}
use Rattle.row_types.specs.declared.column.Column.{Column}
use Rattle.row_types.specs.declared.row.Row.{Row}
use Rattle.row_types.specs.declared.row.StoredRow.{StoredRow}
use Rattle.stored_rows.specs.declared.refusal.RowRefusal.{RowRefusal}
use Rattle.stored_rows.specs.Refusal.{is_memory as wants_memory}
use Rattle.stored_rows.specs.Stored.{StoresRows, AreRead}
use Rattle.row_reading.specs.Columns.{file_columns_of}
use Rattle.row_reading.specs.File.{file_size}
use Rattle.row_reading.specs.OwnRows.{own_rows_of, ReadsOwnRows}
use Rattle.lineage_cli.specs.declared.ending.Ending.{Ending}
use Rattle.lineage_cli.specs.declared.ending.Ending.TheVariants.{Usage, InputFault, InputLimit, Input, Table, Illegal, OutFault, Memory}
use Rattle.lineage_cli.specs.Answers.{Prints}
use Rattle.lineage_cli.specs.Command.Rows.{file_rows, HasRows, RowsAnswer}
use Rattle.lineage_cli.specs.Ending.{class_of}
use Rattle.lineage_cli.specs.Leaves.{LeavesOutput}
use Rattle.lineage_cli.specs.Run.{is_memory}
use Rattle.lineage_cli.proofs.AnswersLemmas.{keeps_still}

-- the rows were read
pub has_rows : (first : Option ℕ) (sequence : ℕ) (bytes : List ℕ) (rows : List Row) → own_rows_of bytes (option_map pos first) (pos sequence) ≡ Ok rows → ReadsOwnRows bytes (option_map pos first) (pos sequence) rows
    → HasRows first sequence bytes rows
unfolding file_rows
has_rows first sequence bytes rows read stored = record { read = read; stored = stored }

-- the file was refused, and what it stores would have been read
pub is_refused : (answer : List StoredRow → List Row) (first : Option ℕ) (sequence : ℕ) (bytes : List ℕ) (refusal : RowRefusal) (ending : Ending)
    → OnFalse (wants_memory refusal) (own_rows_of bytes (option_map pos first) (pos sequence) ≡ Err refusal)
    → ((columns : List Column) (stored : List StoredRow) → file_columns_of bytes ≡ Ok columns → StoresRows bytes columns stored → AreRead (option_map pos first) None (file_size bytes stored)
    → OnFalse (wants_memory refusal) (Ok (answer stored) ≡ Err refusal))
    → is_memory ending ≡ wants_memory refusal → OnFalse (wants_memory refusal) (ending ≡ Table refusal)
    → OnFalse (is_memory ending) (RowsAnswer first sequence bytes (Err ending))
unfolding file_rows
is_refused answer first sequence bytes refusal ending read only same table = rw same (both (wants_memory refusal) read only table)
  where
    both : (free : Bool) → OnFalse free (own_rows_of bytes (option_map pos first) (pos sequence) ≡ Err refusal)
        → ((columns : List Column) (stored : List StoredRow) → file_columns_of bytes ≡ Ok columns → StoresRows bytes columns stored → AreRead (option_map pos first) None (file_size bytes stored) → OnFalse free (Ok (answer stored) ≡ Err refusal))
        → OnFalse free (ending ≡ Table refusal) → OnFalse free (RowsAnswer first sequence bytes (Err ending))
    both true read only table = tt
    both false read only table = rw table (record { read = read; none = λ s. absurd (cc (only s.columns s.rows s.own s.stores s.readable)) })

-- nothing is printed of a file that is refused
pub refused_prints : (first : Option ℕ) (sequence : ℕ) (bytes : List ℕ) (ending : Ending) (before : Option (List ℕ)) → OnFalse (is_memory ending) (RowsAnswer first sequence bytes (Err ending)) → Prints (RowsAnswer first sequence bytes) before before (Err ending)
refused_prints first sequence bytes Memory before refused = inl (keeps_still before)
refused_prints first sequence bytes (Table refusal) before refused = refused
refused_prints first sequence bytes Usage before refused = absurd refused
refused_prints first sequence bytes InputFault before refused = absurd refused
refused_prints first sequence bytes (InputLimit found) before refused = absurd refused
refused_prints first sequence bytes (Input line) before refused = absurd refused
refused_prints first sequence bytes (Illegal entry rule) before refused = absurd refused
refused_prints first sequence bytes OutFault before refused = absurd refused

-- and the output is left as it is
pub refused_leaves : (first : Option ℕ) (sequence : ℕ) (bytes : List ℕ) (ending : Ending) (out : Outgoing) → OnFalse (is_memory ending) (RowsAnswer first sequence bytes (Err ending)) → LeavesOutput (Some (class_of ending)) out out
refused_leaves first sequence bytes Memory out refused = inl refl
refused_leaves first sequence bytes (Table refusal) out refused = refl
refused_leaves first sequence bytes Usage out refused = absurd refused
refused_leaves first sequence bytes InputFault out refused = absurd refused
refused_leaves first sequence bytes (InputLimit found) out refused = absurd refused
refused_leaves first sequence bytes (Input line) out refused = absurd refused
refused_leaves first sequence bytes (Illegal entry rule) out refused = absurd refused
refused_leaves first sequence bytes OutFault out refused = absurd refused
