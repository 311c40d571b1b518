use Rattle.std.proofs.Common.{◌∙◌, ap, sym}
use Rattle.std.specs.Prelude.{List}
use Rattle.fields.specs.declared.wanted.Wanted.{Wanted}
use Rattle.fields.specs.Flat.{leaves}
use Rattle.fields.specs.Wanted.{fields_of, opens, check_missing}
use Rattle.stored_rows.specs.FieldLaws.{fields_readable}
use Rattle.row_reading.proofs.RowLaws.{none_missing, memory_only}
use Rattle.row_reading.proofs.row.row_layout.Goals as goal

pub memory_of-requires : goal.memory_of-requires
memory_of-requires c =
    let fields = fields_of c.args.schema in
    let columns = c.args.columns.now in
    let readable = fields_readable fields columns tt c.requires.readable in
    let missing = λ (wanted : List Wanted). check_missing (leaves (opens wanted) fields) wanted in
    let none = ap missing c.in_ok-wanted.ensures ∙ none_missing columns c.args.schema readable in
    memory_only c.in-Err.refusal (missing c.in_ok-wanted.wanted.items) none c.in-Err.ensures.missing
