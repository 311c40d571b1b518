use Rattle.std.proofs.Common.{◌≡◌, ◌++◌, take}
use Rattle.std.specs.List.{flat_map}
use Rattle.std.specs.String.{string_bytes}
use Rattle.row_types.specs.declared.row.Row.{Row}
use Rattle.report.specs.Printed.{lined, row_text}
use Rattle.report.proofs.printing.put_rows.Given as goal

abbrev pub invariant-loop-row : goal.invariant-loop-row
invariant-loop-row l = string_bytes l.out ≡ string_bytes l.fn.out ++ flat_map (λ (row : Row). lined (row_text row)) (take l.row-index l.rows)
