-- The clauses of the columns of a schema.
use Rattle.std.proofs.Common.{List, Result, Ok, Err, subst}
use Rattle.std.proofs.lemmas.Bool.{OnFalse_at, OnFalse_from}
use Rattle.std.specs.Bool.{OnFalse}
use Rattle.std.specs.Prelude.{IfErr, IfOk}
use Rattle.words.specs.Reading.{Gives}
use Rattle.serde_json.specs.Data.{Members}
use Rattle.row_types.specs.declared.column.Column.{Column}
use Rattle.schema_columns.specs.declared.refusal.ColumnRefusal.{ColumnRefusal}
use Rattle.schema_columns.specs.Cause.{IsSchemaCause}
use Rattle.schema_columns.specs.CauseLaws.{schema_refused}
use Rattle.schema_columns.specs.FoundLaws.{schema_found, schema_only}
use Rattle.schema_columns.specs.Reading.{columns_in}
use Rattle.schema_columns.specs.Refusal.{is_memory}
use Rattle.schema_columns.specs.Relation.{IsSchema}

-- what is read are the schema's columns
pub found_so : (schema : Members) (result : Result (List Column) ColumnRefusal)
    → Gives is_memory (λ read. read) result (columns_in schema) → IfOk result (IsSchema schema)
found_so schema (Ok columns) given = schema_found schema columns given
found_so schema (Err e) given = tt

-- whatever columns it has are read
pub only_so : (schema : Members) (result : Result (List Column) ColumnRefusal)
    → Gives is_memory (λ read. read) result (columns_in schema) → (columns : List Column) → IsSchema schema columns
    → Gives is_memory (λ read. read) result (Ok columns)
only_so schema result given columns are =
    subst (Gives is_memory (λ read. read) result) (schema_only schema columns are) given

-- the schema has the cause of its refusal
pub cause_so : (schema : Members) (result : Result (List Column) ColumnRefusal)
    → Gives is_memory (λ read. read) result (columns_in schema)
    → IfErr result (λ e. OnFalse (is_memory e) (IsSchemaCause schema e))
cause_so schema (Ok columns) given = tt
cause_so schema (Err e) given =
    OnFalse_from (is_memory e) _ (λ other. schema_refused schema e (OnFalse_at other given))
