-- A value that is made of a record's cells, by the relation: what is read means so, and what means so is read.
use Rattle.std.proofs.Common.{ℕ, List, Ok, refl, sym, ap, subst, ◌∙◌}
use Rattle.words.specs.Reading.{map_value}
use Rattle.words.specs.Steps.{map_ok, value_ok}
use Rattle.words.specs.Parts.{Took}
use Rattle.row_types.specs.declared.cell.Cell.{Cell}
use Rattle.schema_tree.specs.declared.schema.Schema.{Schema}
use Rattle.objects.specs.Object.{Agrees}
use Rattle.fields.specs.declared.wanted.Wanted.{Wanted}
use Rattle.fields.specs.declared.refusal.FieldRefusal.{FieldRefusal}
use Rattle.fields.specs.Record.{record_at, RecordAgrees}
use Rattle.records.specs.Record.{Means, as_value, value_at}

-- a value that is made of cells
pub means : {V E : Type 0} (made : List Cell → V) (refused : FieldRefusal → E) (schema : Schema) (wanted : List Wanted)
    → RecordAgrees schema wanted → Agrees (value_at made refused schema wanted) (Means made schema wanted)
means made refused schema wanted agrees = record {
  sound = λ input place taken is.
      let make : List Cell × ℕ → _ × ℕ = λ read. (made read.0, read.1) in
      let named = map_ok refused (map_value make (record_at schema wanted input place)) taken is in
      let inner = value_ok make (record_at schema wanted input place) taken named in
      let took = agrees.sound input place inner.0 inner.1 in
      subst (λ (t : _ × ℕ). Took input place t.1 (Means made schema wanted t.0)) inner.2
      (record {
        bytes = took.bytes;
        stand = took.stand;
        such = record { cells = inner.0.0; value_is = refl; stored = took.such };
      });
  complete = λ input place after value bytes spelled stand.
      let read = agrees.complete input place after spelled.cells bytes spelled.stored stand in
      ap (as_value made refused) read ∙ ap (λ v. Ok (v, after)) (sym spelled.value_is);
}
