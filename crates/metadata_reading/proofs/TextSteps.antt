-- The clauses of the metadata of a text.
use Rattle.std.proofs.Common.{ℕ, List, Result, Ok, Err, subst}
use Rattle.std.specs.Bool.{OnFalse}
use Rattle.std.specs.Prelude.{IfErr, IfOk}
use Rattle.std.proofs.lemmas.Bool.{OnFalse_at, OnFalse_from}
use Rattle.words.specs.Reading.{Gives}
use Rattle.metadata_reading.specs.declared.meta.TableMeta.{TableMeta}
use Rattle.metadata_reading.specs.declared.refusal.MetaRefusal.{MetaRefusal}
use Rattle.metadata_reading.specs.Cause.{IsMetaCause}
use Rattle.metadata_reading.specs.CauseLaws.{text_refused}
use Rattle.metadata_reading.specs.Reading.{meta_of_text}
use Rattle.metadata_reading.specs.Refusal.{is_memory}
use Rattle.metadata_reading.specs.Relation.{IsMetaText}
use Rattle.metadata_reading.specs.Table.{IsTable}
use Rattle.metadata_reading.specs.TableLaws.{text_table}
use Rattle.metadata_reading.specs.TextLaws.{text_found, text_only}

-- what is read is the metadata of the text
pub found_so : (text : List ℕ) (result : Result TableMeta MetaRefusal)
    → Gives is_memory (λ m. m) result (meta_of_text text) → IfOk result (IsMetaText text)
found_so text (Ok m) given = text_found text m given
found_so text (Err e) given = tt

-- the metadata of the text is read
pub only_so : (text : List ℕ) (result : Result TableMeta MetaRefusal)
    → Gives is_memory (λ m. m) result (meta_of_text text) → (m : TableMeta) → IsMetaText text m
    → Gives is_memory (λ m. m) result (Ok m)
only_so text result given m h = subst (Gives is_memory (λ m. m) result) (text_only text m h) given

-- what is read is a table
pub table_so : (text : List ℕ) (result : Result TableMeta MetaRefusal)
    → Gives is_memory (λ m. m) result (meta_of_text text) → IfOk result IsTable
table_so text (Ok m) given = text_table text m (text_found text m given)
table_so text (Err e) given = tt

-- a refusal has its cause
pub cause_so : (text : List ℕ) (result : Result TableMeta MetaRefusal)
    → Gives is_memory (λ m. m) result (meta_of_text text)
    → IfErr result (λ e. OnFalse (is_memory e) (IsMetaCause text e))
cause_so text (Ok m) given = tt
cause_so text (Err e) given = OnFalse_from (is_memory e) _ (λ other. text_refused text e (OnFalse_at other given))
