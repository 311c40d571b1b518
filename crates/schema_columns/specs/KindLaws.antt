-- A column for which no kind is read has another type, or a default value.
use Rattle.std.proofs.Common.{◌≡◌, ◌≢◌, ◌⊎◌, inl, inr, Bool, true, false, ◌||◌, not, if◌then◌else◌}
use Rattle.std.proofs.Common.{Option, Some, None, is_some, option_and_then, codes, refl, sym, ap, ◌∙◌}
use Rattle.std.proofs.lemmas.Bool.{true≢false}
use Rattle.serde_json.specs.Data.{Data, string, Members}
use Rattle.serde_json.specs.Find.{get_member, as_null}
use Rattle.json_members.specs.Values.{text_in}
use Rattle.row_types.specs.declared.column.Kind.{Kind}
use Rattle.row_types.specs.KindWord.{kind_text}
use Rattle.schema_columns.specs.Cause.{HasOtherType, HasDefault}
use Rattle.schema_columns.specs.FoundLaws.{kind_again}
use Rattle.schema_columns.specs.Kind.{kind_of}
use Rattle.schema_columns.specs.Reading.{is_set, has_default, kind_in}
use Rattle.schema_columns.specs.Relation.{IsUnset}

-- a value that is set isn't null
set_found : (found : Option Data) → is_set found ≡ true → IsUnset found → ⊥
set_found None is unset = absurd cc
set_found (Some value) is unset = true≢false (sym is ∙ ap (λ (v : Data). not (is_some (as_null v))) unset)

-- one of two values is set
either_set : (a b : Option Data) → (is_set a || is_set b) ≡ true → (IsUnset a → ⊥) ⊎ (IsUnset b → ⊥)
either_set a b is = by_first (is_set a) refl is
  where
    by_first : (x : Bool) → is_set a ≡ x → (x || is_set b) ≡ true → (IsUnset a → ⊥) ⊎ (IsUnset b → ⊥)
    by_first true here is = inl (set_found a here)
    by_first false here is = inr (set_found b is)

-- a value that names no kind isn't the word of one
other_type : (found : Option Data) → option_and_then kind_of (text_in found) ≡ None → (kind : Kind)
    → found ≢ Some (string (kind_text kind))
other_type found is kind same =
    let named : option_and_then kind_of (text_in found) ≡ Some kind =
    ap (λ (o : Option Data). option_and_then kind_of (text_in o)) same ∙ kind_again kind in
    let both : Some kind ≡ None = sym named ∙ is in
    absurd cc

-- no kind is read only if the type is another one, or there is a default value
pub no_kind_found : (ms : Members) → kind_in ms ≡ None → HasOtherType ms ⊎ HasDefault ms
no_kind_found ms is = by_default (has_default ms) refl is
  where
    by_default : (x : Bool) → has_default ms ≡ x
        → (if x then None else option_and_then kind_of (text_in (get_member (codes "type") ms))) ≡ None
        → HasOtherType ms ⊎ HasDefault ms
    by_default true set is =
        inr (either_set (get_member (codes "initial-default") ms) (get_member (codes "write-default") ms) set)
    by_default false set is = inl (other_type (get_member (codes "type") ms) is)
