-- Reading the branch of a union.
use Rattle.std.proofs.Common.{◌≡◌, ℕ, zero, suc, ◌<◌, List, [], ◌∷◌, length, get_or, Result, Ok, refl, ap, ◌∙◌, arith}
use Rattle.words.specs.Reading.{◌>>=◌, map_value}
use Rattle.schema_tree.specs.declared.schema.Schema.{Schema}
use Rattle.datum_reading.specs.declared.cursor.Cursor.{Cursor}
use Rattle.datum_tree.specs.declared.datum.Datum.{Datum}
use Rattle.datum_tree.specs.declared.datum.Datum.TheVariants as datums
use Rattle.datum_reading.specs.declared.refusal.DatumRefusal.{DatumRefusal}
use Rattle.datum_reading.specs.Reading.{choice_at, branch_at, datum_at}
use Rattle.datum_reading.specs.Readers.{branch_readers, union_at}

-- the branch of a number that there is
pub branch_is : (branches : List Schema) (number chosen : ℕ) (branch : Schema) (input : List ℕ) (at : Cursor) → number < length branches → branch ≡ get_or branches number branch
    → branch_at (branch_readers branches) number chosen input at ≡ map_value (λ read. (datums.Branch chosen read.0, read.1)) (datum_at branch input at)
unfolding branch_at
branch_is [] number chosen branch input at lt is = absurd (omega arith)
branch_is (b ∷ branches) zero chosen branch input at lt is = rw is refl
branch_is (b ∷ branches) (suc number) chosen branch input at lt is = branch_is branches number chosen branch input at (omega arith) is

-- a choice, and what its branch reads
pub record Chose (branches : List Schema) (input : List ℕ) (at : Cursor) (choice : ℕ) (behind : Cursor) (branch : Schema) : Type 0 where
  pub read : choice_at (length branches) input at ≡ Ok (choice, behind)
  pub below : choice < length branches
  pub is : branch ≡ get_or branches choice branch

-- what is read is the branch's value
pub union_is : (branches : List Schema) (input : List ℕ) (at : Cursor) (choice : ℕ) (behind : Cursor) (branch : Schema) (read : Result (Datum × Cursor) DatumRefusal) → Chose branches input at choice behind branch → datum_at branch input behind ≡ read
    → union_at branches input at ≡ map_value (λ read. (datums.Branch choice read.0, read.1)) read
union_is branches input at choice behind branch read chose inside =
    ap (λ r. r >>= λ choice. branch_at (branch_readers branches) choice.0 choice.0 input choice.1) chose.read
    ∙ branch_is branches choice choice branch input behind chose.below chose.is
    ∙ ap (map_value (λ read. (datums.Branch choice read.0, read.1))) inside
