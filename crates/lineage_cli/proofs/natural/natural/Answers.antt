use Rattle.std.proofs.Common.{◌≡◌, ℕ, Some, None, Ok, Option, Result, sym, ap, ◌∙◌, arith}
use Rattle.std.specs.Prelude.{decimal}
use Rattle.std.specs.Result.{result_ok}
use Rattle.std.proofs.lemmas.Bool.{false≢true}
use Rattle.std.proofs.lemmas.Fmt.{parse-decimal}
use Rattle.std.proofs.lemmas.Slice.Eq.{bytes_eq-Decides}
use Rattle.lineage_cli.proofs.natural.natural.Goals as goal

-- what was parsed is the number
some_parsed : {E : Type 0} (r : Result ℕ E) (o : Option ℕ) (m n : ℕ) → r ≡ Ok n → o ≡ result_ok r → o ≡ Some m → m ≡ n
some_parsed r o m n parsed view is =
    let seen : o ≡ Some n = view ∙ ap result_ok parsed in cc

-- something was parsed
none_parsed : {E : Type 0} (r : Result ℕ E) (o : Option ℕ) (n : ℕ) → r ≡ Ok n → o ≡ result_ok r → o ≡ None → ⊥
none_parsed r o n parsed view is =
    let seen : o ≡ Some n = view ∙ ap result_ok parsed in absurd cc

pub returns-in_err-number : goal.returns-in_err-number
returns-in_err-number c = rw c.from_residual.ensures (λ n lt same.
    let parsed = parse-decimal 64 n c.args.word.now c.parse.result (omega arith) (omega arith) same c.parse.ensures.value.0 in
    none_parsed c.parse.result c.ok.result n parsed c.ok.ensures.value c.in_err-number.was)

pub returns-then-number : goal.returns-then-number
returns-then-number c = λ n lt same.
    let parsed = parse-decimal 64 n c.args.word.now c.parse.result (omega arith) (omega arith) same c.parse.ensures.value.0 in
    let same_number = some_parsed c.parse.result c.ok.result c.in_ok-number.number n parsed c.ok.ensures.value c.in_ok-number.was in
    omega arith

pub returns-else-eq : goal.returns-else-eq
returns-else-eq c = λ n lt same.
    let parsed = parse-decimal 64 n c.args.word.now c.parse.result (omega arith) (omega arith) same c.parse.ensures.value.0 in
    let same_number = some_parsed c.parse.result c.ok.result c.in_ok-number.number n parsed c.ok.ensures.value c.in_ok-number.was in
    let text = c.format.ensures.text ∙ ap decimal same_number ∙ sym same in
    false≢true (sym c.if-eq.false ∙ (c.eq.ensures ∙ (bytes_eq-Decides c.format.result.now c.args.word.now).1 text))
