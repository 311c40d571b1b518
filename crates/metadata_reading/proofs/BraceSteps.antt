-- Steps of the count of braces.
use Rattle.std.proofs.Common.{◌≡◌, ◌≤◌, ℕ, suc, ◌+◌, ◌<◌, List, [], length, drop, get_or, Bool, true, false}
use Rattle.std.proofs.Common.{if◌then◌else◌, sym, ap, ◌∙◌, arith}
use Rattle.std.proofs.lemmas.List.{drop_more, drop_all}
use Rattle.metadata_reading.specs.Braces.{is_brace, braces}

-- the braces before a place, and those from it on, are all
pub record SoFar (count place : ℕ) (text : List ℕ) : Type 0 where
  pub few : count ≤ place
  pub within : place ≤ length text
  pub all : (count + braces (drop place text)) ≡ braces text

brace_more : (b : Bool) (rest : ℕ) → (if b then suc rest else rest) ≡ ((if b then 1 else 0) + rest)
brace_more true rest = omega arith
brace_more false rest = omega arith

-- what is left at a place is the byte there, and what is left behind it
here_and_rest : (place byte : ℕ) (text : List ℕ) → place < length text → byte ≡ get_or text place byte
    → braces (drop place text) ≡ ((if is_brace byte then 1 else 0) + braces (drop (place + 1) text))
here_and_rest place byte text within here =
    let more = drop_more text place byte within in
    ap braces more
    ∙ ap (λ (b : ℕ). if is_brace b then suc (braces (drop (place + 1) text)) else braces (drop (place + 1) text)) (sym here)
    ∙ brace_more (is_brace byte) (braces (drop (place + 1) text))

-- a brace is counted
pub counted : (count place byte : ℕ) (text : List ℕ) → SoFar count place text → place < length text
    → byte ≡ get_or text place byte → is_brace byte ≡ true → SoFar (count + 1) (place + 1) text
counted count place byte text h within here is =
    let step = here_and_rest place byte text within here ∙ ap (λ (b : Bool). (if b then 1 else 0) + braces (drop (place + 1) text)) is in
    record { few = omega (arith, h.few); within = omega (arith, within); all = omega (arith, h.all, step) }

-- another byte is passed over
pub passed_over : (count place byte : ℕ) (text : List ℕ) → SoFar count place text → place < length text
    → byte ≡ get_or text place byte → is_brace byte ≡ false → SoFar count (place + 1) text
passed_over count place byte text h within here is =
    let step = here_and_rest place byte text within here ∙ ap (λ (b : Bool). (if b then 1 else 0) + braces (drop (place + 1) text)) is in
    record { few = omega (arith, h.few); within = omega (arith, within); all = omega (arith, h.all, step) }

-- before the first byte none is counted
pub none_yet : (text : List ℕ) → SoFar 0 0 text
none_yet text = record { few = omega arith; within = omega arith; all = none (braces text) }
  where
    none : (n : ℕ) → (0 + n) ≡ n
    none n = omega arith

-- at the end all are counted
pub all_counted : (count place : ℕ) (text : List ℕ) → SoFar count place text → length text ≤ place → count ≡ braces text
all_counted count place text h le =
    let none : drop place text ≡ [] = drop_all place text le in
    let left : braces (drop place text) ≡ 0 = ap braces none in
    omega (arith, h.all, left)
