-- Laws of items, in order: the steps of a loop that reads them, and what holds of all of them.
use Rattle.std.specs.Prelude.{IfOk}
use Rattle.std.proofs.Common.{◌≡◌, ℕ, zero, suc, ◌+◌, ◌<◌, ◌≤◌, List, [], ◌∷◌, ◌++◌, Option, Result, Ok, Err, Some}
use Rattle.std.proofs.Common.{None, refl, sym, subst, ◌∙◌, arith}
use Rattle.pieces.specs.Many.{Item, More, many}

-- ---- the steps of a loop

-- reading on from here gives the total; the fuel is enough for the bytes that are left
pub record ManyFrom {X E : Type 0} (item : Item X E) (more : More E) (size : ℕ) (read : List X) (place : ℕ)
    (total : Result (List X × ℕ) E) : Type 0 where
  pub fuel : ℕ
  pub enough : size < place + fuel
  pub rest : many item more fuel read place ≡ total

-- before the first item
pub many_from_start : {X E : Type 0} (item : Item X E) (more : More E) (size place : ℕ)
    → ManyFrom item more size [] place (many item more (size + 1) [] place)
many_from_start item more size place = record {
  fuel = size + 1;
  enough = omega arith;
  rest = refl;
}

-- inside the text there is fuel for one more item
pub many_is : {X E : Type 0} (item : Item X E) (more : More E) (size : ℕ) (read : List X) (place : ℕ)
    (total : Result (List X × ℕ) E) → ManyFrom item more size read place total → place ≤ size
    → (fuel : ℕ) × (size < place + suc fuel) × (many item more (suc fuel) read place ≡ total)
many_is item more size read place total from within = go from.fuel from.enough from.rest where
  go : (fuel : ℕ) → size < place + fuel → many item more fuel read place ≡ total
      → (left : ℕ) × (size < place + suc left) × (many item more (suc left) read place ≡ total)
  go zero enough rest = absurd (omega arith)
  go (suc fuel) enough rest = (fuel, enough, rest)

-- one more item was read, and there are more
pub many_on : {X E : Type 0} (item : Item X E) (more : More E) (size : ℕ) (read : List X) (place : ℕ)
    (total : Result (List X × ℕ) E) (x : X) (after start : ℕ) → ManyFrom item more size read place total
    → place ≤ size → item read place ≡ Ok (x, after) → more after ≡ Ok (Some start) → place < start
    → ManyFrom item more size (read ++ x ∷ []) start total
unfolding many
many_on item more size read place total x after start from within one next further =
    let is = many_is item more size read place total from within in
    record {
      fuel = is.0;
      enough = omega arith;
      rest = sym (rw (one, next) refl) ∙ is.2;
    }

-- one more item was read, and it is the last one
pub many_done : {X E : Type 0} (item : Item X E) (more : More E) (size : ℕ) (read : List X) (place : ℕ)
    (total : Result (List X × ℕ) E) (x : X) (after : ℕ) → ManyFrom item more size read place total → place ≤ size
    → item read place ≡ Ok (x, after) → more after ≡ Ok None → total ≡ Ok (read ++ x ∷ [], after)
unfolding many
many_done item more size read place total x after from within one next =
    let is = many_is item more size read place total from within in
    sym is.2 ∙ rw (one, next) refl

-- the next item is refused
pub many_refused : {X E : Type 0} (item : Item X E) (more : More E) (size : ℕ) (read : List X) (place : ℕ)
    (total : Result (List X × ℕ) E) (refusal : E) → ManyFrom item more size read place total → place ≤ size
    → item read place ≡ Err refusal → total ≡ Err refusal
unfolding many
many_refused item more size read place total refusal from within one =
    let is = many_is item more size read place total from within in
    sym is.2 ∙ rw one refl

-- the next item is read, and what follows it is refused
pub many_stopped : {X E : Type 0} (item : Item X E) (more : More E) (size : ℕ) (read : List X) (place : ℕ)
    (total : Result (List X × ℕ) E) (x : X) (after : ℕ) (refusal : E) → ManyFrom item more size read place total
    → place ≤ size → item read place ≡ Ok (x, after) → more after ≡ Err refusal → total ≡ Err refusal
unfolding many
many_stopped item more size read place total x after refusal from within one next =
    let is = many_is item more size read place total from within in
    sym is.2 ∙ rw (one, next) refl

-- ---- what each item keeps

-- an item was read that keeps it, and what follows the item is known
kept_behind : {X E : Type 0} (item : Item X E) (more : More E) (P : List X → Type 0) (fuel : ℕ) (read : List X)
    (place : ℕ) (one : X × ℕ) (next : Result (Option ℕ) E) → item read place ≡ Ok one → more one.1 ≡ next
    → P (read ++ one.0 ∷ [])
    → ((start : ℕ) → IfOk (many item more fuel (read ++ one.0 ∷ []) start) (λ all. P all.0))
    → IfOk (many item more (suc fuel) read place) (λ all. P all.0)
unfolding many
kept_behind item more P fuel read place one (Ok (Some start)) is further kept later = rw (is, further) (later start)
kept_behind item more P fuel read place one (Ok None) is further kept later = rw (is, further) kept
kept_behind item more P fuel read place one (Err refusal) is further kept later = rw (is, further) tt

-- one more item, which keeps it if it is read
kept_once : {X E : Type 0} (item : Item X E) (more : More E) (P : List X → Type 0) (fuel : ℕ) (read : List X)
    (place : ℕ) (one : Result (X × ℕ) E) → item read place ≡ one → IfOk one (λ one. P (read ++ one.0 ∷ []))
    → ((items : List X) (start : ℕ) → P items → IfOk (many item more fuel items start) (λ all. P all.0))
    → IfOk (many item more (suc fuel) read place) (λ all. P all.0)
unfolding many
kept_once item more P fuel read place (Ok one) is kept later = kept_behind item more P fuel read place one (more one.1)
    is refl kept (λ start. later (read ++ one.0 ∷ []) start kept)
kept_once item more P fuel read place (Err refusal) is kept later = rw is tt

-- a fact that each item keeps holds of all items
pub many_keep : {X E : Type 0} (item : Item X E) (more : More E) (P : List X → Type 0) (fuel : ℕ) (read : List X)
    (place : ℕ) → ((read : List X) (place : ℕ) → P read → IfOk (item read place) (λ one. P (read ++ one.0 ∷ [])))
    → P read
    → IfOk (many item more fuel read place) (λ all. P all.0)
unfolding many
many_keep item more P zero read place step holds = holds
many_keep item more P (suc fuel) read place step holds = kept_once item more P fuel read place (item read place) refl
    (step read place holds) (λ items start kept. many_keep item more P fuel items start step kept)

-- a fact that holds of the first item alone, and that each item keeps, holds of all items
pub many_some : {X E : Type 0} (item : Item X E) (more : More E) (P : List X → Type 0) (size place : ℕ)
    → ((place : ℕ) → IfOk (item [] place) (λ one. P (one.0 ∷ [])))
    → ((read : List X) (place : ℕ) → P read → IfOk (item read place) (λ one. P (read ++ one.0 ∷ [])))
    → IfOk (many item more (size + 1) [] place) (λ all. P all.0)
many_some item more P size place first step =
    let one_more : suc size ≡ size + 1 = omega arith in
    subst (λ (fuel : ℕ). IfOk (many item more fuel [] place) (λ all. P all.0)) one_more
    (kept_once item more P size [] place (item [] place) refl (first place)
    (λ items start kept. many_keep item more P size items start step kept))
