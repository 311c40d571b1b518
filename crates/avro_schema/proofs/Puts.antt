-- What was put, one behind the other.
use Rattle.std.proofs.Common.{◌≡◌, List, [], ◌∷◌, ◌++◌, Result, Ok, Err, append_assoc, ap, sym, subst, ◌∙◌}
use Rattle.json.specs.Token.{Token}
use Rattle.json.specs.Written.{Written, Writes}
use Rattle.avro_schema.specs.Putting.{Puts}

-- the tokens stand behind those that were there
abbrev pub Put : Written → Written → List Token → Type 0
Put old new tokens = (new.before ≡ old.before) × (new.tokens ≡ old.tokens ++ tokens)

-- a token that is written last
pub wrote_last : {E : Type 0} (result : Result (Unit {0}) E) (old new : Written) (token : Token) → Writes result old new token → Puts result old new (token ∷ [])
wrote_last (Ok x) old new token writes = (writes.room.0, writes.ok)
wrote_last (Err e) old new token writes = tt

-- tokens, and others behind them
pub put_then : {E : Type 0} (result : Result (Unit {0}) E) (old between new : Written) (first second : List Token)
    → Put old between first → Puts result between new second → Puts result old new (first ++ second)
put_then (Ok x) old between new first second put puts = (puts.0 ∙ put.0, puts.1 ∙ ap (λ l. l ++ second) put.1 ∙ append_assoc _ first second)
put_then (Err e) old between new first second put puts = tt

-- a token, and others behind it
pub wrote_then : {E : Type 0} (done : Unit {0}) (result : Result (Unit {0}) E) (old between new : Written) (token : Token) (second : List Token)
    → Writes {E = E} (Ok done) old between token → Puts result between new second → Puts result old new (token ∷ second)
wrote_then done result old between new token second writes puts = put_then result old between new (token ∷ []) second (writes.room.0, writes.ok) puts

-- tokens that are the same
pub puts_as : {E : Type 0} (result : Result (Unit {0}) E) (old new : Written) {tokens others : List Token} → tokens ≡ others → Puts result old new others → Puts result old new tokens
puts_as result old new same puts = subst (λ tokens. Puts result old new tokens) (sym same) puts
