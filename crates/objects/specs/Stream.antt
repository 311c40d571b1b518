-- Objects in their order, up to the first refusal.
use Rattle.std.specs.Prelude.{ℕ, List, [], ◌∷◌, ◌++◌, Option, Some, None, Result, Ok, Err}
use Rattle.words.specs.Reading.{map_value}

-- the objects before the first refusal, and that refusal; None: there is none
pub record Stream (V E : Type 0) : Type 0 where
  pub objects : List V
  pub fault : Option E

-- no object, and no refusal
abbrev pub ended : {V E : Type 0} → Stream V E
ended = record { objects = []; fault = None }

-- a refusal, and no object before it
abbrev pub refused : {V E : Type 0} → E → Stream V E
refused e = record { objects = []; fault = Some e }

-- an object, and those after it
abbrev pub before : {V E : Type 0} → V → Stream V E → Stream V E
before x others = record { objects = x ∷ others.objects; fault = others.fault }

-- objects, and those after them
abbrev pub all_before : {V E : Type 0} → List V → Stream V E → Stream V E
all_before front others = record { objects = front ++ others.objects; fault = others.fault }

-- the object that is read, and those from the place after it on
abbrev pub with_first : {V E : Type 0} → Result (V × ℕ) E → (ℕ → Stream V E) → Stream V E
with_first (Ok taken) others = before taken.0 (others taken.1)
with_first (Err e) others = refused e

-- all objects, if none is refused
abbrev pub unless : {V E : Type 0} → Option E → List V → Result (List V) E
unless None objects = Ok objects
unless (Some e) objects = Err e

abbrev pub all : {V E : Type 0} → Stream V E → Result (List V) E
all stream = unless stream.fault stream.objects

-- all objects of a stream after others, if none is refused
abbrev pub all_behind : {V E : Type 0} → List V → Stream V E → Result (List V) E
all_behind front stream = map_value (λ others. front ++ others) (all stream)
