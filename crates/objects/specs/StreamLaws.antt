-- What follows of all objects of a stream, step by step.
use Rattle.std.proofs.Common.{◌≡◌, List, [], ◌∷◌, ◌++◌, Some, None, Ok, Err, refl, sym, ap, ◌∙◌, append_assoc}
use Rattle.std.specs.Prelude.{Option, Result}
use Rattle.std.proofs.lemmas.List.{append-nil}
use Rattle.words.specs.Reading.{map_value, outcome}
use Rattle.words.specs.Steps.{ok_is}
use Rattle.objects.specs.Stream.{Stream, ended, refused, before, unless, all, all_behind}

-- ---- all objects, taken one after the other

none_as : {V E : Type 0} (fault : Option E) (objects : List V)
    → map_value (λ others. [] ++ others) (unless fault objects) ≡ unless fault objects
none_as None objects = refl
none_as (Some e) objects = refl

-- before the first step no object is in front of the others
pub from_none : {V E : Type 0} (stream : Stream V E) → all_behind [] stream ≡ all stream
from_none stream = none_as stream.fault stream.objects

one_as : {V E : Type 0} (front : List V) (x : V) (fault : Option E) (objects : List V)
    → map_value (λ others. (front ++ x ∷ []) ++ others) (unless fault objects)
    ≡ map_value (λ others. front ++ others) (unless fault (x ∷ objects))
one_as front x None objects = ap (λ (xs : List _). Ok xs) (append_assoc front (x ∷ []) objects)
one_as front x (Some e) objects = refl

-- one object more is in front of the others
pub one_on : {V E : Type 0} (front : List V) (x : V) (old new : Stream V E) (total : Result (List V) E)
    → old ≡ before x new → all_behind front old ≡ total → all_behind (front ++ x ∷ []) new ≡ total
one_on front x old new total step so_far =
    one_as front x new.fault new.objects ∙ (ap (all_behind front) (sym step) ∙ so_far)

-- no object is left
pub all_done : {V E : Type 0} (front : List V) (old : Stream V E) (total : Result (List V) E)
    → old ≡ ended → all_behind front old ≡ total → total ≡ Ok front
all_done front old total step so_far =
    sym so_far ∙ (ap (all_behind front) step ∙ ap (λ (xs : List _). Ok xs) (append-nil front))

-- the next object is refused
pub all_fail : {V E : Type 0} (front : List V) (old : Stream V E) (e : E) (total : Result (List V) E)
    → old ≡ refused e → all_behind front old ≡ total → total ≡ Err e
all_fail front old e total step so_far = sym so_far ∙ ap (all_behind front) step

-- ---- whether all objects are read

-- it can be read
abbrev pub done : {E : Type 0} → Result (Unit {0}) E
done = Ok tt

checked_as : {V E : Type 0} (x : V) (fault : Option E) (objects : List V)
    → outcome (unless fault (x ∷ objects)) ≡ outcome (unless fault objects)
checked_as x None objects = refl
checked_as x (Some e) objects = refl

-- one object more was read
pub checked_on : {V E : Type 0} (x : V) (old new : Stream V E) (total : Result (Unit {0}) E)
    → old ≡ before x new → outcome (all old) ≡ total → outcome (all new) ≡ total
checked_on x old new total step so_far =
    sym (checked_as x new.fault new.objects) ∙ (ap (λ (s : Stream _ _). outcome (all s)) (sym step) ∙ so_far)

-- no object is left
pub checked_end : {V E : Type 0} (old : Stream V E) (total : Result (Unit {0}) E)
    → old ≡ ended → outcome (all old) ≡ total → total ≡ done
checked_end old total step so_far = sym so_far ∙ ap (λ (s : Stream _ _). outcome (all s)) step

-- the next object is refused
pub checked_fail : {V E : Type 0} (old : Stream V E) (e : E) (total : Result (Unit {0}) E)
    → old ≡ refused e → outcome (all old) ≡ total → total ≡ Err e
checked_fail old e total step so_far = sym so_far ∙ ap (λ (s : Stream _ _). outcome (all s)) step

-- ---- what a check tells

right_as : {V E : Type 0} (fault : Option E) (objects : List V) → outcome (unless fault objects) ≡ done
    → (fault ≡ None) × (unless fault objects ≡ Ok objects)
right_as None objects is = (refl, refl)
right_as (Some e) objects is = absurd cc

-- a check that passed: there is no fault, and all objects are read
pub all_checked : {V E : Type 0} (s : Stream V E) → outcome (all s) ≡ done → (s.fault ≡ None) × (all s ≡ Ok s.objects)
all_checked s is = right_as s.fault s.objects is

wrong_as : {V E : Type 0} (fault : Option E) (objects : List V) (e : E)
    → outcome (unless fault objects) ≡ Err e → unless fault objects ≡ Err e
wrong_as None objects e is = absurd cc
wrong_as (Some d) objects e is = cc

-- a check that failed: the reading of all objects has the same refusal
pub all_refused : {V E : Type 0} (s : Stream V E) (e : E) → outcome (all s) ≡ Err e → all s ≡ Err e
all_refused s e is = wrong_as s.fault s.objects e is

given_as : {V E : Type 0} (fault : Option E) (objects values : List V) → unless fault objects ≡ Ok values
    → (fault ≡ None) × (objects ≡ values)
given_as None objects values is = (refl, ok_is objects values is)
given_as (Some e) objects values is = absurd cc

-- objects that are all read are those of a stream without a fault
pub all_given : {V E : Type 0} (s : Stream V E) (values : List V) → all s ≡ Ok values
    → (s.fault ≡ None) × (s.objects ≡ values)
all_given s values is = given_as s.fault s.objects values is
