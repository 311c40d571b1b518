-- Facts that hold of whatever a reader reads.
use Rattle.std.proofs.Common.{◌≡◌, Bool, true, false, if◌then◌else◌, Result, Ok, Err, IfOk, refl}
use Rattle.words.specs.Reading.{◌>>=◌, Gives, map_refusal, map_value}

-- where it holds of each answer that may be read
pub if_read : {X E : Type 0} (P : X → Type 0) (read : Result X E) → ((x : X) → read ≡ Ok x → P x) → IfOk read P
if_read P (Ok x) h = h x refl
if_read P (Err refusal) h = tt

-- and of the one that was read
pub of_read : {X E : Type 0} (P : X → Type 0) (read : Result X E) (x : X) → read ≡ Ok x → IfOk read P → P x
of_read P read x is h = rw is at h

-- and of what a call gave of it
pub if_given : {X E : Type 0} (P : X → Type 0) (is_memory : E → Bool) (result read : Result X E)
    → Gives is_memory (λ x. x) result read → IfOk read P → IfOk result P
if_given P is_memory (Ok x) read given h = of_read P read x given h
if_given P is_memory (Err refusal) read given h = tt

-- nothing is asked of what is read
pub if_any : {X E : Type 0} (read : Result X E) → IfOk read (λ _. Unit {0})
if_any (Ok x) = tt
if_any (Err refusal) = tt

-- of a view of what is read
pub if_viewed : {X Y E : Type 0} (P : Y → Type 0) (view : X → Y) (read : Result X E)
    → IfOk read (λ x. P (view x)) → IfOk (map_value view read) P
if_viewed P view (Ok x) h = h
if_viewed P view (Err refusal) h = tt

-- whatever the refusals are named
pub if_renamed : {X E F : Type 0} (P : X → Type 0) (name : E → F) (read : Result X E)
    → IfOk read P → IfOk (map_refusal name read) P
if_renamed P name (Ok x) h = h
if_renamed P name (Err refusal) h = tt

-- of a second reader after the first
pub if_then : {X Y E : Type 0} (P : X → Type 0) (Q : Y → Type 0) (read : Result X E) (next : X → Result Y E)
    → IfOk read P → ((x : X) → P x → IfOk (next x) Q) → IfOk (read >>= next) Q
if_then P Q (Ok x) next h on = on x h
if_then P Q (Err refusal) next h on = tt

-- of the reader that a test chooses
pub if_chosen : {X E : Type 0} (P : X → Type 0) (test : Bool) (one other : Result X E)
    → IfOk one P → IfOk other P → IfOk (if test then one else other) P
if_chosen P true one other h g = h
if_chosen P false one other h g = g

-- of what is read where a test is passed
pub if_passed : {X E : Type 0} (P : X → Type 0) (test : Bool) (x : X) (refusal : E)
    → (test ≡ true → P x) → IfOk (if test then Ok x else Err refusal) P
if_passed P true x refusal h = h refl
if_passed P false x refusal h = tt

-- and where it fails
pub if_failed : {X E : Type 0} (P : X → Type 0) (test : Bool) (x : X) (refusal : E)
    → (test ≡ false → P x) → IfOk (if test then Err refusal else Ok x) P
if_failed P true x refusal h = tt
if_failed P false x refusal h = h refl
