-- What a contract sees of a source and of a sink, and how a call changes their counts.
use Rattle.std.specs.Prelude.{ℕ, ◌+◌, ◌-◌, ◌^◌, min, List, Option, Result, Ok, Err}
use Rattle.lt_port.specs.declared.failure.PortError.{PortError}
use Rattle.lt_port.specs.declared.failure.PortError.TheVariants.{Failed, Memory}

-- a source: the bytes that are left, if it states them, and how many of its calls have failed
pub record Incoming : Type 0 where
  pub left : Option (List ℕ)
  pub faults : ℕ

-- how many calls of a sink have failed, and for how many memory ran out
pub record Counts : Type 0 where
  pub faults : ℕ
  pub wants : ℕ

-- a sink: the bytes that were written, if it states them, and its counts
pub record Outgoing : Type 0 where
  pub written : Option (List ℕ)
  pub counts : Counts

-- one more, up to the largest number of 64 bits
abbrev pub one_more : ℕ → ℕ
one_more count = min (count + 1) (2 ^ 64 - 1)

-- the count of a source after a call: one that failed counts, and no other
abbrev pub faults_after : {A E : Type 0} → Result A E → ℕ → ℕ
faults_after (Ok value) faults = faults
faults_after (Err failed) faults = one_more faults

-- the counts of a sink after a call: one that failed, or wanted memory, counts as such, and no other
abbrev pub counts_after : {A : Type 0} → Result A PortError → Counts → Counts
counts_after (Ok value) counts = counts
counts_after (Err Failed) counts = record { faults = one_more counts.faults; wants = counts.wants }
counts_after (Err Memory) counts = record { faults = counts.faults; wants = one_more counts.wants }

-- the counts of a sink whose calls never want memory
abbrev pub never_wanting : ℕ → Counts
never_wanting faults = record { faults = faults; wants = 0 }
