-- What a contract sees of a source and a sink in memory.
use Rattle.std.specs.Prelude.{ℕ, List}
use Rattle.lt_port.specs.Streams.{Counts}

-- the bytes left, the most that a call gives, which calls fail, how many there were, how many failed
pub record SourceState : Type 0 where
  pub left : List ℕ
  pub piece : ℕ
  pub failing : List ℕ
  pub calls : ℕ
  pub faults : ℕ

-- the bytes written, the most that a call takes, which calls fail, how many there were, and how many went wrong
pub record SinkState : Type 0 where
  pub written : List ℕ
  pub piece : ℕ
  pub failing : List ℕ
  pub calls : ℕ
  pub counts : Counts
