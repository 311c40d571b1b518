-- All that a run touches outside itself, at one moment.
use Rattle.lt_port.specs.Streams.{Incoming, Outgoing}

-- the input, the output, and standard error
pub record Outside : Type 0 where
  pub input : Incoming
  pub output : Outgoing
  pub error : Outgoing
