use Rattle.std.proofs.Common.{inl}
use Rattle.lineage_cli.specs.declared.command.Command.TheVariants.{Rows, Audit}
use Rattle.lineage_cli.proofs.command.serve.Goals as goal

pub returns-in-Some-Rows : goal.returns-in-Some-Rows
returns-in-Some-Rows g c = λ error. record {
  asked = inl (record { command = Rows c.in-Some-Rows.first c.in-Some-Rows.sequence; asks = rw c.in-Some-Rows.field-0-is at c.in-Some-Rows.ensures; serves = c.serve.ensures.serves error });
  leaves = c.serve.ensures.leaves error;
}

pub returns-in-Some-Audit : goal.returns-in-Some-Audit
returns-in-Some-Audit g c = λ error. record {
  asked = inl (record { command = Audit; asks = rw c.in-Some-Audit.field-0-is at c.in-Some-Audit.ensures; serves = c.serve-in-Some-Audit.ensures.serves error });
  leaves = c.serve-in-Some-Audit.ensures.leaves error;
}
