use Rattle.lineage_model.proofs.Counted.{rules_by_numbers, numbers_behind, opens_behind}
use Rattle.lineage_model.proofs.laws.numbers_are_enough.Goals as goal

pub returns-clause-rules : goal.returns-clause-rules
returns-clause-rules c = rules_by_numbers

pub returns-clause-counted : goal.returns-clause-counted
returns-clause-counted c = numbers_behind

pub returns-clause-opening : goal.returns-clause-opening
returns-clause-opening c = opens_behind
