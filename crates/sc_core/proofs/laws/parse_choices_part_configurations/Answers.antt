use Rattle.sc_core.proofs.Choices.{two-branches, two-conditions}
use Rattle.sc_core.proofs.laws.parse_choices_part_configurations.Goals as goal

pub returns-clause-one_branch : goal.returns-clause-one_branch
returns-clause-one_branch c = λ s pieces accepted text answer reads number branch at. two-branches text reads number branch at

pub returns-clause-one_condition : goal.returns-clause-one_condition
returns-clause-one_condition c = λ s pieces accepted text answer reads number a b test at. two-conditions text reads number a b test at
