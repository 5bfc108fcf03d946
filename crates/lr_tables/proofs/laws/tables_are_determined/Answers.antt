use Rattle.lr_tables.proofs.Determined.{action_unique, states_same, tables_same}
use Rattle.lr_tables.proofs.laws.tables_are_determined.Goals as goal

pub returns : goal.returns
returns c = record { states = states_same; action = λ g states s t. action_unique g states s t; tables = tables_same }
