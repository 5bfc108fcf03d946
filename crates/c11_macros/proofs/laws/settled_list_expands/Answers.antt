use Rattle.c11_macros.proofs.SettledLists.{settles-more}
use Rattle.c11_macros.proofs.laws.settled_list_expands.Goals as goal

pub returns : goal.returns
returns g c = λ provenance macros ts done rest more r settles expands. settles-more provenance macros more r settles expands
