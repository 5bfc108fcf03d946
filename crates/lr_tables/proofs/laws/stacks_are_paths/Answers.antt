use Rattle.lr_tables.proofs.Stacks.{one_symbol, reduces, same_symbols}
use Rattle.lr_tables.proofs.laws.stacks_are_paths.Goals as goal

pub returns : goal.returns
returns c = record { symbol = λ g states s r x y t. one_symbol g states s r x y t; symbols = same_symbols; reduction = reduces }
