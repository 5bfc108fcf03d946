use Rattle.std.proofs.Common.{refl}
use Rattle.sc_grammar.specs.Terminals.{terminal_names}
use Rattle.sc_grammar.proofs.terminal.names.Goals as goal

pub returns : goal.returns
unfolding terminal_names
returns c = record { names = refl; in_order = refl }
