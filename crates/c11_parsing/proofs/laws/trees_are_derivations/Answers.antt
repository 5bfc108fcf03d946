use Rattle.c11_parsing.proofs.Derivations.{derives-text}
use Rattle.c11_parsing.proofs.laws.trees_are_derivations.Goals as goal

pub returns : goal.returns
returns c = derives-text
