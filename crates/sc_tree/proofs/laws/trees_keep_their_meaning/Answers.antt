use Rattle.sc_tree.proofs.ReadLemmas.{Reads-Grows}
use Rattle.sc_tree.proofs.laws.trees_keep_their_meaning.Goals as goal

pub returns : goal.returns
returns c = Reads-Grows
