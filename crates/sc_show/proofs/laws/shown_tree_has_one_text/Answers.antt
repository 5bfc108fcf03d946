use Rattle.sc_show.proofs.OneShownTree.{one_shown_tree}
use Rattle.sc_show.proofs.laws.shown_tree_has_one_text.Goals as goal

pub returns : goal.returns
returns c = λ space s names files store root faults p q. one_shown_tree
