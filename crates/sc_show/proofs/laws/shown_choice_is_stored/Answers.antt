use Rattle.sc_show.proofs.TreeResults.{choice-stored}
use Rattle.sc_show.proofs.laws.shown_choice_is_stored.Goals as goal

pub returns : goal.returns
returns c = λ space s names files store root faults text shows number tests. choice-stored s names files store shows.ids shows.parts number tests
