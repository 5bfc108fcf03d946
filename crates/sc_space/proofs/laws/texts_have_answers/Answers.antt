use Rattle.sc_space.proofs.TextLists.{are_texts, the_texts}
use Rattle.sc_space.proofs.laws.texts_have_answers.Goals as goal

pub returns : goal.returns
returns c = (the_texts, are_texts)
