use Rattle.c11_parsing.proofs.OneClass.{one-class}
use Rattle.c11_parsing.proofs.laws.classes_are_determined.Goals as goal

pub returns : goal.returns
returns c = one-class
