use Rattle.c11_directives.proofs.SomeWalk.{pre-some}
use Rattle.c11_directives.proofs.laws.preprocessing_has_an_answer.Goals as goal

pub returns : goal.returns
returns c = pre-some
