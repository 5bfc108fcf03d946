use Rattle.c11_directives.proofs.ListedLaws.{says-unique}
use Rattle.c11_directives.proofs.laws.listing_has_one_answer.Goals as goal

pub returns : goal.returns
returns c = λ space config r s. says-unique space
