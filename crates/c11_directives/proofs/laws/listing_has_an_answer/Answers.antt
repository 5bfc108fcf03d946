use Rattle.c11_directives.proofs.ListedLaws.{says-some}
use Rattle.c11_directives.proofs.laws.listing_has_an_answer.Goals as goal

pub returns : goal.returns
returns c = says-some
