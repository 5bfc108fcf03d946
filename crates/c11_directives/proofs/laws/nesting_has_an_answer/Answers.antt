use Rattle.c11_directives.proofs.SomeNesting.{lines-hashes, tree-some}
use Rattle.c11_directives.proofs.laws.nesting_has_an_answer.Goals as goal

pub returns : goal.returns
returns c = λ standard tokens. tree-some _ (lines-hashes standard tokens)
