use Rattle.sc_lines.proofs.LineLaws.{lines-one}
use Rattle.sc_lines.proofs.laws.tokens_have_one_list_of_lines.Goals as goal

pub returns : goal.returns
returns c = lines-one
