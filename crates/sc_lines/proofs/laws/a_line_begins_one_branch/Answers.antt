use Rattle.sc_lines.proofs.BranchLaws.{branch-same}
use Rattle.sc_lines.proofs.laws.a_line_begins_one_branch.Goals as goal

pub returns : goal.returns
returns c = branch-same
