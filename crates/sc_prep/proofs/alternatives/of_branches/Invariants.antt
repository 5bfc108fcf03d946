use Rattle.std.proofs.Common.{◌≡◌, map, take}
use Rattle.sc_prep.proofs.Terms.{alternative_tokens, branch_tokens}
use Rattle.sc_prep.proofs.alternatives.of_branches.Given as goal

abbrev pub invariant-loop-branch : goal.invariant-loop-branch
invariant-loop-branch l = map alternative_tokens l.alternatives.items ≡ map (branch_tokens l.list) (take l.branch-index l.branches)
