use Rattle.std.proofs.Common.{◌≡◌, ◌++◌, take}
use Rattle.std.specs.List.{flat_map}
use Rattle.sc_text.specs.Text.{branch_text}
use Rattle.sc_show.proofs.lines.write_branches.Given as goal

abbrev pub invariant-loop-branch : goal.invariant-loop-branch
invariant-loop-branch l = l.text.items ≡ l.initial.text.items ++ flat_map branch_text (take l.branch-index l.branches)
