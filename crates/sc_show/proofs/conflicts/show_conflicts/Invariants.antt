use Rattle.std.proofs.Common.{◌≡◌, map, take}
use Rattle.std.specs.List.{concat}
use Rattle.sc_show.specs.Conflicts.{conflict_text}
use Rattle.sc_show.proofs.conflicts.show_conflicts.Given as goal

abbrev pub invariant-loop-conflict : goal.invariant-loop-conflict
invariant-loop-conflict l = l.text.items ≡ concat (map conflict_text (take l.conflict-index l.conflict-items))
