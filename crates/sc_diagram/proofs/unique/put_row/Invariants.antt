use Rattle.std.proofs.Common.{◌≡◌, ◌++◌, take}
use Rattle.sc_diagram.proofs.unique.put_row.Given as goal

abbrev pub invariant-loop-child : goal.invariant-loop-child
invariant-loop-child l = l.all.items ≡ l.fn.all.items ++ take l.child-index l.children
