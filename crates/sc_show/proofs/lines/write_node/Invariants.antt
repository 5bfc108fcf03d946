use Rattle.std.proofs.Common.{◌≡◌, ◌++◌, take}
use Rattle.std.specs.List.{flat_map}
use Rattle.sc_text.specs.Text.{child_text}
use Rattle.sc_show.proofs.lines.write_node.Given as goal

abbrev pub invariant-loop-child : goal.invariant-loop-child
invariant-loop-child l = l.text.items ≡ l.initial.text.items ++ flat_map child_text (take l.child-index l.children)
