use Rattle.std.proofs.Common.{◌≡◌, ◌+◌, take}
use Rattle.sc_project.specs.Leaves.{leaves_in}
use Rattle.sc_project.proofs.size.first_lines.Given as goal

abbrev pub invariant-loop-id : goal.invariant-loop-id
invariant-loop-id l = record {
  leaves : l.leaves ≡ leaves_in (take l.id l.trees);
  all : l.leaves + l.nodes ≡ l.id;
}
