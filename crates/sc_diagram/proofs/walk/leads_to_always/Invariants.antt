use Rattle.std.proofs.Common.{◌≡◌, ◌<◌, length}
use Rattle.sc_diagram.specs.Diagram.{sets_of}
use Rattle.sc_diagram.proofs.walk.leads_to_always.Given as goal

abbrev pub decreases-loop-at : goal.decreases-loop-at
decreases-loop-at l = l.at

abbrev pub invariant-loop-at : goal.invariant-loop-at
invariant-loop-at l = record {
  own : l.at < length l.table.nodes;
  same : (sets_of l.table).has l.at l.config ≡ (sets_of l.table).has l.fn.node l.config;
}
