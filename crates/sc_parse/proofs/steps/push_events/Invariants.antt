use Rattle.std.proofs.Common.{◌≡◌, ◌++◌, take}
use Rattle.sc_fork.specs.Bundles.{events_of}
use Rattle.sc_parse.proofs.steps.push_events.Given as goal

abbrev pub invariant-loop-number : goal.invariant-loop-number
invariant-loop-number l = l.events.items ≡ l.initial.events.items ++ events_of l.kind (take l.number-index l.members)
