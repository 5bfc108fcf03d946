use Rattle.std.proofs.Common.{◌≡◌, ◌++◌}
use Rattle.sc_stack.specs.Entries.{states_of}
use Rattle.sc_stack.specs.Links.{entries_of}
use Rattle.sc_stack.proofs.link.Link.states.Given as goal

abbrev pub invariant-loop-link : goal.invariant-loop-link
invariant-loop-link l = l.states.items ++ states_of (entries_of l.link) ≡ states_of (entries_of l.self)
