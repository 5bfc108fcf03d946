use Rattle.std.proofs.Common.{◌≡◌, ◌↔◌}
use Rattle.sc_stack.specs.Entries.{states_of}
use Rattle.sc_stack.specs.Links.{entries_of}
use Rattle.sc_stack.proofs.link.Link.same_states.Given as goal

abbrev pub invariant-loop-here : goal.invariant-loop-here
invariant-loop-here l =
    states_of (entries_of l.here) ≡ states_of (entries_of l.there) ↔ states_of (entries_of l.self) ≡ states_of (entries_of l.other)
