use Rattle.std.proofs.Common.{◌≡◌, ◌↔◌}
use Rattle.sc_scope.specs.Kept.{bindings_of}
use Rattle.sc_scope.proofs.bindings.Bindings.same.Given as goal

abbrev pub invariant-loop-here : goal.invariant-loop-here
invariant-loop-here l = bindings_of l.here ≡ bindings_of l.there ↔ bindings_of l.self ≡ bindings_of l.other
