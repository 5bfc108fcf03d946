use Rattle.std.proofs.Common.{◌≡◌, ◌++◌}
use Rattle.sc_scope.specs.Kept.{bindings_of}
use Rattle.sc_scope.proofs.bindings.Bindings.listed.Given as goal

abbrev pub invariant-loop-bindings : goal.invariant-loop-bindings
invariant-loop-bindings l = l.list.items ++ bindings_of l.bindings ≡ bindings_of l.self
