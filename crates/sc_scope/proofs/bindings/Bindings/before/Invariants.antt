use Rattle.std.proofs.Common.{◌≡◌, ◌++◌, vec_len}
use Rattle.sc_scope.specs.Kept.{bindings_of}
use Rattle.sc_scope.proofs.bindings.Bindings.before.Given as goal

abbrev pub invariant-loop-cond : goal.invariant-loop-cond
invariant-loop-cond l = l.newer.items ++ bindings_of l.all ≡ bindings_of l.self ++ bindings_of l.older

abbrev pub decreases-loop-cond : goal.decreases-loop-cond
decreases-loop-cond l = vec_len l.newer
