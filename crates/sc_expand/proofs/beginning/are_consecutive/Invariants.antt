use Rattle.std.proofs.Common.{◌≡◌, ◌+◌, ◌<◌, ℕ, Some}
use Rattle.sc_expand.proofs.Terms.{slice_get}
use Rattle.sc_expand.proofs.beginning.are_consecutive.Given as goal

abbrev pub invariant-loop-index : goal.invariant-loop-index
invariant-loop-index l = (index place : ℕ) → index < l.index → slice_get l.places index ≡ Some place → place ≡ l.first + index
