use Rattle.std.proofs.Common.{◌≡◌, ◌++◌}
use Rattle.sc_expand.proofs.Terms.{items_of}
use Rattle.sc_expand.proofs.work_list.settle.Given as goal

abbrev pub invariant-loop-rest : goal.invariant-loop-rest
invariant-loop-rest l = record {
  is : l.front.items ++ items_of l.rest ≡ l.initial.front.items ++ items_of l.initial.rest;
  cond : l.rest.cond ≡ l.initial.rest.cond;
}

abbrev pub decreases-loop-rest : goal.decreases-loop-rest
decreases-loop-rest l = l.rest.restricted
