use Rattle.std.proofs.Common.{◌≡◌, ◌<◌, ◌++◌, length}
use Rattle.sc_expand.proofs.Terms.{items_of}
use Rattle.sc_expand.proofs.WorkListLemmas.{Restricted}
use Rattle.sc_expand.proofs.work_list.restrict_argument.Given as goal

abbrev pub invariant-loop-index : goal.invariant-loop-index
invariant-loop-index g l = record {
  restricted : Restricted (g.C.Conditions.sets l.fn.conds) (g.C.Conditions.sets l.conds) l.by.0 l.index (l.fn.front.items ++ items_of l.fn.rest) (l.front.items ++ items_of l.rest);
  long : length l.front.items ≡ length l.initial.front.items;
  unrestricted : length l.front.items < l.count → l.rest.restricted ≡ 0;
}
