use Rattle.std.proofs.Common.{◌≡◌, ◌++◌, length}
use Rattle.sc_expand.proofs.Terms.{items_left}
use Rattle.sc_expand.proofs.WorkListLemmas.{Restricted}
use Rattle.sc_expand.proofs.work_list.restrict_source.Given as goal

abbrev pub invariant-loop-index : goal.invariant-loop-index
invariant-loop-index g l = record {
  restricted : Restricted (g.C.Conditions.sets l.fn.conds) (g.C.Conditions.sets l.conds) l.by.0 l.index (l.fn.front.items ++ items_left l.fn.source) (l.front.items ++ items_left l.source);
  long : length l.front.items ≡ length l.fn.front.items;
}

abbrev pub invariant-loop-index-2 : goal.invariant-loop-index-2
invariant-loop-index-2 g l =
    Restricted (g.C.Conditions.sets l.fn.conds) (g.C.Conditions.sets l.conds) l.by.0 l.index (l.fn.front.items ++ items_left l.fn.source) (l.front.items ++ items_left l.source)
