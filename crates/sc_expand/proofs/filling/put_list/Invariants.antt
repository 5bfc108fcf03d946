use Rattle.sc_expand.proofs.FillingLemmas.{Puts}
use Rattle.sc_expand.proofs.filling.put_list.Given as goal

abbrev pub invariant-loop-index : goal.invariant-loop-index
invariant-loop-index g l = Puts (g.C.Conditions.sets l.fn.conds) (g.C.Conditions.sets l.conds) l.fn.cond l.left l.space l.list l.fn.made l.made l.index
