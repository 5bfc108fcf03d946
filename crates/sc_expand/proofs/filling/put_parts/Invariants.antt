use Rattle.sc_expand.proofs.FillingLemmas.{Fills}
use Rattle.sc_expand.proofs.filling.put_parts.Given as goal

abbrev pub invariant-loop-part : goal.invariant-loop-part
invariant-loop-part g l = Fills (g.C.Conditions.sets l.fn.conds) (g.C.Conditions.sets l.conds) l.expanded l.cond l.parts l.made l.part-index
