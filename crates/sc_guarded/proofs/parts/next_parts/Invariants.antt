use Rattle.sc_guarded.proofs.NextLemmas.{PartsTo}
use Rattle.sc_guarded.proofs.parts.next_parts.Given as goal

abbrev pub invariant-loop-index : goal.invariant-loop-index
invariant-loop-index g l = PartsTo (g.C.Conditions.sets l.fn.conds) (g.C.Conditions.sets l.conds) l.items l.from l.fn.cond l.index l.left l.parts.items
