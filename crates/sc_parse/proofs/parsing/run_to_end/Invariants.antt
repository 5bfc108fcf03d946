use Rattle.sc_parse.proofs.EndLemmas.{HasComeTo}
use Rattle.sc_parse.proofs.parsing.run_to_end.Given as goal

-- the elements before this one are done
abbrev pub invariant-loop-at : goal.invariant-loop-at
invariant-loop-at g l =
    HasComeTo (g.C.Conditions.sets l.fn.conds) (g.C.Conditions.sets l.conds) l.fn.trees l.trees l.elements l.branches l.at l.classes l.fn.steps l.steps l.rows
