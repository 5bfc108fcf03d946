use Rattle.std.proofs.Common.{take}
use Rattle.sc_prep.proofs.Terms.{Keeps, TakesOut}
use Rattle.sc_prep.proofs.open_runs.OpenRuns.text_of.Given as goal

abbrev pub invariant-loop-index : goal.invariant-loop-index
invariant-loop-index g l = record {
  takes : TakesOut (g.C.Conditions.sets l.fn.conds) l.self.read l.fn.under.0 (g.C.Conditions.sets l.conds) l.left.0 l.text (take l.index l.self.read);
  keeps : Keeps (g.C.Conditions.sets l.fn.conds) (g.C.Conditions.sets l.conds);
}
