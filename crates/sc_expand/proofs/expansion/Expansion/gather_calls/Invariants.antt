use Rattle.std.proofs.Common.{take}
use Rattle.sc_expand.proofs.Terms.{AreGathered, Grows, stores}
use Rattle.sc_expand.proofs.expansion.Expansion.gather_calls.Given as goal

abbrev pub invariant-loop-branch : goal.invariant-loop-branch
invariant-loop-branch g l =
    let old = stores (g.C.Conditions.sets l.fn.conds) l.fn.names l.fn.self.sets in
    let now = stores (g.C.Conditions.sets l.conds) l.names l.self.sets in
    record {
      grows : Grows old now;
      gathered : AreGathered old now l.fn.self l.self l.form l.items l.head (take l.branch-index l.branches);
    }
