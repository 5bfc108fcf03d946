use Rattle.std.proofs.Common.{take}
use Rattle.sc_expand.proofs.Terms.{AreTaken, Grows, stores}
use Rattle.sc_expand.proofs.expansion.Expansion.take_parts.Given as goal

abbrev pub invariant-loop-part : goal.invariant-loop-part
invariant-loop-part g l =
    let old = stores (g.C.Conditions.sets l.fn.conds) l.fn.names l.fn.self.sets in
    let now = stores (g.C.Conditions.sets l.conds) l.names l.self.sets in
    record {
      grows : Grows old now;
      done : AreTaken l.files old now l.fn.self l.self l.fn.taken l.taken l.head (take l.part-index l.parts);
    }
