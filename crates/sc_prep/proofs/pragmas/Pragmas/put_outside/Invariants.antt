use Rattle.std.proofs.Common.{take}
use Rattle.sc_prep.proofs.Terms.{Keeps}
use Rattle.sc_prep.specs.Pragmas.{PutsOutside}
use Rattle.sc_prep.proofs.pragmas.Pragmas.put_outside.Given as goal

abbrev pub invariant-loop-index : goal.invariant-loop-index
invariant-loop-index g l =
    let sets = g.C.Conditions.sets in
    record {
      puts : PutsOutside l.names (sets l.fn.conds) l.fn.self (take l.index l.items) l.by.0 l.fn.list (sets l.conds) l.self l.list;
      keeps : Keeps (sets l.fn.conds) (sets l.conds);
    }
