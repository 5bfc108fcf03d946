use Rattle.std.proofs.Common.{take}
use Rattle.sc_expand.proofs.ClosingLemmas.{is_any}
use Rattle.sc_expand.proofs.Terms.{Denotes, Keeps, is_several, items_at}
use Rattle.sc_expand.proofs.closing.with_several.Given as goal

abbrev pub invariant-loop-index : goal.invariant-loop-index
invariant-loop-index g l =
    let sets = g.C.Conditions.sets in
    record {
      keeps : Keeps (sets l.fn.conds) (sets l.conds);
      some : Denotes (sets l.conds) l.some.0 (λ c. is_any (items_at (sets l.fn.conds) (take l.index l.list) c));
      several : Denotes (sets l.conds) l.several.0 (λ c. is_several (items_at (sets l.fn.conds) (take l.index l.list) c));
    }
