use Rattle.std.proofs.Common.{◌&&◌, not, take}
use Rattle.sc_prep.proofs.Terms.{Denotes, Keeps, once_at, text_at}
use Rattle.sc_prep.proofs.once.without_file.Given as goal

abbrev pub invariant-loop-marked : goal.invariant-loop-marked
invariant-loop-marked g l =
    let sets = g.C.Conditions.sets in
    record {
      keeps : Keeps (sets l.fn.conds) (sets l.conds);
      rest : Denotes (sets l.conds) l.rest.0
          (λ c. (sets l.fn.conds).has l.fn.cond.0 c && not (once_at (sets l.fn.conds) l.files (take l.marked-index l.once) c (text_at l.files l.file.0)));
    }
