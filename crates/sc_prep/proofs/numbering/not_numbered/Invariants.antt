use Rattle.std.proofs.Common.{ℕ, not, List, map, take}
use Rattle.sc_prep.proofs.Terms.{Denotes, Keeps, is_numbering, list_any, seen}
use Rattle.sc_prep.specs.Alternatives.{tokens_in}
use Rattle.sc_prep.proofs.numbering.not_numbered.Given as goal

abbrev pub invariant-loop-alternative : goal.invariant-loop-alternative
invariant-loop-alternative g l = record {
  meaning : (files : List (List ℕ)) → Denotes (g.C.Conditions.sets l.conds) l.others.0
      (λ c. list_any (λ ts. not (is_numbering (map (seen l.names files) ts))) (tokens_in (g.C.Conditions.sets l.fn.conds) (take l.alternative-index l.alternatives) c));
  keeps : Keeps (g.C.Conditions.sets l.fn.conds) (g.C.Conditions.sets l.conds);
}
