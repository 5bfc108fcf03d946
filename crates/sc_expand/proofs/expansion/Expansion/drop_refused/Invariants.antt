use Rattle.std.proofs.Common.{◌≡◌, ℕ, List}
use Rattle.sc_expand.proofs.Terms.{IsRested, Keeps, stores, weight}
use Rattle.sc_expand.proofs.expansion.Expansion.drop_refused.Given as goal

abbrev pub invariant-loop-first : goal.invariant-loop-first
invariant-loop-first g l = record {
  keeps : Keeps (g.C.Conditions.sets l.initial.conds) (g.C.Conditions.sets l.conds);
  sets : l.self.sets ≡ l.initial.self.sets;
  rested : (names : List (List ℕ)) → IsRested (stores (g.C.Conditions.sets l.initial.conds) names l.initial.self.sets) (stores (g.C.Conditions.sets l.conds) names l.self.sets) l.initial.self l.self;
}

abbrev pub decreases-loop-first : goal.decreases-loop-first
decreases-loop-first g l = weight l.self
