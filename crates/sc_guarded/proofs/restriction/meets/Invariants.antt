use Rattle.std.proofs.Common.{◌≡◌, ℕ, ◌+◌, ◌&&◌, List, All, map, take, drop, length}
use Rattle.sc_base.specs.declared.id.Cond.{Cond}
use Rattle.sc_model.specs.Sets.{IsConfig, IsCond, Keeps}
use Rattle.sc_guarded.proofs.restriction.meets.Given as goal

abbrev pub invariant-loop-index : goal.invariant-loop-index
invariant-loop-index g l =
    let sets = g.C.Conditions.sets in
    record {
      keeps : Keeps (sets l.fn.conds) (sets l.conds);
      long : l.from + length l.met.items ≡ l.index;
      own : All (λ (cond : Cond). IsCond (sets l.conds) cond.0) l.met.items;
      meaning : (c : List ℕ) → IsConfig (sets l.fn.conds).arities c
          → map (λ (cond : Cond). (sets l.conds).has cond.0 c) l.met.items
          ≡ map (λ (item : Cond × g.row.T.Denot). (sets l.fn.conds).has item.0.0 c && (sets l.fn.conds).has l.by.0 c) (drop l.from (take l.index l.items));
    }
