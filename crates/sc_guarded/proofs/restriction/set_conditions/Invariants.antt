use Rattle.std.proofs.Common.{◌≡◌, ◌-◌, ◌++◌, map, take, length}
use Rattle.sc_base.specs.declared.id.Cond.{Cond}
use Rattle.sc_guarded.proofs.restriction.set_conditions.Given as goal

abbrev pub invariant-loop-index : goal.invariant-loop-index
invariant-loop-index g l = record {
  long : length l.items.items ≡ length l.fn.items.items;
  conditions : map (λ (item : Cond × g.row.T.Denot). item.0) (take l.index l.items.items)
      ≡ take l.from (map (λ (item : Cond × g.row.T.Denot). item.0) l.fn.items.items) ++ take (l.index - l.from) l.conds;
  items : map (λ (item : Cond × g.row.T.Denot). item.1) l.items.items ≡ map (λ (item : Cond × g.row.T.Denot). item.1) l.fn.items.items;
}
