use Rattle.std.proofs.Common.{◌≡◌, map, take}
use Rattle.sc_base.specs.declared.id.Cond.{Cond}
use Rattle.sc_base.specs.declared.token.Token.{Token}
use Rattle.sc_hoist.proofs.line_branches.conditions.Given as goal

abbrev pub invariant-loop-index : goal.invariant-loop-index
invariant-loop-index g l = l.found.items ≡ map (λ (item : Cond × Token). item.0) (take l.index (g.L.TokenList.tokens l.list))
