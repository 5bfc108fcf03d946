use Rattle.std.proofs.Common.{ap, arith, length, subst, sym}
use Rattle.sc_subst.specs.Groups.{AreGroups}
use Rattle.sc_subst.specs.declared.tokens.Grouped.{Grouped}
use Rattle.sc_subst.proofs.tokens.Tokens.all.Goals as goal

pub invariant_of-result : goal.invariant_of-result
invariant_of-result c = (
  omega arith,
  omega (arith, c.len-to.ensures, ap (λ (v : Grouped). length v.tokens.items) c.in-Ok.ensures.ok),
  subst (λ (v : Grouped). AreGroups v.tokens.items v.groups) (sym c.in-Ok.ensures.ok) c.requires,
)
