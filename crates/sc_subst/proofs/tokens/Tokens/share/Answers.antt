use Rattle.std.proofs.Common.{◌≡◌, ◌≤◌, ◌∙◌, ◌+◌, ◌-◌, ap, arith, drop, length, subst, sym, take}
use Rattle.std.proofs.lemmas.List.{length-take}
use Rattle.sc_subst.specs.Groups.{AreGroups}
use Rattle.sc_subst.specs.declared.tokens.Grouped.{Grouped}
use Rattle.sc_subst.proofs.Shares.{shared}
use Rattle.sc_subst.proofs.tokens.Tokens.share.Goals as goal

pub invariant_of-result : goal.invariant_of-result
invariant_of-result c = (
  omega (arith, c.requires.from),
  omega (arith, low, c.self.invariant.0, c.self.invariant.1, long),
  subst (λ (v : Grouped). AreGroups v.tokens.items v.groups) (sym c.in_ok-list.ensures.cases) c.self.invariant.2,
) where
  low : c.args.to ≤ c.self.inside.to - c.self.inside.from
  low = omega (arith, subst (λ l. c.args.to ≤ length l) (sym c.self.view_is) c.requires.to, length-take (c.self.inside.to - c.self.inside.from) (drop c.self.inside.from c.self.inside.list.value.tokens.items))

  long : length c.in_ok-list.list.value.tokens.items ≡ length c.self.inside.list.value.tokens.items
  long = ap (λ (v : Grouped). length v.tokens.items) c.in_ok-list.ensures.cases

pub returns : goal.returns
returns c =
    ap (λ l. take ((c.self.inside.from + c.args.to) - (c.self.inside.from + c.args.from)) (drop (c.self.inside.from + c.args.from) l)) (ap (λ v. v.tokens.items) c.in_ok-list.ensures.cases)
    ∙ (shared c.self.inside.list.value.tokens.items c.self.inside.from c.self.inside.to c.args.from c.args.to c.requires.from low ∙ ap (λ l. take (c.args.to - c.args.from) (drop c.args.from l)) c.self.view_is) where
      low : c.args.to ≤ c.self.inside.to - c.self.inside.from
      low = omega (arith, subst (λ l. c.args.to ≤ length l) (sym c.self.view_is) c.requires.to, length-take (c.self.inside.to - c.self.inside.from) (drop c.self.inside.from c.self.inside.list.value.tokens.items))
