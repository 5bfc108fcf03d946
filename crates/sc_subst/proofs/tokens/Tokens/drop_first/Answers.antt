use Rattle.std.proofs.Common.{◌≤◌, ◌∙◌, ◌-◌, ap, arith, drop, length, subst, sym}
use Rattle.std.proofs.lemmas.List.{length-take}
use Rattle.sc_subst.proofs.Shares.{dropped}
use Rattle.sc_subst.proofs.tokens.Tokens.drop_first.Goals as goal

pub returns : goal.returns
returns c = dropped c.self.inside.list.value.tokens.items c.self.inside.from c.self.inside.to c.args.count low ∙ ap (drop c.args.count) c.self.view_is where
  low : c.args.count ≤ c.self.inside.to - c.self.inside.from
  low = omega (arith, subst (λ l. c.args.count ≤ length l) (sym c.self.view_is) c.requires, length-take (c.self.inside.to - c.self.inside.from) (drop c.self.inside.from c.self.inside.list.value.tokens.items))
