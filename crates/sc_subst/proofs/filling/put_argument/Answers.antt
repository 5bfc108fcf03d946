use Rattle.std.proofs.Common.{◌∙◌, sym}
use Rattle.sc_subst.specs.Seen.{seen_hidden}
use Rattle.sc_subst.proofs.TokenLemmas.{held_put, put_none, put_some}
use Rattle.sc_subst.proofs.filling.put_argument.Goals as goal

pub returns-then-is_empty-clause-is : goal.returns-then-is_empty-clause-is
returns-then-is_empty-clause-is c = λ n s. put_none (seen_hidden n s) c.args.tokens.now c.args.space c.args.made.now.items (sym c.is_empty.ensures ∙ c.if-is_empty.true)

pub returns-clause-is : goal.returns-clause-is
returns-clause-is c = λ n s.
    put_some n s c.args.tokens.now c.args.space c.spaced.result c.args.made.now.items c.push.new.self.items c.extend_from_slice.new.self.items (sym c.is_empty.ensures ∙ c.if-is_empty.false) c.spaced.ensures
    c.in_ok-push.ensures.items c.in_ok-extend_from_slice.ensures.items

pub returns-clause-own : goal.returns-clause-own
returns-clause-own c = λ n s made tokens.
    held_put n s c.args.tokens.now c.args.space c.spaced.result c.args.made.now.items c.push.new.self.items c.extend_from_slice.new.self.items (sym c.is_empty.ensures ∙ c.if-is_empty.false) c.spaced.ensures
    c.in_ok-push.ensures.items c.in_ok-extend_from_slice.ensures.items made tokens
