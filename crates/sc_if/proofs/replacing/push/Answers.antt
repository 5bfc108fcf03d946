use Rattle.std.proofs.Common.{sym, ◌∙◌}
use Rattle.std.proofs.lemmas.Bool.{true≢false}
use Rattle.sc_if.proofs.AlikeReplacing.{AreAlike-push}
use Rattle.sc_if.proofs.Replacements.{IsHeldList-push, never-adds, placed-push, push-adds}
use Rattle.sc_if.proofs.replacing.push.Goals as goal

pub returns-then-is_never-clause-at : goal.returns-then-is_never-clause-at
returns-then-is_never-clause-at g c = λ x listed. never-adds (g.C.Conditions.sets c.args.conds.now) c.args.cond c.args.list.now c.args.token x (c.is_never.ensures.0 c.if-is_never.true) listed

pub returns-clause-at : goal.returns-clause-at
returns-clause-at g c = λ x listed. push-adds (g.C.Conditions.sets c.args.conds.now) c.args.cond c.args.list.now c.push.new.self c.args.token x c.in_ok-push.ensures.ok

pub returns-clause-list : goal.returns-clause-list
returns-clause-list g c = λ names held was.
    IsHeldList-push (g.C.Conditions.sets c.args.conds.now) names c.args.list.now c.push.new.self c.args.cond c.args.token c.in_ok-push.ensures.ok c.requires (λ never. true≢false (sym (c.is_never.ensures.1 never) ∙ c.if-is_never.false)) held was

pub returns-clause-placed : goal.returns-clause-placed
returns-clause-placed g c = λ files here were. placed-push files c.args.list.now c.push.new.self c.args.cond c.args.token c.in_ok-push.ensures.ok here were

pub returns-clause-alike : goal.returns-clause-alike
returns-clause-alike g c = λ x y here were. AreAlike-push (g.C.Conditions.sets c.args.conds.now) x y c.args.list.now c.push.new.self c.args.cond c.args.token c.in_ok-push.ensures.ok here were
