use Rattle.std.proofs.Common.{ap, refl, sym, ◌∙◌}
use Rattle.sc_expand.proofs.AlikeLemmas.{All-at}
use Rattle.sc_expand.proofs.Rests.{no-first, not-some}
use Rattle.sc_expand.proofs.Facts.{Denotes-self}
use Rattle.sc_expand.proofs.Terms.{Cond, Hidden, IsCond, is_whole}
use Rattle.sc_expand.proofs.WaitingLemmas.{below-none, below-some}
use Rattle.sc_expand.specs.Waiting.{kept, none}
use Rattle.sc_expand.proofs.expansion.Expansion.keep_first.Goals as goal

pub returns-in_ok-push_token-clause-keeps_first : goal.returns-in_ok-push_token-clause-keeps_first
returns-in_ok-push_token-clause-keeps_first g c =
    let s = g.C.Conditions.sets c.args.conds.now in
    let item : Cond × Hidden = (c.in-Some.has, c.in-Some.token) in
    let is = sym c.first.ensures ∙ c.in-Some.is in
    let own = All-at (λ (item : Cond × Hidden). IsCond s item.0.0) c.args.self.now.top.work 0 item is c.requires.work in
    kept item c.in_ok-cond.cond (below-none c.args.self.now.below.items (sym (c.is_whole.ensures ∙ ap is_whole c.deref.ensures.value) ∙ c.if-not-is_whole.false)) is (c.in_ok-cond.ensures.meaning _ _ (Denotes-self s item.0.0 own) (Denotes-self s c.args.self.now.refusals.waiting.0 c.requires.waiting)) c.in_ok-push_token.ensures

pub returns-in_default-clause-keeps_first : goal.returns-in_default-clause-keeps_first
returns-in_default-clause-keeps_first g c = none (λ whole. no-first c.args.self.now.top.work c.first.result c.first.ensures (not-some c.first.result c.in_default.not-Some)) refl

pub returns-then-not-is_whole-clause-keeps_first : goal.returns-then-not-is_whole-clause-keeps_first
returns-then-not-is_whole-clause-keeps_first g c = none (λ whole. absurd (below-some c.args.self.now.below.items (sym (c.is_whole.ensures ∙ ap is_whole c.deref.ensures.value) ∙ c.if-not-is_whole.true) whole)) refl
