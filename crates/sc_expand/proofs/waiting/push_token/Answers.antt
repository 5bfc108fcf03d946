use Rattle.std.proofs.Common.{◌∙◌, true≢false, refl, sym}
use Rattle.sc_expand.proofs.Terms.{absent, pushed}
use Rattle.sc_expand.proofs.waiting.push_token.Goals as goal

pub returns-then-is_never : goal.returns-then-is_never
returns-then-is_never g c = absent (c.is_never.ensures.0 c.if-is_never.true) refl

pub returns : goal.returns
returns g c = pushed (λ never. true≢false (sym (c.is_never.ensures.1 never) ∙ c.if-is_never.false)) c.in_ok-push.ensures.ok
