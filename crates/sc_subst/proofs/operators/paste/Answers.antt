use Rattle.std.proofs.Common.{sym, ap, subst, ◌∙◌}
use Rattle.c11_tokens.specs.Relex.{relexed}
use Rattle.sc_base.proofs.Growth.{Extends-refl}
use Rattle.sc_subst.proofs.Later.{IsHeld-IsMade, IsHeldSet-Extends, IsMade}
use Rattle.sc_subst.proofs.Pasting.{pasted_made}
use Rattle.sc_subst.proofs.operators.paste.Goals as goal

made : (c : goal.After-drop-spelling-2) → IsMade c.token.new.names c.in_ok-token.token c.in-Some.kind c.in_ok-spelling.spelling.items c.args.left.now.token.space c.args.left.now.token.place
made c = subst (λ s. IsMade c.token.new.names c.in_ok-token.token c.in-Some.kind s c.args.left.now.token.space c.args.left.now.token.place) c.deref-2.ensures.value (record {
  spelled = c.in_ok-token.ensures.spelled;
  named = c.in_ok-token.ensures.named;
  text = c.in_ok-token.ensures.text;
  placed = c.in_ok-token.ensures.placed;
})

pub returns-clause-ok : goal.returns-clause-ok
returns-clause-ok c =
    pasted_made c.args.names.now c.args.sets.now c.args.left.now c.args.right.now c.requires.left c.requires.right c.in_ok-spelling.spelling.items c.in_ok-spelling.ensures
    c.token.new.names c.common.new.sets c.in_ok-token.token c.in_ok-hide.hide c.in-Some.kind (sym c.in-Some.is ∙ (c.relex_one.ensures ∙ ap relexed c.deref.ensures.value)) (made c) c.in_ok-hide.ensures.own
    c.in_ok-hide.ensures.meets c.token.ensures.grows c.common.ensures.sets

pub returns-clause-own : goal.returns-clause-own
returns-clause-own c = record { token = IsHeld-IsMade (made c); hide = IsHeldSet-Extends c.in_ok-hide.hide.0 c.in_ok-hide.ensures.own c.token.ensures.grows (Extends-refl c.common.new.sets) }
