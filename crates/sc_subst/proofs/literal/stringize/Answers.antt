use Rattle.std.proofs.Common.{◌∙◌, sym, ap, subst}
use Rattle.c11_macros.specs.Substitution.{is_text_kind}
use Rattle.c11_tokens.specs.Relex.{relexed}
use Rattle.sc_model.specs.declared.kind.Kind.TheVariants.{Text}
use Rattle.sc_subst.proofs.Later.{IsHeld-IsMade, IsMade}
use Rattle.sc_subst.proofs.Quoting.{literal_made, literal_refused, held_none}
use Rattle.sc_subst.proofs.literal.stringize.Goals as goal

pub returns-then-not-is_text-clause-err : goal.returns-then-not-is_text-clause-err
returns-then-not-is_text-clause-err c =
    literal_refused c.args.names.now c.args.sets.now c.args.raw.now c.requires c.args.hash.now.space c.args.place c.in_ok-spelling.spelling.items (c.in_ok-spelling.ensures c.args.sets.now)
    (sym c.if-not-is_text.true ∙ (c.is_text.ensures ∙ ap is_text_kind (c.relex_one.ensures ∙ ap relexed c.deref.ensures.value)))

made : (c : goal.After-drop-spelling-2) → IsMade c.token.new.names c.in_ok-token.token Text c.in_ok-spelling.spelling.items c.args.hash.now.space c.args.place
made c = subst (λ s. IsMade c.token.new.names c.in_ok-token.token Text s c.args.hash.now.space c.args.place) c.deref-2.ensures.value (record {
  spelled = c.in_ok-token.ensures.spelled;
  named = c.in_ok-token.ensures.named;
  text = c.in_ok-token.ensures.text;
  placed = c.in_ok-token.ensures.placed;
})

pub returns-clause-ok : goal.returns-clause-ok
returns-clause-ok c =
    literal_made c.args.names.now c.args.sets.now c.args.raw.now c.requires c.args.hash.now.space c.args.place c.in_ok-spelling.spelling.items (c.in_ok-spelling.ensures c.args.sets.now)
    c.token.new.names c.in_ok-token.token c.empty.result (sym c.if-not-is_text.false ∙ (c.is_text.ensures ∙ ap is_text_kind (c.relex_one.ensures ∙ ap relexed c.deref.ensures.value)))
    (made c) c.empty.ensures.own c.empty.ensures.none c.token.ensures.grows

pub returns-clause-own : goal.returns-clause-own
returns-clause-own c = record { token = IsHeld-IsMade (made c); hide = held_none c.empty.result.0 c.empty.ensures.own c.empty.ensures.none }
