use Rattle.std.proofs.Common.{◌∙◌, map, sym, ap, subst}
use Rattle.std.specs.Prelude.{All}
use Rattle.c11_macros.specs.Substitution.{hiding, with_space}
use Rattle.sc_subst.specs.Seen.{IsHeldHidden, hide_at, seen_hidden}
use Rattle.sc_subst.proofs.Store.{if_ok}
use Rattle.sc_subst.proofs.TokenLemmas.{held_first, spaced_first}
use Rattle.sc_subst.proofs.filling.fill.Goals as goal

pub hide_all-requires-clause-tokens : goal.hide_all-requires-clause-tokens
hide_all-requires-clause-tokens c =
    subst (All (IsHeldHidden c.args.names.now c.args.sets.now)) (sym (c.deref.ensures.value ∙ c.with_first_space-tokens.ensures))
    (held_first c.args.names.now c.args.sets.now c.in_ok-made.made.items c.args.space (c.in_ok-made.ensures.own c.args.names.now c.args.sets.now c.requires.template c.requires.expanded))

pub returns-clause-is : goal.returns-clause-is
returns-clause-is c =
    if_ok _ _ c.hide_all.result
    (λ made h. record {
      at = λ n s en es provenance mark.
          h.at n s en es provenance mark
          ∙ ap (hiding provenance (hide_at n s c.args.hide.0)) (ap (map (seen_hidden n s)) (c.deref.ensures.value ∙ c.with_first_space-tokens.ensures)
          ∙ (spaced_first n s c.in_ok-made.made.items c.args.space ∙ ap (with_space c.args.space) (c.in_ok-made.ensures.is n s)));
    }) c.hide_all.ensures.is
