use Rattle.std.proofs.Common.{sym, ◌∙◌, subst}
use Rattle.std.proofs.lemmas.Bool.{eqb-true, eq-eqb}
use Rattle.sc_model.specs.Sets.{IsNever}
use Rattle.sc_presence.proofs.conditions.Conditions.is_never.Goals as goal

pub returns : goal.returns
returns g c =
    let never = c.never.ensures in (
      λ yes. subst (IsNever (g.Self.Conditions.sets c.args.self.now)) (sym (eqb-true _ _ (sym c.eq.ensures ∙ yes))) (record { none = never.meaning.at }),
      λ is. c.eq.ensures ∙ eq-eqb _ _ (c.canonical.ensures.one _ _ c.requires never.own (record { at = λ x listed. is.none x listed ∙ sym (never.meaning.at x listed) })),
    )
