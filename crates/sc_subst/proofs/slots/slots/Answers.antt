use Rattle.std.proofs.Common.{◌∙◌, map, sym, ap, subst}
use Rattle.std.specs.Prelude.{All}
use Rattle.c11_macros.specs.Substitution as substitution
use Rattle.sc_base.proofs.Growth.{Extends-trans}
use Rattle.sc_subst.specs.ListParts.{IsHeldListPart, seen_list_part}
use Rattle.sc_subst.specs.Parts.{seen_arguments}
use Rattle.sc_subst.proofs.Store.{if_err, if_ok}
use Rattle.sc_subst.proofs.Turns.{on_fault, parts_later}
use Rattle.sc_subst.proofs.slots.slots.Goals as goal

pub slots_from-requires : goal.slots_from-requires
slots_from-requires c = record { parts = subst (All (IsHeldListPart c.args.names.now)) (sym c.deref.ensures.value) c.in_ok-parts.ensures.own; raw = c.requires.raw }

pub returns-clause-ok : goal.returns-clause-ok
returns-clause-ok c =
    if_ok _ _ c.slots_from.result
    (λ made h. record {
      at = λ n s en es head at.
          ap (λ ps. substitution.slots head (seen_arguments n s c.args.raw.now) (substitution.kept (seen_arguments n s c.args.raw.now) ps))
          (sym (parts_later c.in_ok-parts.parts.items c.args.form.now c.args.items.now c.in_ok-parts.ensures.own c.requires.form c.requires.items c.in_ok-parts.ensures.is (Extends-trans c.slots_from.ensures.names en))
          ∙ ap (map (seen_list_part n)) (sym c.deref.ensures.value))
          ∙ h.at n s en es head at;
    }) c.slots_from.ensures.ok

pub returns-clause-err : goal.returns-clause-err
returns-clause-err c =
    if_err _ _ c.slots_from.result
    (λ stop k. on_fault _ _ stop
    (λ cause h. record {
      at = λ n s en es head at.
          ap (λ ps. substitution.slots head (seen_arguments n s c.args.raw.now) (substitution.kept (seen_arguments n s c.args.raw.now) ps))
          (sym (parts_later c.in_ok-parts.parts.items c.args.form.now c.args.items.now c.in_ok-parts.ensures.own c.requires.form c.requires.items c.in_ok-parts.ensures.is (Extends-trans c.slots_from.ensures.names en))
          ∙ ap (map (seen_list_part n)) (sym c.deref.ensures.value))
          ∙ h.at n s en es head at;
    }) k) c.slots_from.ensures.err
