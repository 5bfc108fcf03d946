use Rattle.std.proofs.Common.{◌∙◌, map, Ok, sym, ap, subst}
use Rattle.std.specs.Prelude.{All}
use Rattle.c11_macros.specs.Results.{result_and_then}
use Rattle.c11_macros.specs.Substitution.{hiding, put_together, with_space}
use Rattle.sc_base.proofs.Growth.{Extends-trans}
use Rattle.sc_subst.specs.Parts.{IsHeldPart, filled_in, seen_arguments, seen_part}
use Rattle.sc_subst.specs.Seen.{hide_at}
use Rattle.sc_subst.proofs.Gluing.{arguments_later}
use Rattle.sc_subst.proofs.Later.{IsHeldSet-Extends}
use Rattle.sc_subst.proofs.Templates.{by_operator}
use Rattle.sc_subst.proofs.Turns.{on_fault}
use Rattle.sc_subst.proofs.replacement.substitute.Goals as goal

pub fill-requires : goal.fill-requires
fill-requires c = record {
  template = subst (All (IsHeldPart c.template.new.names c.template.new.sets)) (sym c.deref.ensures.value) c.in-Ok.ensures.own;
  expanded = arguments_later c.args.expanded.now c.requires.expanded c.template.ensures.names c.template.ensures.sets;
  hide = IsHeldSet-Extends c.args.hide.0 c.requires.hide c.template.ensures.names c.template.ensures.sets;
}

pub returns-in_ok-made-in-Ok-clause-ok : goal.returns-in_ok-made-in-Ok-clause-ok
returns-in_ok-made-in-Ok-clause-ok c = record {
  at = λ n s en es head provenance at space mark.
      let xs = seen_arguments n s c.args.expanded.now in
      c.in-Ok.ensures.ok.at n s en (Extends-trans c.fill.ensures.sets es) head xs provenance (hide_at n s c.args.hide.0) at
      ∙ ap Ok (ap (λ b. hiding provenance (hide_at n s c.args.hide.0) (with_space b (filled_in xs (map (seen_part n s) c.in-Ok.parts.items)))) space
      ∙ (ap (λ ps. hiding provenance (hide_at n s c.args.hide.0) (with_space c.args.head.now.space (filled_in xs (map (seen_part n s) ps)))) (sym c.deref.ensures.value)
      ∙ sym (c.in_ok-made-in-Ok.ensures.is.at n s en es provenance mark)));
}

pub returns-in-Err-clause-err : goal.returns-in-Err-clause-err
returns-in-Err-clause-err c =
    on_fault _ _ c.in-Err.stop
    (λ cause h. record {
      at = λ n s en es head provenance at.
          let xs = seen_arguments n s c.args.expanded.now in
          by_operator head _ cause _ _ (h.at n s en es head at)
          (λ made. ap (result_and_then (put_together provenance head (seen_arguments n s c.args.raw.now) xs (hide_at n s c.args.hide.0))) made) (λ pastes. pastes xs provenance (hide_at n s c.args.hide.0));
    }) c.in-Err.ensures.err
