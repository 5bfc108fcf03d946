use Rattle.std.proofs.Common.{[], ◌∷◌, ◌++◌, None, refl, ap, sym, ◌∙◌}
use Rattle.std.proofs.lemmas.Bool.{iff_false}
use Rattle.std.proofs.lemmas.List.{append-nil}
use Rattle.sc_fork.proofs.KindLemmas.{adds-shifted}
use Rattle.sc_fork.specs.declared.piece.Answer.TheVariants.{Refused}
use Rattle.sc_fork.specs.declared.piece.Piece.TheVariants.{Over}
use Rattle.sc_fork.specs.Kinds.{no_part, refused_part}
use Rattle.sc_model.specs.declared.cause.Cause.TheVariants.{Syntax}
use Rattle.sc_fork.proofs.classifying.add_kind.Goals as goal

pub returns-then-is_never : goal.returns-then-is_never
returns-then-is_never g c = record { added = []; is = sym (append-nil c.args.pieces.now.items); part = no_part (c.is_never.ensures.0 c.if-is_never.true) }

pub returns-in_default : goal.returns-in_default
returns-in_default g c = record {
  added = Over (record { cond = c.args.cond; answer = Refused Syntax c.item.result.1.now.place }) ∷ [];
  is = c.in_ok-push.ensures.items;
  part = refused_part (c.item.result.0, c.item.result.1.now) (iff_false c.is_never.ensures c.if-is_never.false) c.item.ensures (sym c.state_after.ensures ∙ c.in_default.is);
}

pub returns : goal.returns
returns g c =
    adds-shifted (g.C.Conditions.sets c.args.conds.now) c.args.source.now c.args.parent.now c.args.at c.args.cond c.args.kind.0 c.args.pieces.now.items c.push-3.new.self.items c.in-Some.state _
    (c.in_ok-push-3.ensures.items ∙ ap (λ piece. c.args.pieces.now.items ++ piece ∷ []) c.in_ok-piece.ensures) (iff_false c.is_never.ensures c.if-is_never.false) (sym c.state_after.ensures ∙ c.in-Some.is)
    (rw (← c.parent.view_is) (record {
      cond_is = refl;
      stack = c.stack.view_is ∙ c.in_ok-push-2.ensures.ok ∙ ap (λ es. record { state = c.in-Some.state; value = None } ∷ es) c.in_ok-stack.ensures;
      levels = c.in_ok-share.ensures.levels;
      numbered = c.in_ok-share.ensures.numbered;
      phase = refl;
    }))
