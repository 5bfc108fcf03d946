use Rattle.std.proofs.Common.{◌∙◌, sym, subst, Ok, Err}
use Rattle.c11_macros.specs.Hidden.{failure_at}
use Rattle.sc_subst.specs.Glue.{IsHeldLeft, seen_piece}
use Rattle.sc_subst.proofs.Gluing.{fed_operand, fed_pasting, parts_later}
use Rattle.sc_subst.proofs.Turns.{on_fault}
use Rattle.sc_subst.proofs.glue.feed.Goals as goal

pub returns-in-Ok-clause-ok : goal.returns-in-Ok-clause-ok
returns-in-Ok-clause-ok c = record {
  at = λ n s en es head xs ps.
      rw c.in-Pasting.is (fed_pasting n s head xs c.args.parts.now.items c.in-Pasting.left c.args.piece ps (Ok (seen_piece n s c.in-Ok.joined)) (c.in-Ok.ensures.ok.at n s en es head));
}

pub returns-in-Ok-clause-parts : goal.returns-in-Ok-clause-parts
returns-in-Ok-clause-parts c = parts_later c.args.parts.now.items c.requires.parts c.join.ensures.names c.join.ensures.sets

pub returns-in-Err-clause-err : goal.returns-in-Err-clause-err
returns-in-Err-clause-err c =
    on_fault _ _ c.in-Err.stop
    (λ cause h. record {
      at = λ n s en es head xs ps.
          rw c.in-Pasting.is (fed_pasting n s head xs c.args.parts.now.items c.in-Pasting.left c.args.piece ps (Err (failure_at cause head)) (h.at n s en es head));
    }) c.in-Err.ensures.err

pub returns-in_ok-flush-in-Operand-clause-ok : goal.returns-in_ok-flush-in-Operand-clause-ok
returns-in_ok-flush-in-Operand-clause-ok c = record {
  at = λ n s en es head xs ps.
      rw c.in-Operand.is (fed_operand n s head xs c.args.parts.now.items c.flush.new.parts.items c.in-Operand.left c.args.piece ps (sym c.is_operator.ensures ∙ c.if-is_operator.false)
      (c.in_ok-flush-in-Operand.ensures.is n s xs));
}

pub returns-in_ok-flush-in-Operand-clause-parts : goal.returns-in_ok-flush-in-Operand-clause-parts
returns-in_ok-flush-in-Operand-clause-parts c =
    c.in_ok-flush-in-Operand.ensures.own c.args.names.now c.args.sets.now c.requires.parts (subst (IsHeldLeft c.args.names.now c.args.sets.now) c.in-Operand.is c.requires.left)
