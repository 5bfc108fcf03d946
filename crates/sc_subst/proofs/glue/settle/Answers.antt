use Rattle.std.proofs.Common.{◌∙◌, ℕ, List, sym, ap, subst}
use Rattle.std.proofs.lemmas.Bool.{true≢false}
use Rattle.std.proofs.lemmas.Result.{on_ok_weaker}
use Rattle.std.specs.Prelude.{All}
use Rattle.sc_base.specs.declared.id.Name.{Name}
use Rattle.sc_subst.specs.Glue.{IsHeldLeft, IsHeldPiece, is_pasting}
use Rattle.sc_subst.specs.Parts.{IsHeldPart}
use Rattle.sc_subst.proofs.Gluing.{settled_ends, settled_operand}
use Rattle.sc_subst.proofs.glue.settle.Goals as goal

pub returns-in-Operand-clause-apart : goal.returns-in-Operand-clause-apart
returns-in-Operand-clause-apart c =
    on_ok_weaker c.flush.result
    (λ h n s head xs ps apart none. rw c.in-Operand.is (settled_operand n s head xs c.args.parts.now.items c.flush.new.parts.items c.in-Operand.piece ps none (h n s xs))) c.flush.ensures.is

pub returns-in-Operand-clause-ends : goal.returns-in-Operand-clause-ends
returns-in-Operand-clause-ends c = on_ok_weaker c.flush.result (λ h n s head xs. rw c.in-Operand.is (settled_ends n s xs c.args.parts.now.items c.flush.new.parts.items c.in-Operand.piece (h n s xs))) c.flush.ensures.is

pub returns-in-Pasting-clause-apart : goal.returns-in-Pasting-clause-apart
returns-in-Pasting-clause-apart c =
    on_ok_weaker c.flush-in-Pasting.result (λ h n s head xs ps apart none. absurd (true≢false (sym (ap is_pasting c.in-Pasting.is) ∙ apart))) c.flush-in-Pasting.ensures.is

pub returns-in-Pasting-clause-ends : goal.returns-in-Pasting-clause-ends
returns-in-Pasting-clause-ends c = on_ok_weaker c.flush-in-Pasting.result (λ h n s head xs. rw c.in-Pasting.is (settled_ends n s xs c.args.parts.now.items c.flush-in-Pasting.new.parts.items c.in-Pasting.piece (h n s xs))) c.flush-in-Pasting.ensures.is

pub returns-in-Operand-clause-own : goal.returns-in-Operand-clause-own
returns-in-Operand-clause-own c =
    on_ok_weaker {P = (n : List (List ℕ)) (s : List (List Name)) → All (IsHeldPart n s) c.args.parts.now.items → IsHeldPiece n s c.in-Operand.piece → All (IsHeldPart n s) c.flush.new.parts.items} c.flush.result
    (λ h n s parts left. h n s parts (subst (IsHeldLeft n s) c.in-Operand.is left)) c.flush.ensures.own

pub returns-in-Pasting-clause-own : goal.returns-in-Pasting-clause-own
returns-in-Pasting-clause-own c =
    on_ok_weaker {P = (n : List (List ℕ)) (s : List (List Name)) → All (IsHeldPart n s) c.args.parts.now.items → IsHeldPiece n s c.in-Pasting.piece → All (IsHeldPart n s) c.flush-in-Pasting.new.parts.items} c.flush-in-Pasting.result
    (λ h n s parts left. h n s parts (subst (IsHeldLeft n s) c.in-Pasting.is left)) c.flush-in-Pasting.ensures.own
