use Rattle.std.proofs.Common.{ℕ, List, sym, subst}
use Rattle.std.specs.Prelude.{All}
use Rattle.std.proofs.lemmas.Result.{on_ok_weaker}
use Rattle.sc_base.specs.declared.id.Name.{Name}
use Rattle.sc_subst.specs.Seen.{IsHeldHidden}
use Rattle.sc_subst.proofs.Turns.{held_argument}
use Rattle.sc_subst.proofs.filling.put.Goals as goal

pub returns-in-Argument-clause-own : goal.returns-in-Argument-clause-own
returns-in-Argument-clause-own c =
    on_ok_weaker {P = (n : List (List ℕ)) (s : List (List Name)) → All (IsHeldHidden n s) c.args.made.now.items → All (IsHeldHidden n s) c.argument.result.now → All (IsHeldHidden n s) c.put_argument.new.made.items}
    c.put_argument.result
    (λ h n s made part raw. h n s made (subst (All (IsHeldHidden n s)) (sym c.argument.ensures) (held_argument c.args.expanded.now c.in-Argument.parameter raw))) c.put_argument.ensures.own
