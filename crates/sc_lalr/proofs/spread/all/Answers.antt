use Rattle.std.proofs.Common.{arith}
use Rattle.lr_tables.proofs.Members.{no_member}
use Rattle.sc_lalr.proofs.Spreading.{all-more}
use Rattle.sc_lalr.proofs.spread.all.Goals as goal

pub loop-number-init : goal.loop-number-init
loop-number-init c = rw c.in_ok-numbers.ensures.items (λ v. (λ w. absurd (no_member v w), λ h. absurd (omega (arith, h.0, h.1))))

pub loop-number-preserved : goal.loop-number-preserved
loop-number-preserved c = rw c.in_ok-push.ensures.items (all-more c.loop-number.numbers.items c.args.count c.loop-number.number c.loop-number-test.true c.loop-number.invariant)

pub returns : goal.returns
returns c = λ v. (λ w. ((c.loop-number.invariant v).0 w).0, λ h. (c.loop-number.invariant v).1 (h, omega (arith, c.loop-number-test.false)))
