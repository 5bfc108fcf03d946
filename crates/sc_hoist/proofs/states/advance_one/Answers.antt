use Rattle.std.proofs.Common.{◌+◌, ◌≤◌, subst, sym, arith}
use Rattle.sc_hoist.specs.Reading.{depth_of}
use Rattle.sc_hoist.specs.declared.state.State.{State}
use Rattle.sc_hoist.proofs.StateLemmas.{depth_of-step}
use Rattle.sc_hoist.proofs.states.advance_one.Goals as goal

pub returns-then-eq-clause-shallow : goal.returns-then-eq-clause-shallow
returns-then-eq-clause-shallow g c = λ bound were deep.
    let below : depth_of c.args.entry.state ≤ bound + 1 = omega arith in
    c.in_ok-add.ensures.shallow (bound + 1) were below

pub returns-clause-shallow : goal.returns-clause-shallow
returns-clause-shallow g c = λ bound were deep.
    let below : depth_of c.args.entry.state ≤ bound + 1 = omega arith in
    let one = depth_of-step c.args.role c.args.entry.state in
    let next = subst (λ (st : State). depth_of st ≤ depth_of c.args.entry.state + 1) (sym c.after-state.ensures) one in
    let last : depth_of c.after-state.result ≤ bound + 1 = omega (arith, next) in
    c.in_ok-divide.ensures.shallow (bound + 1) were below last
