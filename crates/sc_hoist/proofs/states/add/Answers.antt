use Rattle.std.proofs.Common.{◌∙◌, List, ap}
use Rattle.sc_hoist.specs.declared.states.Entry.{Entry}
use Rattle.sc_hoist.specs.Reading.{in_states}
use Rattle.sc_hoist.proofs.StateLemmas.{in_states-push}
use Rattle.sc_hoist.proofs.states.add.Goals as goal

pub returns-clause-states : goal.returns-clause-states
returns-clause-states g c = λ test x listed.
    let s = g.C.Conditions.sets c.args.conds.now in
    let e : Entry = record { state = c.args.state; cond = c.args.cond } in
    ap (λ (es : List Entry). in_states s es test x) c.in_ok-push.ensures.items ∙ in_states-push s c.args.entries.now.items e test x

pub returns-in-Some-clause-shallow : goal.returns-in-Some-clause-shallow
returns-in-Some-clause-shallow g c = λ bound were deep. c.in_ok-join.ensures.shallow bound were
