use Rattle.std.proofs.Common.{◌++◌, ◌∙◌, List, [], ◌∷◌, Option, get_or, subst, sym, take}
use Rattle.sc_base.specs.declared.fault.Fault.{Fault}
use Rattle.sc_prep.proofs.Facts.{take_more}
use Rattle.sc_prep.proofs.LeastCause.{least-skips, least-stays, least-takes}
use Rattle.sc_prep.proofs.Terms.{Cause, NotFound}
use Rattle.sc_prep.proofs.valid.least_cause.Goals as goal
use Rattle.sc_prep.proofs.valid.least_cause.Goals.{then-example+then-is_less, else-example, else-example-via-then-example+else-is_less, else-example-via-else-example}
use Rattle.sc_prep.specs.Valid.{FindsLeast}

-- what stands past the last fault
abbrev no_fault : Fault
no_fault = record { cond = record { 0 = 0 }; cause = NotFound; place = record { file = record { 0 = 0 }; line = 0; column = 0 } }

pub loop-fault-preserved : goal.loop-fault-preserved
loop-fault-preserved g c =
    let s = g.C.Conditions.sets c.args.conds.now in
    let faults = c.args.faults.now in
    let i = c.loop-fault.fault-index in
    let fault : Fault = get_or faults i no_fault in
    let before : List Fault = take i faults in
    let least = c.loop-fault.least in
    let was = c.loop-fault.invariant in
    let Finds : Option Cause → Type 0 = λ least. FindsLeast s (before ++ fault ∷ []) least in
    let found : Finds c.if-example.least = elim c.if-example.branch [
      | then-example+then-is_less w ↦
          (let less = sym w.is_less.ensures ∙ w.if-is_less.true in
          subst Finds (sym w.least-is) (least-takes s before fault least c.example.new.into w.if-example.ensures.config w.if-example.ensures.has less was))
      | else-example w ↦ subst Finds (sym w.least-is) (elim w.else-example.branch [
        | else-example-via-then-example+else-is_less v ↦ least-stays s before fault least (sym v.is_less.ensures ∙ v.if-is_less.false) was
        | else-example-via-else-example v ↦ least-skips s before fault least (c.example.ensures.never.0 v.if-example.false) was
      ])
    ] in
    subst (λ fs. FindsLeast s fs c.if-example.least) (sym (take_more faults i no_fault c.loop-fault-test.true)) found
