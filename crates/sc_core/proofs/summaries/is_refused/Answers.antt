use Rattle.std.proofs.Common.{◌∙◌, ◌++◌, add-one, ap, arith, get_or, sym, take, take_all}
use Rattle.std.proofs.lemmas.Option.{slice_get-get_or}
use Rattle.sc_base.specs.declared.fault.Fault.{Fault}
use Rattle.sc_core.proofs.SummaryLemmas.{none-had}
use Rattle.sc_core.proofs.summaries.is_refused.Goals as goal
use Rattle.sc_guarded.specs.Items.{faults_at}
use Rattle.sc_show.proofs.TokensShows.{faults_at-more, no_fault, when}

pub returns-then-holds-clause-some : goal.returns-then-holds-clause-some
returns-then-holds-clause-some g c = λ is nothing.
    let faults = c.args.faults.now in
    let i = c.loop-fault.fault-index in
    none-had (g.C.Conditions.sets c.args.conds.now) faults i (get_or faults i no_fault) c.args.config.now (slice_get-get_or faults i no_fault c.loop-fault-test.true) (sym c.holds.ensures ∙ c.if-holds.true) nothing

pub loop-fault-preserved : goal.loop-fault-preserved
loop-fault-preserved g c =
    let s = g.C.Conditions.sets c.args.conds.now in
    let faults = c.args.faults.now in
    let config = c.args.config.now in
    let i = c.loop-fault.fault-index in
    let fault : Fault = get_or faults i no_fault in
    ap (λ n. faults_at s (take n faults) config) (add-one i)
    ∙ faults_at-more s faults i fault config (slice_get-get_or faults i no_fault c.loop-fault-test.true)
    ∙ ap (λ fs. fs ++ when (s.has fault.cond.0 config) fault) c.loop-fault.invariant
    ∙ ap (λ b. when b fault) (sym c.holds.ensures ∙ c.if-holds.false)

pub returns-clause-none : goal.returns-clause-none
returns-clause-none g c = λ is.
    ap (λ fs. faults_at (g.C.Conditions.sets c.args.conds.now) fs c.args.config.now) (sym (take_all c.loop-fault.fault-index c.args.faults.now (omega arith))) ∙ c.loop-fault.invariant
