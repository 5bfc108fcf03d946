use Rattle.std.proofs.Common.{◌≡◌, ◌<◌, length, sym, ◌∙◌, ap, subst, arith}
use Rattle.std.specs.Prelude.{slice_index}
use Rattle.sc_diagram.specs.Diagram.{variable_of, sets_of}
use Rattle.sc_diagram.specs.Applied.{cofactor}
use Rattle.sc_diagram.proofs.StoreLemmas.{step}
use Rattle.sc_diagram.proofs.walk.leads_to_always.Goals as goal

pub loop-at-preserved : goal.loop-at-preserved
loop-at-preserved c =
    let d = c.args.table.now in
    let config = c.args.config.now in
    let read = c.variable-variable.ensures in
    let v = variable_of d c.loop-at.at in
    let to = step read.valid c.loop-at.at config (omega (arith, c.loop-at-test.true)) c.loop-at.invariant.own c.requires.config in
    let at : c.cofactor-at.result ≡ cofactor d c.loop-at.at v (slice_index config v) = rw read.variable at c.cofactor-at.ensures in
    record {
      own = subst (λ m. m < length d.nodes) (sym at) to.own;
      same = ap (λ m. (sets_of d).has m config) at ∙ to.same ∙ c.loop-at.invariant.same;
    }
