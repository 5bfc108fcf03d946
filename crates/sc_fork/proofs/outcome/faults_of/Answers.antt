use Rattle.std.proofs.Common.{sym, ◌∙◌}
use Rattle.sc_fork.proofs.RootLemmas.{faults-kept, faults-more}
use Rattle.sc_fork.proofs.outcome.faults_of.Goals as goal

pub loop-part-preserved-in_default : goal.loop-part-preserved-in_default
loop-part-preserved-in_default c = c.loop-part.invariant ∙ sym (faults-kept c.args.ended.now c.loop-part.part-index _ c.loop-part-test.true c.in_default.field-0 c.in_default.is)

pub loop-part-preserved : goal.loop-part-preserved
loop-part-preserved c =
    faults-more c.args.ended.now c.loop-part.part-index _ c.loop-part-test.true c.in-Refused.cause c.in-Refused.place c.loop-part.faults.items c.push.new.self.items c.in-Refused.is
    c.loop-part.invariant c.in_ok-push.ensures.items
