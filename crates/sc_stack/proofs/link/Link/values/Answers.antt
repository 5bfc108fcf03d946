use Rattle.sc_stack.proofs.EntryLemmas.{one_more}
use Rattle.sc_stack.proofs.link.Link.values.Goals as goal

pub loop-left-preserved : goal.loop-left-preserved
loop-left-preserved c =
    one_more _ _ _ (record { state = c.in-Frame.field-1; value = c.in-Frame.value }) _ _ _ c.loop-left-test.true
    (rw (c.in-Frame.is, c.deref-link.ensures)) c.in_ok-push-in-Frame.ensures.items c.loop-left.invariant
