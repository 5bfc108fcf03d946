use Rattle.std.proofs.Common.{length, ap, ◌∙◌, sym, arith, IsTrue}
use Rattle.std.proofs.lemmas.Bool.{false≢true}
use Rattle.sc_items.specs.Reach.{marked}
use Rattle.sc_items.proofs.Listing.{IsListOf-kept, IsListOf-left, IsListOf-done}
use Rattle.sc_items.proofs.kernel.members.Goals as goal
use Rattle.sc_items.proofs.kernel.members.Goals.{then-is_in+in_ok-push, else-is_in}

pub loop-item-preserved : goal.loop-item-preserved
loop-item-preserved c =
    let marks = c.args.marks.now in
    elim c.if-is_in.branch [
      | then-is_in+in_ok-push w ↦ IsListOf-kept (λ i. IsTrue (marked marks i)) c.loop-item.item _ _ c.loop-item.invariant (ap (λ v. v.items) w.items-is ∙ w.in_ok-push.ensures.items) w.if-is_in.true
      | else-is_in w ↦ IsListOf-left (λ i. IsTrue (marked marks i)) c.loop-item.item _ _ c.loop-item.invariant (ap (λ v. v.items) w.items-is) (λ m. false≢true (sym w.if-is_in.false ∙ m))
    ]

pub returns : goal.returns
returns c = IsListOf-done (λ i. IsTrue (marked c.args.marks.now i)) c.loop-item.item (length c.args.marks.now) _ (omega arith) (omega arith) c.loop-item.invariant
