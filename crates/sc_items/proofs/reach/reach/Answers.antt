use Rattle.std.proofs.Common.{◌≡◌, ◌<◌, ℕ, length, Bool, true, false, List, get_or, ap, ◌∙◌, sym, arith, IsTrue}
use Rattle.std.proofs.lemmas.List.{get_or_default}
use Rattle.sc_items.proofs.Reaching.{Marks-more_skip, Marks-more_mark}
use Rattle.sc_items.proofs.reach.reach.Goals as goal
use Rattle.sc_items.proofs.reach.reach.Goals.{then-not-index+in_ok-push, else-not-index}

read_false : (xs : List Bool) (i : ℕ) (x : Bool) → x ≡ get_or xs i x → x ≡ false → get_or xs i false ≡ false
read_false xs i x h e = cc

read_true : (xs : List Bool) (i : ℕ) (x : Bool) → i < length xs → x ≡ get_or xs i x → x ≡ true → IsTrue (get_or xs i false)
read_true xs i x within h e = get_or_default xs i false x within ∙ sym h ∙ e

pub loop-node-preserved : goal.loop-node-preserved
loop-node-preserved c =
    let k = c.loop-node.node-index in
    let nodes = c.args.nodes.now in
    let marks = c.loop-node.reached.items in
    let node = get_or nodes k 0 in
    let in_marks : get_or nodes k 0 < length c.loop-node.reached.items = omega (arith, c.requires k 0 c.loop-node-test.true, c.loop-node.invariant.long, c.args.reached.now.ok.0) in
    elim c.if-not-index.branch [
      | then-not-index+in_ok-push w ↦ Marks-more_mark _ _ _ _ _ _ nodes k c.loop-node.invariant c.loop-node-test.true (ap (λ v. v.items) w.reached-is) (ap (λ v. v.items) w.pending-is ∙ w.in_ok-push.ensures.items) in_marks (read_false marks node _ c.index.ensures w.if-not-index.true)
      | else-not-index w ↦ rw (w.reached-is, w.pending-is) (Marks-more_skip _ _ _ _ nodes k c.loop-node.invariant c.loop-node-test.true (read_true marks node _ in_marks c.index.ensures w.if-not-index.false))
    ]
