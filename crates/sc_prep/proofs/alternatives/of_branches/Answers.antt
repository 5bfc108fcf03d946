use Rattle.std.proofs.Common.{◌∙◌, ◌<◌, All, length, sym, ap, refl, subst}
use Rattle.sc_prep.proofs.BranchTokens.{one-pushed}
use Rattle.sc_prep.proofs.Terms.{Branch, tokens_at}
use Rattle.sc_prep.proofs.alternatives.of_branches.Goals as goal

pub tokens_at-requires : goal.tokens_at-requires
tokens_at-requires c =
    let P : Branch → Type 0 = λ x. All (λ p. p < length c.args.list.now) x.places.items in
    subst (All (λ p. p < length c.args.list.now)) (sym c.deref.ensures.value) (subst P (sym c.branch-item.is) (c.requires c.loop-branch.branch-index c.branch-item.result c.loop-branch-test.true))

pub loop-branch-preserved : goal.loop-branch-preserved
loop-branch-preserved c =
    one-pushed c.args.list.now c.args.branches.now c.loop-branch.branch-index c.branch-item.result c.loop-branch.alternatives.items c.push.new.self.items
    (record { cond = c.branch-item.result.cond; tokens = c.in_ok-tokens.tokens }) c.loop-branch-test.true c.branch-item.is c.loop-branch.invariant c.in_ok-push.ensures.items refl
    (c.in_ok-tokens.ensures ∙ ap (tokens_at c.args.list.now) c.deref.ensures.value)
