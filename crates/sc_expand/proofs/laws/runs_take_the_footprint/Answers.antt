use Rattle.std.proofs.Common.{◌≡◌, subst}
use Rattle.sc_expand.proofs.Facts.{one_footprint}
use Rattle.sc_expand.proofs.RunFootprints.{FailsWith, Prints, run-prints}
use Rattle.sc_expand.proofs.Terms.{End, fails, footprint, over}
use Rattle.sc_expand.proofs.laws.runs_take_the_footprint.Goals as goal

pub returns : goal.returns
returns g c = λ provenance macros names within t rest done end u run r d.
    let x = run-prints provenance macros names within run in
    let p = subst (λ f. Prints provenance macros f rest end u) (one_footprint x.expands d) x.prints in
    let ends : (e : End _) → end ≡ e → FailsWith provenance macros e (footprint d).fails = λ e is. subst (λ (x : End _). FailsWith provenance macros x (footprint d).fails) is p.answers in
    (p.left, p.covers.agree, λ after is. ends (over after) is, λ failure is. ends (fails failure) is)
