use Rattle.std.proofs.Common.{ap, drop, ◌∙◌}
use Rattle.sc_expand.proofs.Terms.{Expansion}
use Rattle.sc_expand.proofs.expansion.Expansion.drop_first.Goals as goal

pub returns-clause-drops : goal.returns-clause-drops
returns-clause-drops g c =
    let kept = c.in_ok-keep_first.ensures in
    record {
      work = c.drop_first.ensures ∙ ap (λ (e : Expansion). drop 1 e.top.work) kept.others;
      out = ap (λ (e : Expansion). e.top.out) kept.others;
      calls = ap (λ (e : Expansion). e.top.calls) kept.others;
      below = ap (λ (e : Expansion). e.below) kept.others;
      refusals = ap (λ (e : Expansion). e.refusals) kept.others;
      rest = kept.keeps_first;
    }
