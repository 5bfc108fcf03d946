use Rattle.std.proofs.Common.{All, ◌∙◌, ap, subst, sym}
use Rattle.sc_scope.specs.Kept.{levels_of}
use Rattle.sc_scope.specs.Numbered.{IsNumbered}
use Rattle.sc_scope.proofs.NumberLemmas.{levels-moved, tops-front, tops-last}
use Rattle.sc_scope.proofs.levels.stacked.Goals as goal

pub loop-top-preserved : goal.loop-top-preserved
loop-top-preserved c =
    let at = c.loop-top.invariant in
    let tops = c.in-Some.ensures.items in
    record {
      levels = rw c.in_ok-new.ensures.ok (sym (levels-moved _ _ _ (levels_of c.loop-top.levels) tops) ∙ at.levels);
      tops = λ made all. tops-front made _ c.in-Some.top (subst (All (IsNumbered made)) tops (at.tops made all));
      numbered = λ made all. (tops-last made _ c.in-Some.top (subst (All (IsNumbered made)) tops (at.tops made all)), rw c.in_ok-new.ensures.ok (at.numbered made all));
    }
