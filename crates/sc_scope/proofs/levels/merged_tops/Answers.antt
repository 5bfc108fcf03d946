use Rattle.std.proofs.Common.{All, map, ◌≡◌, [], ◌∷◌, ◌++◌, subst, sym}
use Rattle.std.proofs.lemmas.List.{map-append}
use Rattle.std.proofs.lemmas.List.Elements.{All-nil}
use Rattle.sc_base.proofs.Growth.{Extends-refl, Extends-trans}
use Rattle.sc_scope.specs.Kept.{bindings_at}
use Rattle.sc_scope.specs.Numbered.{IsNumbered}
use Rattle.sc_scope.proofs.NumberLemmas.{AreNumbered-Extends, tops-Extends, tops-more}
use Rattle.sc_scope.proofs.LevelLemmas.{owns-first, some-more, some-none}
use Rattle.sc_scope.proofs.TrieLemmas.{own-level}
use Rattle.sc_scope.proofs.levels.merged_tops.Goals as goal

pub merged-requires-clause-own : goal.merged-requires-clause-own
merged-requires-clause-own g c = own-level c.loop-left.invariant.merges.keeps (owns-first (rw c.in-Level.is at c.loop-left.invariant.merges.left_own))

pub merged-requires-clause-other_own : goal.merged-requires-clause-other_own
merged-requires-clause-other_own g c = own-level c.loop-left.invariant.merges.keeps (owns-first (rw c.in-Level-right.is at c.loop-left.invariant.merges.right_own))

pub loop-left-init : goal.loop-left-init
loop-left-init g c = record {
  merges = rw c.new-tops.ensures.items (some-none _ c.args.here c.args.there _ _ c.requires.count c.requires.left_own c.requires.right_own);
  grows = Extends-refl _;
  tops = subst (All (IsNumbered _)) (sym c.new-tops.ensures.items) (All-nil (IsNumbered _));
  left = c.requires.left_numbered;
  right = c.requires.right_numbered;
}

pub loop-left-preserved : goal.loop-left-preserved
loop-left-preserved g c =
    let at = c.loop-left.invariant in
    let tops = map bindings_at c.loop-left.tops.items in
    let top = bindings_at c.in_ok-top-in-Level-right.top in
    let grows = c.merged.ensures.grows in
    let added : map bindings_at c.push.new.self.items ≡ tops ++ top ∷ [] = rw (c.in_ok-push-in-Level-right.ensures.items, map-append) in
    record {
      merges = rw (c.deref-left.ensures, c.deref-right.ensures)
          (some-more c.args.here c.args.there _ _ tops _ _ _ (bindings_at c.in-Level.left_top) (bindings_at c.in-Level-right.right_top) top c.merged.ensures.keeps
          c.requires.here_own c.requires.there_own c.in_ok-top-in-Level-right.ensures.merges added (rw (c.in-Level.is, c.in-Level-right.is) at at.merges));
      grows = Extends-trans at.grows grows;
      tops = subst (All (IsNumbered _)) (sym c.in_ok-push-in-Level-right.ensures.items)
          (tops-more _ c.loop-left.tops.items _ (tops-Extends _ c.loop-left.tops.items grows at.tops) c.in_ok-top-in-Level-right.ensures.numbered);
      left = rw c.deref-left.ensures (AreNumbered-Extends _ grows (rw c.in-Level.is at at.left).1);
      right = rw c.deref-right.ensures (AreNumbered-Extends _ grows (rw c.in-Level-right.is at at.right).1);
    }
