use Rattle.std.proofs.Common.{[], ◌∷◌, ◌∙◌, ap, length, subst}
use Rattle.sc_fork.specs.declared.piece.Piece.TheVariants.{Going}
use Rattle.sc_fork.specs.Owns.{IsNumbered, IsWithin, OwnsPiece}
use Rattle.sc_fork.specs.Pieces.{IfGoing, IsPast, IsReducedBy}
use Rattle.sc_fork.proofs.PieceLemmas.{split-phase, reduce-is, shift-is, classify-phase, merge-alike, all-one, silent-alike, merged-row, merge-branches, merge-leaves}
use Rattle.sc_merge.specs.Keys.{AreAlike}
use Rattle.sc_fork.proofs.fork.pieces_of.Goals as goal

pub split-requires-clause-phase : goal.split-requires-clause-phase
split-requires-clause-phase g c = split-phase _ _ _ _ _ (rw c.in-Split.is at c.requires.event).1.1

pub split-requires-clause-from : goal.split-requires-clause-from
split-requires-clause-from g c = subst (IsWithin (length c.args.source.now.list.now)) (split-phase _ _ _ _ _ (rw c.in-Split.is at c.requires.event).1.1) (rw c.in-Split.is at c.requires.own).within

pub reduce-requires-clause-phase : goal.reduce-requires-clause-phase
reduce-requires-clause-phase g c = (reduce-is _ _ _ _ _ _ (rw c.in-Reduce.is at c.requires.event).1.1).0

pub reduce-requires-clause-at : goal.reduce-requires-clause-at
reduce-requires-clause-at g c = subst (IsWithin (length c.args.source.now.list.now)) (reduce-is _ _ _ _ _ _ (rw c.in-Reduce.is at c.requires.event).1.1).0 (rw c.in-Reduce.is at c.requires.own).within

pub reduce-requires-clause-action : goal.reduce-requires-clause-action
reduce-requires-clause-action g c = (reduce-is _ _ _ _ _ _ (rw c.in-Reduce.is at c.requires.event).1.1).1

pub shift-requires-clause-phase : goal.shift-requires-clause-phase
shift-requires-clause-phase g c = (shift-is _ _ _ _ _ (rw c.in-Shift.is at c.requires.event).1.1).0

pub shift-requires-clause-at : goal.shift-requires-clause-at
shift-requires-clause-at g c = subst (IsWithin (length c.args.source.now.list.now)) (shift-is _ _ _ _ _ (rw c.in-Shift.is at c.requires.event).1.1).0 (rw c.in-Shift.is at c.requires.own).within

pub shift-requires-clause-no_reduction : goal.shift-requires-clause-no_reduction
shift-requires-clause-no_reduction g c = (shift-is _ _ _ _ _ (rw c.in-Shift.is at c.requires.event).1.1).1

pub classify-requires-clause-phase : goal.classify-requires-clause-phase
classify-requires-clause-phase g c = classify-phase _ _ _ _ _ (rw c.in-Classify.is at c.requires.event).1.1

pub classify-requires-clause-at : goal.classify-requires-clause-at
classify-requires-clause-at g c = subst (IsWithin (length c.args.source.now.list.now)) (classify-phase _ _ _ _ _ (rw c.in-Classify.is at c.requires.event).1.1) (rw c.in-Classify.is at c.requires.own).within

pub merge-requires-clause-alike : goal.merge-requires-clause-alike
merge-requires-clause-alike g c = merge-alike _ _ _ _ _ (rw c.in-Merge.is at c.requires.event).1.1

pub merge-requires-clause-silent : goal.merge-requires-clause-silent
merge-requires-clause-silent g c =
    let s = g.C.Conditions.sets c.args.conds.now in
    let own = rw c.in-Merge.is at c.requires.own in
    silent-alike s (length c.args.trees.now) c.args.source.now c.in-Merge.left c.in-Merge.right c.requires.source own.0 own.1
    (merge-alike _ _ _ _ _ (rw c.in-Merge.is at c.requires.event).1.1)

pub returns-in_err-merged-in-Merge-clause-branches : goal.returns-in_err-merged-in-Merge-clause-branches
returns-in_err-merged-in-Merge-clause-branches g c =
    let s = g.C.Conditions.sets in
    merge-branches (s c.args.conds.now) (s c.merge.new.conds) c.args.trees.now c.merge.new.trees c.in-Merge.left.cond c.in-Merge.right.cond c.merge.ensures.keeps c.requires.branches
    c.merge.ensures.adds

pub returns-in_err-piece-in-Merge-clause-branches : goal.returns-in_err-piece-in-Merge-clause-branches
returns-in_err-piece-in-Merge-clause-branches g c =
    let s = g.C.Conditions.sets in
    merge-branches (s c.args.conds.now) (s c.merge.new.conds) c.args.trees.now c.merge.new.trees c.in-Merge.left.cond c.in-Merge.right.cond c.merge.ensures.keeps c.requires.branches
    c.merge.ensures.adds

pub returns-in_err-vec-in-Merge-clause-branches : goal.returns-in_err-vec-in-Merge-clause-branches
returns-in_err-vec-in-Merge-clause-branches g c =
    let s = g.C.Conditions.sets in
    merge-branches (s c.args.conds.now) (s c.merge.new.conds) c.args.trees.now c.merge.new.trees c.in-Merge.left.cond c.in-Merge.right.cond c.merge.ensures.keeps c.requires.branches
    c.merge.ensures.adds

pub returns-in-Split-clause-own : goal.returns-in-Split-clause-own
returns-in-Split-clause-own g c = c.split.ensures.own (length c.args.trees.now) (rw c.in-Split.is at c.requires.own)

pub returns-in_ok-vec-in-Reduce-clause-pieces : goal.returns-in_ok-vec-in-Reduce-clause-pieces
returns-in_ok-vec-in-Reduce-clause-pieces g c = rw (c.in-Reduce.is, c.in_ok-vec-in-Reduce.ensures.items) c.in_ok-piece-in-Reduce.ensures.piece

pub returns-in_ok-vec-in-Shift-clause-pieces : goal.returns-in_ok-vec-in-Shift-clause-pieces
returns-in_ok-vec-in-Shift-clause-pieces g c = rw (c.in-Shift.is, c.in_ok-vec-in-Shift.ensures.items) (c.in_ok-piece-in-Shift.ensures.piece (g.C.Conditions.sets c.args.conds.now))

pub returns-in-Classify-clause-own : goal.returns-in-Classify-clause-own
returns-in-Classify-clause-own g c = c.classify.ensures.own (length c.args.trees.now) (rw c.in-Classify.is at c.requires.own)

pub returns-in_ok-vec-in-Merge-clause-pieces : goal.returns-in_ok-vec-in-Merge-clause-pieces
returns-in_ok-vec-in-Merge-clause-pieces g c =
    rw c.in-Merge.is
    (record {
      merged = c.in_ok-merged-in-Merge.merged;
      is = c.in_ok-vec-in-Merge.ensures.items ∙ ap (λ piece. piece ∷ []) c.in_ok-piece-in-Merge.ensures;
      merges = record {
        cond = c.in_ok-merged-in-Merge.ensures.cond;
        alike = c.in_ok-merged-in-Merge.ensures.alike;
        first = c.in_ok-merged-in-Merge.ensures.first;
        second = c.in_ok-merged-in-Merge.ensures.second;
      };
    })

pub returns-in_ok-vec-in-Merge-clause-own : goal.returns-in_ok-vec-in-Merge-clause-own
returns-in_ok-vec-in-Merge-clause-own g c =
    let s = g.C.Conditions.sets in
    let own = rw c.in-Merge.is at c.requires.own in
    all-one (OwnsPiece (s c.merge.new.conds) (length c.merge.new.trees) c.args.source.now) c.in_ok-vec-in-Merge.field-0.items (Going c.in_ok-merged-in-Merge.merged)
    (c.in_ok-vec-in-Merge.ensures.items ∙ ap (λ piece. piece ∷ []) c.in_ok-piece-in-Merge.ensures)
    (merged-row (s c.args.conds.now) (s c.merge.new.conds) (length c.args.trees.now) (length c.merge.new.trees) c.args.source.now c.in-Merge.left c.in_ok-merged-in-Merge.merged
    c.requires.source own.0 c.in_ok-merged-in-Merge.ensures.alike c.in_ok-merged-in-Merge.ensures.own c.in_ok-merged-in-Merge.ensures.trees)

pub returns-in_ok-vec-in-Merge-clause-branches : goal.returns-in_ok-vec-in-Merge-clause-branches
returns-in_ok-vec-in-Merge-clause-branches g c =
    let s = g.C.Conditions.sets in
    merge-branches (s c.args.conds.now) (s c.merge.new.conds) c.args.trees.now c.merge.new.trees c.in-Merge.left.cond c.in-Merge.right.cond c.merge.ensures.keeps c.requires.branches
    c.merge.ensures.adds

pub returns-in_ok-vec-in-Reduce-clause-phases : goal.returns-in_ok-vec-in-Reduce-clause-phases
returns-in_ok-vec-in-Reduce-clause-phases g c = rw c.in-Reduce.is
    (all-one (IfGoing (IsReducedBy c.args.source.now c.in-Reduce.at c.in-Reduce.production c.in-Reduce.parent)) _ _ c.in_ok-vec-in-Reduce.ensures.items c.in_ok-piece-in-Reduce.ensures.reduced)

pub returns-in_ok-vec-in-Reduce-clause-order : goal.returns-in_ok-vec-in-Reduce-clause-order
returns-in_ok-vec-in-Reduce-clause-order g c = rw c.in-Reduce.is (ap length c.in_ok-vec-in-Reduce.ensures.items)

pub returns-in_ok-vec-in-Shift-clause-phases : goal.returns-in_ok-vec-in-Shift-clause-phases
returns-in_ok-vec-in-Shift-clause-phases g c = rw c.in-Shift.is (all-one (IfGoing (IsPast c.args.source.now c.in-Shift.at)) _ _ c.in_ok-vec-in-Shift.ensures.items c.in_ok-piece-in-Shift.ensures.phase)

pub returns-in_ok-vec-in-Shift-clause-order : goal.returns-in_ok-vec-in-Shift-clause-order
returns-in_ok-vec-in-Shift-clause-order g c = rw c.in-Shift.is (ap length c.in_ok-vec-in-Shift.ensures.items)

pub returns-in_ok-vec-in-Merge-clause-phases : goal.returns-in_ok-vec-in-Merge-clause-phases
returns-in_ok-vec-in-Merge-clause-phases g c = rw c.in-Merge.is (all-one (IfGoing (AreAlike c.in-Merge.left)) _ _ (c.in_ok-vec-in-Merge.ensures.items ∙ ap (λ piece. piece ∷ []) c.in_ok-piece-in-Merge.ensures) c.in_ok-merged-in-Merge.ensures.alike)

pub returns-in_ok-vec-in-Merge-clause-order : goal.returns-in_ok-vec-in-Merge-clause-order
returns-in_ok-vec-in-Merge-clause-order g c = rw c.in-Merge.is (c.in_ok-merged-in-Merge.merged, c.in_ok-vec-in-Merge.ensures.items ∙ ap (λ piece. piece ∷ []) c.in_ok-piece-in-Merge.ensures)

pub returns-in-Split-clause-numbered : goal.returns-in-Split-clause-numbered
returns-in-Split-clause-numbered g c = c.split.ensures.numbered c.args.numbers.now (rw c.in-Split.is at c.requires.numbered)

pub returns-in-Classify-clause-numbered : goal.returns-in-Classify-clause-numbered
returns-in-Classify-clause-numbered g c = c.classify.ensures.numbered c.args.numbers.now (rw c.in-Classify.is at c.requires.numbered)

pub returns-in_ok-vec-in-Shift-clause-numbered : goal.returns-in_ok-vec-in-Shift-clause-numbered
returns-in_ok-vec-in-Shift-clause-numbered g c =
    all-one (IsNumbered c.args.numbers.now) c.in_ok-vec-in-Shift.field-0.items c.in_ok-piece-in-Shift.piece c.in_ok-vec-in-Shift.ensures.items
    (c.in_ok-piece-in-Shift.ensures.numbered c.args.numbers.now (rw c.in-Shift.is at c.requires.numbered))

pub returns-in_ok-vec-in-Reduce-clause-numbered : goal.returns-in_ok-vec-in-Reduce-clause-numbered
returns-in_ok-vec-in-Reduce-clause-numbered g c =
    all-one (IsNumbered c.reduce.new.numbers) c.in_ok-vec-in-Reduce.field-0.items c.in_ok-piece-in-Reduce.piece c.in_ok-vec-in-Reduce.ensures.items c.in_ok-piece-in-Reduce.ensures.numbered

pub returns-in_ok-vec-in-Merge-clause-numbered : goal.returns-in_ok-vec-in-Merge-clause-numbered
returns-in_ok-vec-in-Merge-clause-numbered g c =
    all-one (IsNumbered c.merge.new.numbers) c.in_ok-vec-in-Merge.field-0.items (Going c.in_ok-merged-in-Merge.merged)
    (c.in_ok-vec-in-Merge.ensures.items ∙ ap (λ piece. piece ∷ []) c.in_ok-piece-in-Merge.ensures) c.in_ok-merged-in-Merge.ensures.numbered

pub returns-in_err-merged-in-Merge-clause-leaves : goal.returns-in_err-merged-in-Merge-clause-leaves
returns-in_err-merged-in-Merge-clause-leaves g c = merge-leaves _ _ _ c.merge.ensures.adds

pub returns-in_err-piece-in-Merge-clause-leaves : goal.returns-in_err-piece-in-Merge-clause-leaves
returns-in_err-piece-in-Merge-clause-leaves g c = merge-leaves _ _ _ c.merge.ensures.adds

pub returns-in_err-vec-in-Merge-clause-leaves : goal.returns-in_err-vec-in-Merge-clause-leaves
returns-in_err-vec-in-Merge-clause-leaves g c = merge-leaves _ _ _ c.merge.ensures.adds

pub returns-in_ok-vec-in-Merge-clause-leaves : goal.returns-in_ok-vec-in-Merge-clause-leaves
returns-in_ok-vec-in-Merge-clause-leaves g c = merge-leaves _ _ _ c.merge.ensures.adds
