use Rattle.std.proofs.Common.{◌≡◌, [], ◌∷◌, ◌++◌, length, ap, ◌∙◌, arith}
use Rattle.std.specs.Vec.Iter.{into_iter_items}
use Rattle.sc_fork.proofs.ReplaceLemmas.{placed-going, placed-over, taken-more}
use Rattle.sc_fork.proofs.fork.replace.Goals as goal

pub loop-piece-preserved-in-Continue-branch-3 : goal.loop-piece-preserved-in-Continue-branch-3
loop-piece-preserved-in-Continue-branch-3 c =
    let at = c.loop-piece in
    let steps : into_iter_items at.piece-iterator ≡ c.in-Some.piece ∷ into_iter_items c.next.new.self = c.in-Some.ensures.steps.0 in
    record {
      placed =
          placed-going c.remove.new.rows.items c.args.ended.now.items at.yielded c.in-Some.piece c.in-Going.held at.rows.items c.push-in-Going.new.self.items at.ended.items
          at.made.items c.push.new.self.items c.len.result at.invariant.placed c.in-Going.is (c.in_ok-push-in-Going-2.ensures.items ∙ ap (λ row. at.rows.items ++ row ∷ []) c.in_ok-row-in-Going.ensures) (c.len.ensures ∙ at.rows.ok.0) c.in_ok-push-in-Going.ensures.items;
      left = taken-more at.yielded c.in-Some.piece (into_iter_items at.piece-iterator) (into_iter_items c.next.new.self) _ steps at.invariant.left;
      count = let was = at.invariant.count in let gone = c.in-Some.ensures.steps.1 in let short = ap length steps in omega arith;
    }

pub loop-piece-preserved : goal.loop-piece-preserved
loop-piece-preserved c =
    let at = c.loop-piece in
    let steps : into_iter_items at.piece-iterator ≡ c.in-Some.piece ∷ into_iter_items c.next.new.self = c.in-Some.ensures.steps.0 in
    record {
      placed =
          placed-over c.remove.new.rows.items c.args.ended.now.items at.yielded c.in-Some.piece c.in-Over.part at.rows.items at.ended.items c.push-in-Over.new.self.items at.made.items
          at.invariant.placed c.in-Over.is c.in_ok-push-in-Over.ensures.items;
      left = taken-more at.yielded c.in-Some.piece (into_iter_items at.piece-iterator) (into_iter_items c.next.new.self) _ steps at.invariant.left;
      count = let was = at.invariant.count in let gone = c.in-Some.ensures.steps.1 in let short = ap length steps in omega arith;
    }
