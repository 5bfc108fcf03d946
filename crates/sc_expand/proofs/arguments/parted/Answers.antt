use Rattle.std.proofs.Common.{◌∙◌, ◌++◌, [], All, arith, sym, ap, subst}
use Rattle.sc_expand.proofs.Facts.{All-nil}
use Rattle.sc_expand.proofs.Parting.{begun-parted}
use Rattle.sc_expand.proofs.Terms.{IsHeldHidden, begun_with, seen_arguments, seen_list}
use Rattle.sc_expand.specs.Arguments as model
use Rattle.sc_expand.proofs.arguments.parted.Goals as goal

pub loop-index-init : goal.loop-index-init
loop-index-init c =
    let names = c.args.names.now in
    record {
      is = λ sets.
          let seen = seen_list names sets c.args.between.now in
          sym (ap (λ l. seen_arguments names sets l ++ begun_with [] (model.parted c.args.commas 0 seen)) c.new.ensures.items ∙ begun-parted c.args.commas 0 seen);
      own = λ sets held. subst (All (All (IsHeldHidden names sets))) (sym c.new.ensures.items) (All-nil (All (IsHeldHidden names sets)));
      begin = omega arith;
      inside = omega arith;
      deep = omega arith;
    }

pub loop-index-preserved : goal.loop-index-preserved
loop-index-preserved c =
    let was = c.loop-index.invariant in
    let next = c.in_ok-index.ensures in
    record {
      is = λ sets. was.is sets ∙ next.is sets;
      own = λ sets held. next.own sets held (was.own sets held);
      begin = next.begin;
      inside = next.next.1;
      deep = omega (arith, was.deep, next.deep, next.next.0);
    }

pub returns-clause-own : goal.returns-clause-own
returns-clause-own c = λ sets held. c.in_ok-arguments.ensures.own c.args.names.now sets held (c.loop-index.invariant.own sets held)
