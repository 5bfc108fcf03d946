use Rattle.sc_subst.specs.Hides.{set_at}
use Rattle.sc_subst.proofs.SeenLaws.{held_common, seen_common}
use Rattle.sc_subst.proofs.Store.{both_ok, if_ok}
use Rattle.sc_subst.proofs.operators.common.Goals as goal

pub returns-clause-own : goal.returns-clause-own
returns-clause-own c =
    both_ok _ _ _ c.meet.result
    (λ made own exact. record {
      own = own;
      held = held_common c.args.names.now (set_at c.args.sets.now c.args.one.0) (set_at c.args.sets.now c.args.two.0) (set_at c.meet.new.self made.0) c.requires.one.held c.requires.two.held exact;
    }) c.meet.ensures.own c.meet.ensures.exact

pub returns-clause-meets : goal.returns-clause-meets
returns-clause-meets c =
    if_ok _ _ c.meet.result
    (λ made exact. seen_common c.args.names.now (set_at c.args.sets.now c.args.one.0) (set_at c.args.sets.now c.args.two.0) (set_at c.meet.new.self made.0) c.requires.one.held c.requires.two.held exact c.one_to_one.ensures)
    c.meet.ensures.exact
