use Rattle.sc_subst.specs.Hides.{set_at}
use Rattle.sc_subst.proofs.SeenLaws.{held_union, seen_union}
use Rattle.sc_subst.proofs.Store.{both_ok, if_ok}
use Rattle.sc_subst.proofs.filling.both.Goals as goal

pub returns-clause-own : goal.returns-clause-own
returns-clause-own c =
    both_ok _ _ _ c.union.result
    (λ made own exact. record {
      own = own;
      held = held_union c.args.names.now (set_at c.args.sets.now c.args.one.0) (set_at c.args.sets.now c.args.two.0) (set_at c.union.new.self made.0) c.requires.one.held c.requires.two.held exact;
    }) c.union.ensures.own c.union.ensures.exact

pub returns-clause-joins : goal.returns-clause-joins
returns-clause-joins c =
    if_ok _ _ c.union.result
    (λ made exact. seen_union c.args.names.now (set_at c.args.sets.now c.args.one.0) (set_at c.args.sets.now c.args.two.0) (set_at c.union.new.self made.0) c.requires.one.held c.requires.two.held exact)
    c.union.ensures.exact
