use Rattle.sc_expand.proofs.Facts.{both_ok}
use Rattle.sc_expand.proofs.TakingLemmas.{held_with}
use Rattle.sc_expand.proofs.Terms.{set_at}
use Rattle.sc_expand.proofs.taking.with_own_name.Goals as goal

pub returns-clause-own : goal.returns-clause-own
returns-clause-own c =
    both_ok _ _ _ c.with.result
    (λ made own exact. record {
      own = own;
      held = held_with c.args.names.now (set_at c.args.sets.now c.args.head.hide.0) (set_at c.with.new.self made.0) c.args.head.token.spelling exact c.requires.hide.held c.requires.token.spelling;
    }) c.with.ensures.own c.with.ensures.exact
