use Rattle.std.proofs.Common.{get_or, ◌∙◌}
use Rattle.tests_parser.proofs.parse.list_of.Goals as goal

pub loop-under-preserved : goal.loop-under-preserved
loop-under-preserved g c = record {
  arities = c.in_ok-cond.ensures.keeps.arities ∙ c.loop-under.invariant.arities;
  items = c.in_ok-add_tokens.ensures.items (g.C.Conditions.sets c.condition_of.new.conds) c.in_ok-cond.ensures.own
      (λ k d within. c.in_ok-cond.ensures.keeps.own (get_or c.loop-under.list k d).0.0 (c.loop-under.invariant.items k d within));
  held = c.in_ok-add_tokens.ensures.held c.loop-under.invariant.held;
}
