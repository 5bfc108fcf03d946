use Rattle.std.proofs.Common.{refl, ◌∙◌}
use Rattle.sc_expand.proofs.Facts.{Keeps-refl, Keeps-trans}
use Rattle.sc_expand.proofs.Rests.{rested-Grows, rested-then}
use Rattle.sc_expand.proofs.SeenLemmas.{Grows-refl}
use Rattle.sc_expand.proofs.Terms.{stores}
use Rattle.sc_expand.proofs.expansion.Expansion.drop_refused.Goals as goal

pub loop-first-init : goal.loop-first-init
loop-first-init g c = record {
  keeps = Keeps-refl (g.C.Conditions.sets c.args.conds.now);
  sets = refl;
  rested = λ names. rested-Grows (Grows-refl (stores (g.C.Conditions.sets c.args.conds.now) names c.args.self.now.sets)) c.args.self.now;
}

pub drop_first_token-requires : goal.drop_first_token-requires
drop_first_token-requires g c = record {
  held = (c.requires.held.0, (c.requires.held.1.0, (c.loop-first.invariant.rested c.requires.held.0).held c.requires.held.1.0 c.requires.held.1.1));
}

pub drop_one-requires : goal.drop_one-requires
drop_one-requires g c = record {
  held = (c.requires.held.0, (c.requires.held.1.0, (rested-then (c.loop-first.invariant.rested c.requires.held.0) (c.in_ok-first.ensures.rested c.requires.held.0)).held c.requires.held.1.0 c.requires.held.1.1));
}

pub returns-then-not-dropped-clause-rested : goal.returns-then-not-dropped-clause-rested
returns-then-not-dropped-clause-rested g c = λ names. rested-then (c.loop-first.invariant.rested names) (rested-then (c.in_ok-first.ensures.rested names) (c.in_ok-dropped.ensures.rested names))

pub loop-first-preserved-then-first : goal.loop-first-preserved-then-first
loop-first-preserved-then-first g c = record {
  keeps = Keeps-trans c.loop-first.invariant.keeps c.drop_first_token.ensures.keeps;
  sets = c.drop_first_token.ensures.sets ∙ c.loop-first.invariant.sets;
  rested = λ names. rested-then (c.loop-first.invariant.rested names) (c.in_ok-first.ensures.rested names);
}

pub loop-first-preserved : goal.loop-first-preserved
loop-first-preserved g c = record {
  keeps = Keeps-trans c.loop-first.invariant.keeps (Keeps-trans c.drop_first_token.ensures.keeps c.drop_one.ensures.keeps);
  sets = c.drop_one.ensures.sets ∙ (c.drop_first_token.ensures.sets ∙ c.loop-first.invariant.sets);
  rested = λ names. rested-then (c.loop-first.invariant.rested names) (rested-then (c.in_ok-first.ensures.rested names) (c.in_ok-dropped.ensures.rested names));
}
