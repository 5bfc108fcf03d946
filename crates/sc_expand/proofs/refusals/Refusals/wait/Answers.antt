use Rattle.std.proofs.Common.{◌||◌, ◌∙◌, refl, sym, ap}
use Rattle.sc_expand.proofs.Facts.{Denotes-Keeps, Denotes-self, or-false}
use Rattle.sc_expand.proofs.TakingLemmas.{stays-there}
use Rattle.sc_expand.proofs.refusals.Refusals.wait.Goals as goal

pub returns-then-is_never-clause-waits : goal.returns-then-is_never-clause-waits
returns-then-is_never-clause-waits g c =
    let s = g.C.Conditions.sets c.args.conds.now in
    let never = c.is_never.ensures.0 c.if-is_never.true in
    record {
      live = record { own = c.requires.live; at = λ x listed. sym (stays-there (s.has c.args.self.now.live.0 x) (s.has c.args.cond.0 x) (never.none x listed)) };
      waiting = record { own = c.requires.waiting; at = λ x listed. sym (ap (λ b. s.has c.args.self.now.waiting.0 x || b) (never.none x listed) ∙ or-false (s.has c.args.self.now.waiting.0 x)) };
      faults = refl;
    }

pub returns-clause-waits : goal.returns-clause-waits
returns-clause-waits g c =
    let old = g.C.Conditions.sets c.args.conds.now in
    let keeps = c.apply_without.ensures.keeps in
    let cond = Denotes-self old c.args.cond.0 c.requires.own in
    record {
      live = Denotes-Keeps c.apply_or.ensures.keeps (c.in_ok-live.ensures.meaning _ _ (Denotes-self old c.args.self.now.live.0 c.requires.live) cond);
      waiting = c.in_ok-waiting.ensures.meaning _ _ (Denotes-Keeps keeps (Denotes-self old c.args.self.now.waiting.0 c.requires.waiting)) (Denotes-Keeps keeps cond);
      faults = refl;
    }
