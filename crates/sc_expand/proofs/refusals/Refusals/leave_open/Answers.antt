use Rattle.std.proofs.Common.{subst, sym}
use Rattle.sc_expand.proofs.Facts.{Denotes-self, Keeps-trans}
use Rattle.sc_expand.proofs.LeavingLemmas.{left-refused, left-waits}
use Rattle.sc_expand.proofs.Terms.{Failure, LeavesOpen, Place, UnterminatedCall}
use Rattle.sc_expand.proofs.refusals.Refusals.leave_open.Goals as goal

pub returns-then-whole-clause-leaves : goal.returns-then-whole-clause-leaves
returns-then-whole-clause-leaves g c =
    let s = g.C.Conditions.sets c.args.conds.now in
    let ends = c.args.ends.now in
    let failure : Failure Place = record { cause = UnterminatedCall; place = c.args.place } in
    subst (λ b. LeavesOpen s (g.C.Conditions.sets c.wait.new.conds) b ends.still.0 ends.bare.0 ends.alone.0 ends.bare.0 failure c.args.self.now c.wait.new.self) (sym c.if-whole.true)
    (left-waits c.apply_or.ensures.keeps c.wait.ensures.keeps ends.still.0 ends.bare.0 ends.alone.0 c.in_ok-left.left.0 failure c.args.self.now c.wait.new.self c.requires.live c.requires.bare
    (c.in_ok-left.ensures.meaning _ _ (Denotes-self s ends.still.0 c.requires.still) (Denotes-self s ends.alone.0 c.requires.alone)) c.in_ok-wait.ensures.waits)

pub returns-clause-leaves : goal.returns-clause-leaves
returns-clause-leaves g c =
    let s = g.C.Conditions.sets c.args.conds.now in
    let ends = c.args.ends.now in
    let failure : Failure Place = record { cause = UnterminatedCall; place = c.args.place } in
    subst (λ b. LeavesOpen s (g.C.Conditions.sets c.refuse.new.conds) b ends.still.0 ends.bare.0 ends.alone.0 c.in_ok-uncalled.uncalled.0 failure c.args.self.now c.refuse.new.self) (sym c.if-whole.false)
    (left-refused c.apply_or-2.ensures.keeps c.refuse.ensures.keeps ends.still.0 ends.bare.0 ends.alone.0 c.in_ok-uncalled.uncalled.0 failure c.args.self.now c.refuse.new.self c.requires.live c.requires.still
    (c.in_ok-uncalled.ensures.meaning _ _ (Denotes-self s ends.bare.0 c.requires.bare) (Denotes-self s ends.alone.0 c.requires.alone)) c.in_ok-refuse.ensures.refuses)

pub returns-clause-keeps : goal.returns-clause-keeps
returns-clause-keeps g c = Keeps-trans c.apply_or-2.ensures.keeps c.refuse.ensures.keeps
