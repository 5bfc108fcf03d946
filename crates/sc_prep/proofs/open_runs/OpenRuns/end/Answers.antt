use Rattle.std.proofs.Common.{◌∙◌, sym, subst}
use Rattle.sc_prep.proofs.Facts.{Denotes-self}
use Rattle.sc_prep.proofs.ReadMoves.{ends-all, ends-nothing, ends-some}
use Rattle.sc_prep.proofs.Terms.{EndsRead}
use Rattle.sc_prep.proofs.open_runs.OpenRuns.end.Goals as goal
use Rattle.std.proofs.lemmas.List.{nil_from_length}

pub returns-then-len-eq0-clause-ends : goal.returns-then-len-eq0-clause-ends
returns-then-len-eq0-clause-ends g c =
    ends-nothing (g.C.Conditions.sets c.args.conds.now) c.args.self.now.read c.args.acting.0 c.args.live.0 c.requires.own (nil_from_length c.args.self.now.read (sym c.len.ensures ∙ c.if-len-eq0.true))

pub returns-then-is_never-clause-ends : goal.returns-then-is_never-clause-ends
returns-then-is_never-clause-ends g c =
    let old = g.C.Conditions.sets c.args.conds.now in
    let going = c.in_ok-going.ensures.meaning _ _ (Denotes-self old c.args.live.0 c.requires.live) (Denotes-self old c.args.acting.0 c.requires.acting) in
    subst (EndsRead old c.args.self.now.read c.args.acting.0 c.args.live.0 (g.C.Conditions.sets c.apply_without.new.self)) (sym c.in_ok-self.ensures)
    (ends-all c.in_ok-going.ensures.keeps c.args.self.now.read c.args.acting.0 c.args.live.0 c.in_ok-going.going.0 going
    (c.is_never.ensures.0 c.if-is_never.true))

pub returns-clause-ends : goal.returns-clause-ends
returns-clause-ends g c =
    let old = g.C.Conditions.sets c.args.conds.now in
    subst (EndsRead old c.args.self.now.read c.args.acting.0 c.args.live.0 (g.C.Conditions.sets c.apply_without.new.self)) (sym c.in_ok-push.ensures.ok)
    (ends-some c.in_ok-going.ensures.keeps c.args.self.now.read c.args.acting c.args.live.0 c.requires.own c.requires.acting)
