use Rattle.sc_prep.proofs.Facts.{Denotes-self, Keeps-trans}
use Rattle.sc_prep.proofs.PragmaMoves.{owns-pragmas, reads-nothing, reads-token}
use Rattle.sc_prep.proofs.pragmas.Pragmas.read.Goals as goal

pub returns-then-is_never-clause-reads : goal.returns-then-is_never-clause-reads
returns-then-is_never-clause-reads g c =
    let old = g.C.Conditions.sets c.args.conds.now in
    let is = c.in_ok-reading.ensures.meaning (old.has c.args.cond.0) (old.has c.args.self.now.inside.0) (Denotes-self old _ c.requires.own) (Denotes-self old _ c.requires.owns.inside) in
    reads-nothing c.args.names.now c.args.cond.0 c.args.token c.requires.own c.requires.owns c.in_ok-reading.ensures.keeps is (c.is_never.ensures.0 c.if-is_never.true)

pub pass-requires : goal.pass-requires
pass-requires g c = record {
  owns = owns-pragmas (Keeps-trans c.in_ok-reading.ensures.keeps c.in_ok-free.ensures.keeps) c.requires.owns;
  own = c.in_ok-free.ensures.keeps.own _ c.in_ok-reading.ensures.own;
  held = c.requires.held;
}

pub returns-in_err-pass-clause-keeps : goal.returns-in_err-pass-clause-keeps
returns-in_err-pass-clause-keeps g c = Keeps-trans c.in_ok-reading.ensures.keeps (Keeps-trans c.in_ok-free.ensures.keeps c.in_err-pass.ensures.keeps)

pub returns-clause-reads : goal.returns-clause-reads
returns-clause-reads g c =
    let old = g.C.Conditions.sets c.args.conds.now in
    let is = c.in_ok-reading.ensures.meaning (old.has c.args.cond.0) (old.has c.args.self.now.inside.0) (Denotes-self old _ c.requires.own) (Denotes-self old _ c.requires.owns.inside) in
    let mid = g.C.Conditions.sets c.apply_and.new.self in
    let keeps = c.in_ok-reading.ensures.keeps in
    let free = c.in_ok-free.ensures.meaning _ _ (Denotes-self mid _ (keeps.own _ c.requires.own)) (Denotes-self mid _ c.in_ok-reading.ensures.own) in
    reads-token c.args.names.now c.args.cond.0 c.args.token c.requires.own c.requires.owns keeps is
    c.in_ok-free.ensures.keeps c.in_ok-pass.ensures.keeps free c.in_ok-pass.ensures.passes

pub returns-clause-keeps : goal.returns-clause-keeps
returns-clause-keeps g c = Keeps-trans c.in_ok-reading.ensures.keeps (Keeps-trans c.in_ok-free.ensures.keeps c.in_ok-pass.ensures.keeps)
