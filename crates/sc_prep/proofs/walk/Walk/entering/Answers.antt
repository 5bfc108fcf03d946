use Rattle.std.proofs.Common.{◌&&◌, not, subst}
use Rattle.sc_prep.proofs.Facts.{Denotes-self}
use Rattle.sc_prep.proofs.OnceLemmas.{entering-as}
use Rattle.sc_prep.proofs.Terms.{Denotes, once_at, text_at}
use Rattle.sc_prep.proofs.walk.Walk.entering.Goals as goal

pub returns-clause-entering : goal.returns-clause-entering
returns-clause-entering g c =
    let old = g.C.Conditions.sets c.args.conds.now in
    let mid = g.C.Conditions.sets c.apply_and.new.self in
    let w = c.args.self.now in
    let files = c.args.files.now in
    let cond = c.args.cond.0 in
    let name = text_at files c.args.file.0 in
    let inside = c.in_ok-inside.inside.0 in
    let entering = c.in_ok-entering.entering.0 in
    entering-as c.in_ok-inside.ensures.keeps c.in_ok-entering.ensures.keeps files w.once.items cond w.acting.0 inside entering name c.requires.owns.once
    (c.in_ok-inside.ensures.meaning (old.has cond) (old.has w.acting.0) (Denotes-self old cond c.requires.own) (Denotes-self old w.acting.0 c.requires.owns.acting))
    (subst (λ os. Denotes (g.C.Conditions.sets c.without_file.new.conds) entering (λ config. mid.has inside config && not (once_at mid files os config name))) c.deref.ensures.value c.in_ok-entering.ensures.without.is)
