use Rattle.std.proofs.Common.{◌≡◌, get_or, refl, subst, sym}
use Rattle.sc_if.proofs.HalfLemmas.{followed-more, followed-none}
use Rattle.sc_if.proofs.PutLemmas.{Entry}
use Rattle.sc_model.proofs.SetLemmas.{Keeps-refl, Keeps-trans}
use Rattle.sc_model.specs.Sets.{IsCond}
use Rattle.sc_if.proofs.halves.follow.Goals as goal

pub loop-reading-init : goal.loop-reading-init
loop-reading-init g c =
    let s = g.C.Conditions.sets c.args.conds.now in
    record { keeps = Keeps-refl s; followed = followed-none s c.args.cond.0 c.args.ends.now.items c.requires.own }

pub put_both-requires : goal.put_both-requires
put_both-requires g c =
    let s = g.C.Conditions.sets c.args.conds.now in
    let was = c.loop-reading.invariant in
    let x : Entry = c.reading-item.result in
    let is : x ≡ get_or c.args.more.now c.loop-reading.reading-index x = c.reading-item.is in
    record {
      own = was.followed.own;
      cond_own = was.keeps.own _ c.requires.cond_own;
      other_own = was.keeps.own _ (subst (λ (y : Entry). IsCond s y.0.0) (sym is) (c.requires.more_own c.loop-reading.reading-index x c.loop-reading-test.true));
    }

pub returns-in_err-put_both-clause-keeps : goal.returns-in_err-put_both-clause-keeps
returns-in_err-put_both-clause-keeps g c = Keeps-trans c.loop-reading.invariant.keeps c.put_both.ensures.keeps

pub loop-reading-preserved : goal.loop-reading-preserved
loop-reading-preserved g c =
    let was = c.loop-reading.invariant in
    let x : Entry = c.reading-item.result in
    record {
      keeps = Keeps-trans was.keeps c.put_both.ensures.keeps;
      followed = followed-more c.args.more.now c.loop-reading.reading-index x c.loop-reading-test.true c.reading-item.is was.keeps c.requires.cond_own c.requires.more_own was.followed
          (c.in_ok-put_both.ensures.followed x.1 refl);
    }
