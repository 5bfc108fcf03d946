use Rattle.sc_prep.proofs.Facts.{All-get_or, Keeps-trans, take_more}
use Rattle.sc_prep.proofs.OnceLemmas.{Owned, without-next}
use Rattle.sc_prep.proofs.Terms.{text_at}
use Rattle.sc_prep.proofs.once.without_file.Goals as goal

pub loop-marked-preserved : goal.loop-marked-preserved
loop-marked-preserved g c =
    let once = c.args.once.now in
    let i = c.loop-marked.marked-index in
    let within = c.loop-marked-test.true in
    let first = c.loop-marked.invariant.keeps in
    record {
      keeps = Keeps-trans first c.in_ok-rest.ensures.keeps;
      rest = without-next first c.in_ok-rest.ensures.keeps c.args.files.now once i _ c.args.cond.0 c.loop-marked.rest.0 c.in_ok-rest.rest.0 (text_at c.args.files.now c.args.file.0)
          (take_more once i _ within) (All-get_or (Owned (g.C.Conditions.sets c.args.conds.now)) once i _ within c.requires.once) c.loop-marked.invariant.rest c.in_ok-rest.ensures.unless;
    }
