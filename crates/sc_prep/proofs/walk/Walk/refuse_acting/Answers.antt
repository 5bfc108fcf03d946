use Rattle.std.proofs.Common.{sym, ap, ◌&&◌}
use Rattle.sc_prep.proofs.Facts.{Denotes-self, IsConfig-kept, on_ok_weaker}
use Rattle.sc_prep.proofs.RunLemmas.{denotes-as}
use Rattle.sc_prep.proofs.WalkMoves.{step-kept}
use Rattle.sc_prep.proofs.walk.Walk.refuse_acting.Goals as goal

pub returns-clause-moved : goal.returns-clause-moved
returns-clause-moved g c =
    let old = g.C.Conditions.sets c.args.conds.now in
    let mid = g.C.Conditions.sets c.apply_and.new.self in
    let acting = c.args.self.now.acting.0 in
    let part = c.args.part.0 in
    let keeps = c.in_ok-refused.ensures.keeps in
    let both = c.in_ok-refused.ensures.meaning (old.has part) (old.has acting) (Denotes-self old part c.requires.own) (Denotes-self old acting c.requires.owns.acting) in
    on_ok_weaker c.refuse.result (λ moved standard names. step-kept keeps c.requires.owns (moved standard names (old.has part)
    (denotes-as (λ config. old.has part config && old.has acting config) (λ config. old.has part config && mid.has acting config)
    (λ config listed. ap (λ b. old.has part config && b) (sym (keeps.at acting config c.requires.owns.acting (IsConfig-kept keeps listed)))) both))) c.refuse.ensures.moved
