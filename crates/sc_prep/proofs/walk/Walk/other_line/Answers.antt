use Rattle.std.proofs.Common.{sym, Some}
use Rattle.sc_prep.proofs.Terms.{plain_by, refusing, seen_line}
use Rattle.sc_prep.proofs.WalkMoves.{refused-as, step-as, unchanged-by}
use Rattle.sc_prep.proofs.walk.Walk.other_line.Goals as goal

pub returns-in_ok-refuse_all-in-Some-clause-moved : goal.returns-in_ok-refuse_all-in-Some-clause-moved
returns-in_ok-refuse_all-in-Some-clause-moved g c = λ standard names.
    let line = c.args.line.now in
    let d = c.args.directive in
    step-as (λ files config m. refusing m (seen_line standard names files line) c.in-Some.cause) (λ files config m. plain_by m (seen_line standard names files line) (Some d))
    (λ files config m _ _. refused-as m (seen_line standard names files line) d c.in-Some.cause (sym c.in-Some.ensures))
    (c.in_ok-refuse_all-in-Some.ensures.moved standard names)

pub returns-in-None-clause-moved : goal.returns-in-None-clause-moved
returns-in-None-clause-moved g c = λ standard names.
    unchanged-by standard names (g.C.Conditions.sets c.args.conds.now) c.args.self.now c.requires.owns c.args.line.now c.args.directive
    (sym c.in-None.ensures) c.requires.define c.requires.undef c.requires.pragma
