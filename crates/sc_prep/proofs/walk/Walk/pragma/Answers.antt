use Rattle.std.proofs.Common.{sym}
use Rattle.sc_prep.proofs.Facts.{on_ok_weaker}
use Rattle.sc_prep.proofs.OnceMoves.{marks, passes}
use Rattle.sc_prep.proofs.walk.Walk.pragma.Goals as goal

pub returns-then-is_once-clause-moved : goal.returns-then-is_once-clause-moved
returns-then-is_once-clause-moved g c = on_ok_weaker c.mark.result (λ marked standard.
    marks c.args.names.now c.mark.ensures.keeps c.args.self.now c.requires.owns c.mark.new.once standard c.args.line.now _ c.requires.line marked (λ files. sym (c.if-is_once.ensures standard files)))
    c.mark.ensures.marks

pub returns-else-is_once-clause-moved : goal.returns-else-is_once-clause-moved
returns-else-is_once-clause-moved g c = λ standard.
    passes c.args.names.now (g.C.Conditions.sets c.args.conds.now) c.args.self.now c.requires.owns standard c.args.line.now (λ files. sym (c.if-is_once.ensures standard files))
