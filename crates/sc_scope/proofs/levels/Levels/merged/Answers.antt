use Rattle.std.proofs.Common.{sym, subst}
use Rattle.std.proofs.lemmas.Result.{IfOk-weaker}
use Rattle.sc_scope.specs.Kept.{levels_of}
use Rattle.sc_scope.specs.Kinds.{MergesLevels}
use Rattle.sc_scope.proofs.levels.Levels.merged.Goals as goal

pub returns-clause-merges : goal.returns-clause-merges
returns-clause-merges g c =
    IfOk-weaker c.stacked.result _ _
    (λ levels is. subst (MergesLevels _ _ c.args.here c.args.there (levels_of c.args.self.now) (levels_of c.args.other.now)) (sym is) c.in_ok-tops.ensures.merges)
    c.stacked.ensures.levels
