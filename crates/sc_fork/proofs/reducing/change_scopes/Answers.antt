use Rattle.std.proofs.Common.{sym, subst}
use Rattle.sc_scope.specs.Search.{OwnsLevels}
use Rattle.sc_scope.specs.Seen.{levels_in}
use Rattle.sc_scope.proofs.OwnLemmas.{push-own, pop-own, join-own}
use Rattle.sc_fork.proofs.MarkLemmas.{mark-push, mark-join, mark-parameters}
use Rattle.sc_fork.proofs.reducing.change_scopes.Goals as goal

pub bind_parameters-requires-clause-own : goal.bind_parameters-requires-clause-own
bind_parameters-requires-clause-own g c = subst (OwnsLevels (g.C.Conditions.sets c.args.conds.now)) (sym c.in_ok-push-in-PushParameters.ensures.ok) (push-own _ _ c.requires.own)

pub returns-in_ok-push-in-Push-clause-levels : goal.returns-in_ok-push-in-Push-clause-levels
returns-in_ok-push-in-Push-clause-levels g c =
    mark-push (g.C.Conditions.sets c.args.conds.now) c.args.trees.now c.args.cond c.args.tree (levels_in c.args.scopes.now) (levels_in c.push.new.self) c.args.mark c.in-Push.is
    c.in_ok-push-in-Push.ensures.ok

pub returns-in_ok-push-in-Push-clause-own : goal.returns-in_ok-push-in-Push-clause-own
returns-in_ok-push-in-Push-clause-own g c = subst (OwnsLevels (g.C.Conditions.sets c.args.conds.now)) (sym c.in_ok-push-in-Push.ensures.ok) (push-own _ _ c.requires.own)

pub returns-in_ok-pop-in-Pop-clause-own : goal.returns-in_ok-pop-in-Pop-clause-own
returns-in_ok-pop-in-Pop-clause-own g c = subst (OwnsLevels (g.C.Conditions.sets c.args.conds.now)) (sym c.in_ok-pop-in-Pop.ensures.ok) (pop-own _ _ c.requires.own)

pub returns-in_ok-join-in-Join-clause-levels : goal.returns-in_ok-join-in-Join-clause-levels
returns-in_ok-join-in-Join-clause-levels g c =
    mark-join (g.C.Conditions.sets c.args.conds.now) c.args.trees.now c.args.cond c.args.tree (levels_in c.args.scopes.now) (levels_in c.join.new.self) c.args.mark c.in-Join.is
    c.in_ok-join-in-Join.ensures.ok

pub returns-in_ok-join-in-Join-clause-own : goal.returns-in_ok-join-in-Join-clause-own
returns-in_ok-join-in-Join-clause-own g c = subst (OwnsLevels (g.C.Conditions.sets c.args.conds.now)) (sym c.in_ok-join-in-Join.ensures.ok) (join-own _ _ c.requires.own)

pub returns-in_ok-bind_parameters-in-PushParameters-clause-levels :
    goal.returns-in_ok-bind_parameters-in-PushParameters-clause-levels
returns-in_ok-bind_parameters-in-PushParameters-clause-levels g c =
    mark-parameters (g.C.Conditions.sets c.args.conds.now) c.args.trees.now c.args.cond c.args.tree (levels_in c.args.scopes.now) (levels_in c.bind_parameters.new.scopes) c.args.mark
    (g.C.Conditions.sets c.bind_parameters.new.conds) (levels_in c.push-in-PushParameters.new.self) c.in-PushParameters.is c.in_ok-push-in-PushParameters.ensures.ok
    c.in_ok-bind_parameters-in-PushParameters.ensures.levels

pub returns-in_err-push-in-Push-clause-numbered : goal.returns-in_err-push-in-Push-clause-numbered
returns-in_err-push-in-Push-clause-numbered g c = c.push.ensures.numbered c.args.numbers.now c.requires.numbered

pub returns-in_ok-push-in-Push-clause-numbered : goal.returns-in_ok-push-in-Push-clause-numbered
returns-in_ok-push-in-Push-clause-numbered g c = c.push.ensures.numbered c.args.numbers.now c.requires.numbered

pub returns-in_err-pop-in-Pop-clause-numbered : goal.returns-in_err-pop-in-Pop-clause-numbered
returns-in_err-pop-in-Pop-clause-numbered g c = c.pop.ensures.numbered c.args.numbers.now c.requires.numbered

pub returns-in_ok-pop-in-Pop-clause-numbered : goal.returns-in_ok-pop-in-Pop-clause-numbered
returns-in_ok-pop-in-Pop-clause-numbered g c = c.pop.ensures.numbered c.args.numbers.now c.requires.numbered

pub returns-in_err-push-in-PushParameters-clause-numbered : goal.returns-in_err-push-in-PushParameters-clause-numbered
returns-in_err-push-in-PushParameters-clause-numbered g c = c.push-in-PushParameters.ensures.numbered c.args.numbers.now c.requires.numbered

pub bind_parameters-requires-clause-numbered : goal.bind_parameters-requires-clause-numbered
bind_parameters-requires-clause-numbered g c = c.push-in-PushParameters.ensures.numbered c.args.numbers.now c.requires.numbered
