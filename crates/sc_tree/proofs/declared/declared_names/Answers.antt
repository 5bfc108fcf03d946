use Rattle.std.proofs.Common.{map}
use Rattle.std.proofs.lemmas.Result.{IfOk-weaker}
use Rattle.sc_tree.specs.Views.{line_of}
use Rattle.sc_tree.proofs.DeclaredLemmas.{names-at, names-own}
use Rattle.sc_tree.proofs.declared.declared_names.Goals as goal

pub returns-clause-names : goal.returns-clause-names
returns-clause-names g c =
    IfOk-weaker c.leaves.result _ _
    (λ names is d config path walked. names-at (g.C.Conditions.sets c.walk.new.conds) (map line_of c.args.lines.now) names.items c.deref.result.now c.in_ok-passed.passed.items d path is c.deref.ensures.value
    (c.in_ok-passed.ensures.passed d config path walked))
    c.leaves.ensures

pub returns-clause-own : goal.returns-clause-own
returns-clause-own g c =
    IfOk-weaker c.leaves.result _ _
    (λ names is. names-own (g.C.Conditions.sets c.walk.new.conds) (map line_of c.args.lines.now) names.items c.deref.result.now c.in_ok-passed.passed.items is c.deref.ensures.value c.in_ok-passed.ensures.own)
    c.leaves.ensures
