use Rattle.std.proofs.Common.{[], sym, subst, refl}
use Rattle.c11_parsing.specs.Bindings.{variable, bind_all, parameters_below, parameters_by}
use Rattle.c11_parsing.specs.C11.{c11_declarators}
use Rattle.sc_fork.specs.Reducing.{BindsUnder, Rebinds}
use Rattle.sc_scope.specs.declared.kind.NameKind.TheVariants.{Variable}
use Rattle.sc_scope.specs.Seen.{levels_in}
use Rattle.sc_scope.proofs.OwnLemmas.{own-Keeps}
use Rattle.sc_fork.proofs.MarkLemmas.{rebinds-found}
use Rattle.sc_fork.proofs.reducing.bind_parameters.Goals as goal

pub returns-in_default-parameters-clause-own : goal.returns-in_default-parameters-clause-own
returns-in_default-parameters-clause-own g c = own-Keeps _ _ _ c.parameters.ensures.keeps c.requires.own

pub bind_under-requires-clause-own : goal.bind_under-requires-clause-own
bind_under-requires-clause-own g c = own-Keeps _ _ _ c.parameters.ensures.keeps c.requires.own

pub returns-clause-levels : goal.returns-clause-levels
returns-clause-levels g c =
    let s = g.C.Conditions.sets in
    subst (λ value. Rebinds (s c.args.conds.now) (s c.bind_under.new.conds) c.args.trees.now c.args.cond value (λ tree. bind_all variable (parameters_by c11_declarators tree))
    (levels_in c.args.scopes.now) (levels_in c.bind_under.new.scopes)) (sym c.in-Some.is)
    (rebinds-found (s c.args.conds.now) (s c.parameters.new.conds) (s c.bind_under.new.conds) c.args.trees.now c.args.cond Variable c.in-Some.tree (λ tree. parameters_below c11_declarators tree [])
    c.in-Ok.names.items (levels_in c.args.scopes.now) (levels_in c.bind_under.new.scopes) c.parameters.ensures.keeps c.requires.cond c.requires.own c.in-Ok.ensures.names
    (subst (λ xs. BindsUnder (s c.parameters.new.conds) (s c.bind_under.new.conds) c.args.cond Variable xs (levels_in c.args.scopes.now) (levels_in c.bind_under.new.scopes)) c.deref.ensures.value
    c.in_ok-bind_under.ensures.binds) (parameters_by c11_declarators) (λ tree. refl))
