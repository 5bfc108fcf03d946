use Rattle.std.proofs.Common.{sym, subst, refl}
use Rattle.c11_parsing.specs.Bindings.{bind_all, declared, declared_by}
use Rattle.c11_parsing.specs.C11.{c11_declarators}
use Rattle.sc_fork.specs.Reducing.{BindsUnder, Rebinds}
use Rattle.sc_scope.specs.Seen.{levels_in}
use Rattle.sc_scope.specs.Shows.{kind_of}
use Rattle.sc_scope.proofs.OwnLemmas.{own-Keeps}
use Rattle.sc_fork.proofs.MarkLemmas.{rebinds-found}
use Rattle.sc_fork.proofs.reducing.bind_declared.Goals as goal

pub returns-in_default-declared-clause-own : goal.returns-in_default-declared-clause-own
returns-in_default-declared-clause-own g c = own-Keeps _ _ _ c.declared.ensures.keeps c.requires.own

pub bind_under-requires-clause-own : goal.bind_under-requires-clause-own
bind_under-requires-clause-own g c = own-Keeps _ _ _ c.declared.ensures.keeps c.requires.own

pub returns-clause-levels : goal.returns-clause-levels
returns-clause-levels g c =
    let s = g.C.Conditions.sets in
    subst (λ value. Rebinds (s c.args.conds.now) (s c.bind_under.new.conds) c.args.trees.now c.args.cond value (λ tree. bind_all (kind_of c.args.kind) (declared_by c11_declarators tree))
    (levels_in c.args.scopes.now) (levels_in c.bind_under.new.scopes)) (sym c.in-Some.is)
    (rebinds-found (s c.args.conds.now) (s c.declared.new.conds) (s c.bind_under.new.conds) c.args.trees.now c.args.cond c.args.kind c.in-Some.tree (declared c11_declarators) c.in-Ok.names.items
    (levels_in c.args.scopes.now) (levels_in c.bind_under.new.scopes) c.declared.ensures.keeps c.requires.cond c.requires.own c.in-Ok.ensures.names
    (subst (λ xs. BindsUnder (s c.declared.new.conds) (s c.bind_under.new.conds) c.args.cond c.args.kind xs (levels_in c.args.scopes.now) (levels_in c.bind_under.new.scopes)) c.deref.ensures.value
    c.in_ok-bind_under.ensures.binds) (declared_by c11_declarators) (λ tree. refl))
