use Rattle.std.proofs.Common.{[], ◌∷◌, sym, subst}
use Rattle.sc_fork.specs.Reducing.{BindsUnder}
use Rattle.sc_scope.specs.Search.{OwnsLevels}
use Rattle.sc_scope.specs.Seen.{levels_in}
use Rattle.sc_scope.proofs.OwnLemmas.{own-Keeps, bind-own}
use Rattle.sc_fork.proofs.MarkLemmas.{one-bound, none-bound, part-is, part-never}
use Rattle.sc_fork.proofs.reducing.bind_one.Goals as goal

pub returns-in_err-part-clause-own : goal.returns-in_err-part-clause-own
returns-in_err-part-clause-own g c = own-Keeps _ _ _ c.apply_and.ensures.keeps c.requires.own

pub returns-then-is_never-clause-binds : goal.returns-then-is_never-clause-binds
returns-then-is_never-clause-binds g c =
    let s = g.C.Conditions.sets in
    none-bound (s c.args.conds.now) (s c.apply_and.new.self) c.args.cond c.args.kind c.args.name (levels_in c.args.scopes.now) c.in_ok-part.ensures.keeps c.requires.own
    (part-never (s c.args.conds.now) (s c.apply_and.new.self) c.args.cond c.in_ok-part.part c.args.name.0.0 c.in_ok-part.ensures.keeps (c.is_never.ensures.0 c.if-is_never.true)
    (part-is (s c.args.conds.now) (s c.apply_and.new.self) c.args.cond c.in_ok-part.part c.args.name.0.0 c.requires.cond c.requires.name c.in_ok-part.ensures.meaning c.in_ok-part.ensures.keeps))

pub returns-then-is_never-clause-own : goal.returns-then-is_never-clause-own
returns-then-is_never-clause-own g c = own-Keeps _ _ _ c.apply_and.ensures.keeps c.requires.own

pub returns-in_err-bind-clause-own : goal.returns-in_err-bind-clause-own
returns-in_err-bind-clause-own g c =
    subst (OwnsLevels (g.C.Conditions.sets c.apply_and.new.self)) (sym c.in_err-bind.ensures.err) (own-Keeps _ _ _ c.apply_and.ensures.keeps c.requires.own)

pub returns-clause-binds : goal.returns-clause-binds
returns-clause-binds g c =
    let s = g.C.Conditions.sets in
    subst (BindsUnder (s c.args.conds.now) (s c.apply_and.new.self) c.args.cond c.args.kind (c.args.name ∷ []) (levels_in c.args.scopes.now)) (sym c.in_ok-bind.ensures.ok)
    (one-bound (s c.args.conds.now) (s c.apply_and.new.self) c.args.cond c.args.kind c.args.name (levels_in c.args.scopes.now) c.in_ok-part.ensures.keeps c.requires.own c.in_ok-part.part
    (part-is (s c.args.conds.now) (s c.apply_and.new.self) c.args.cond c.in_ok-part.part c.args.name.0.0 c.requires.cond c.requires.name c.in_ok-part.ensures.meaning c.in_ok-part.ensures.keeps))

pub returns-clause-own : goal.returns-clause-own
returns-clause-own g c =
    subst (OwnsLevels (g.C.Conditions.sets c.apply_and.new.self)) (sym c.in_ok-bind.ensures.ok)
    (bind-own _ c.args.name.1.0 c.in_ok-part.part c.args.kind (levels_in c.args.scopes.now) c.in_ok-part.ensures.own (own-Keeps _ _ _ c.apply_and.ensures.keeps c.requires.own))
