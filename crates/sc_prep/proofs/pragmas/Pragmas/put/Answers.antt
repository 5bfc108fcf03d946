use Rattle.std.proofs.Common.{◌∙◌, subst, sym, true≢false}
use Rattle.sc_prep.proofs.Facts.{Keeps-trans}
use Rattle.sc_prep.proofs.PragmaMoves.{puts-nothing, puts-operator, puts-token}
use Rattle.sc_prep.specs.Pragmas.{PutsOutside}
use Rattle.sc_prep.proofs.pragmas.Pragmas.put.Goals as goal

pub returns-then-is_never-clause-puts : goal.returns-then-is_never-clause-puts
returns-then-is_never-clause-puts g c =
    puts-nothing c.args.names.now c.args.cond c.args.token c.args.list.now c.in_ok-free.ensures.reads c.in_ok-free.ensures.keeps (c.is_never.ensures.0 c.if-is_never.true)

pub returns-in_ok-begin-clause-puts : goal.returns-in_ok-begin-clause-puts
returns-in_ok-begin-clause-puts g c =
    puts-operator c.args.names.now c.args.cond c.args.token c.args.list.now c.in_ok-free.ensures.reads c.in_ok-free.ensures.keeps (λ files. sym (c.is_pragma.ensures files) ∙ c.if-is_pragma.true) c.in_ok-begin.ensures.begins

pub returns-in_ok-push-clause-puts : goal.returns-in_ok-push-clause-puts
returns-in_ok-push-clause-puts g c =
    subst (PutsOutside c.args.names.now (g.C.Conditions.sets c.args.conds.now) c.args.self.now _ c.args.cond.0 c.args.list.now (g.C.Conditions.sets c.read.new.conds) c.read.new.self) (sym c.in_ok-push.ensures.ok)
    (puts-token c.args.names.now c.args.cond c.args.token c.args.list.now c.in_ok-free.ensures.reads c.in_ok-free.ensures.keeps (λ never. true≢false (sym (c.is_never.ensures.1 never) ∙ c.if-is_never.false))
    (λ files. sym (c.is_pragma.ensures files) ∙ c.if-is_pragma.false))

pub returns-in_err-begin-clause-keeps : goal.returns-in_err-begin-clause-keeps
returns-in_err-begin-clause-keeps g c = Keeps-trans c.in_ok-free.ensures.keeps c.in_err-begin.ensures.keeps

pub returns-in_ok-begin-clause-keeps : goal.returns-in_ok-begin-clause-keeps
returns-in_ok-begin-clause-keeps g c = Keeps-trans c.in_ok-free.ensures.keeps c.in_ok-begin.ensures.keeps
