use Rattle.std.proofs.Common.{◌≡◌, ◌∙◌, Some, None, refl, sym, subst}
use Rattle.sc_model.proofs.SetLemmas.{Denotes-self}
use Rattle.sc_fork.specs.Roots.{root_at}
use Rattle.sc_fork.proofs.RootLemmas.{adds-joined, adds-pushed, own-found}
use Rattle.sc_fork.proofs.outcome.add_root.Goals as goal

pub returns-in_ok-roots-in-Some-clause-adds : goal.returns-in_ok-roots-in-Some-clause-adds
returns-in_ok-roots-in-Some-clause-adds g c =
    let old = g.C.Conditions.sets c.args.conds.now in
    let roots = c.args.roots.now.items in
    let i = c.in-Some.index in
    let q = c.index_mut.result.now in
    let r = c.index.result.now in
    let at = subst (λ rs. root_at rs c.args.tree.0 ≡ Some i) c.deref.ensures.value (sym c.root_at.ensures ∙ c.in-Some.is) in
    adds-joined c.apply_or.ensures.keeps roots i (c.in_ok-roots-in-Some.field-0, q.1) q r c.args.cond c.args.tree at c.index_mut.ensures.value c.index.ensures refl c.requires.roots c.requires.own
    (c.in_ok-roots-in-Some.ensures.meaning (old.has r.0.0) (old.has c.args.cond.0) (Denotes-self old r.0.0 (own-found old roots i r c.args.tree at c.index.ensures c.requires.roots))
    (Denotes-self old c.args.cond.0 c.requires.own))

pub returns-in_ok-push-in-None-clause-adds : goal.returns-in_ok-push-in-None-clause-adds
returns-in_ok-push-in-None-clause-adds g c =
    adds-pushed (g.C.Conditions.sets c.args.conds.now) c.args.roots.now.items c.push.new.self.items c.args.cond c.args.tree
    (subst (λ rs. root_at rs c.args.tree.0 ≡ None) c.deref.ensures.value (sym c.root_at.ensures ∙ c.in-None.is)) c.requires.roots c.requires.own c.in_ok-push-in-None.ensures.items
