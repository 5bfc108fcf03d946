use Rattle.std.proofs.Common.{◌≡◌, ◌∙◌, None, Some, refl, sym, subst}
use Rattle.sc_prep.proofs.Facts.{Denotes-self}
use Rattle.sc_prep.proofs.FindLemmas.{once-joined, once-pushed, joined-enters, joined-others, pushed-enters, pushed-others, own-found}
use Rattle.sc_prep.proofs.Terms.{part_of}
use Rattle.sc_prep.proofs.finding.add_part.Goals as goal

pub returns-in_ok-parts-in-Some-clause-enters : goal.returns-in_ok-parts-in-Some-clause-enters
returns-in_ok-parts-in-Some-clause-enters g c =
    let old = g.C.Conditions.sets c.args.conds.now in
    let parts = c.args.parts.now.items in
    let i = c.in-Some.index in
    let q = c.index_mut.result.now in
    let r = c.index.result.now in
    let at = subst (λ ps. part_of ps c.args.file.0 ≡ Some i) c.deref.ensures.value (sym c.index_of.ensures ∙ c.in-Some.is) in
    joined-enters c.apply_or.ensures.keeps parts i _ q r c.args.cond c.args.file at c.index_mut.ensures.value c.index.ensures refl c.requires.parts
    (c.in_ok-parts-in-Some.ensures.meaning (old.has r.cond.0) (old.has c.args.cond.0) (Denotes-self old r.cond.0 (own-found parts i r c.args.file at c.index.ensures c.requires.parts)) (Denotes-self old c.args.cond.0 c.requires.own))

pub returns-in_ok-parts-in-Some-clause-others : goal.returns-in_ok-parts-in-Some-clause-others
returns-in_ok-parts-in-Some-clause-others g c =
    let old = g.C.Conditions.sets c.args.conds.now in
    let parts = c.args.parts.now.items in
    let i = c.in-Some.index in
    let q = c.index_mut.result.now in
    let r = c.index.result.now in
    let at = subst (λ ps. part_of ps c.args.file.0 ≡ Some i) c.deref.ensures.value (sym c.index_of.ensures ∙ c.in-Some.is) in
    joined-others c.apply_or.ensures.keeps parts i _ q r c.args.cond c.args.file at c.index_mut.ensures.value c.index.ensures refl c.requires.parts
    (c.in_ok-parts-in-Some.ensures.meaning (old.has r.cond.0) (old.has c.args.cond.0) (Denotes-self old r.cond.0 (own-found parts i r c.args.file at c.index.ensures c.requires.parts)) (Denotes-self old c.args.cond.0 c.requires.own))

pub returns-in_ok-push-in-None-clause-enters : goal.returns-in_ok-push-in-None-clause-enters
returns-in_ok-push-in-None-clause-enters g c = λ config listed.
    pushed-enters (g.C.Conditions.sets c.args.conds.now) c.args.parts.now.items c.push.new.self.items _ c.in_ok-push-in-None.ensures.items config

pub returns-in_ok-push-in-None-clause-others : goal.returns-in_ok-push-in-None-clause-others
returns-in_ok-push-in-None-clause-others g c = λ config listed.
    pushed-others (g.C.Conditions.sets c.args.conds.now) c.args.parts.now.items c.push.new.self.items _ c.in_ok-push-in-None.ensures.items config

pub returns-in_ok-parts-in-Some-clause-once : goal.returns-in_ok-parts-in-Some-clause-once
returns-in_ok-parts-in-Some-clause-once g c = once-joined c.args.parts.now.items c.in-Some.index _ c.index_mut.result.now c.index_mut.ensures.value refl

pub returns-in_ok-push-in-None-clause-once : goal.returns-in_ok-push-in-None-clause-once
returns-in_ok-push-in-None-clause-once g c =
    once-pushed c.args.parts.now.items c.push.new.self.items _ c.in_ok-push-in-None.ensures.items (subst (λ ps. part_of ps c.args.file.0 ≡ None) c.deref.ensures.value (sym c.index_of.ensures ∙ c.in-None.is))
