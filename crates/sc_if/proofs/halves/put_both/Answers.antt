use Rattle.std.proofs.Common.{◌∙◌, sym, subst}
use Rattle.std.proofs.lemmas.Result.{on_ok_weaker}
use Rattle.sc_if.proofs.HalfLemmas.{followed-put, put-never}
use Rattle.sc_if.proofs.PutLemmas.{own-Keeps}
use Rattle.sc_if.specs.Readings.{IsPut, seen_reading}
use Rattle.sc_model.proofs.SetLemmas.{Denotes-self, IsConfig-Keeps}
use Rattle.sc_if.proofs.halves.put_both.Goals as goal

pub returns-then-is_never-clause-followed : goal.returns-then-is_never-clause-followed
returns-then-is_never-clause-followed g c = λ r is.
    let s = g.C.Conditions.sets c.args.conds.now in
    let mid = g.C.Conditions.sets c.apply_and.new.self in
    let keeps = c.apply_and.ensures.keeps in
    let ends = c.args.ends.now.items in
    let told = c.in_ok-both.ensures.meaning _ _ (Denotes-self s c.args.cond.0 c.requires.cond_own) (Denotes-self s c.args.other.0 c.requires.other_own) in
    followed-put c.args.cond c.args.other r keeps c.requires.own (λ x listed. told.at x (IsConfig-Keeps keeps listed))
    (put-never mid ends c.in_ok-both.both.0 (seen_reading r) (own-Keeps keeps ends c.requires.own) (c.is_never.ensures.0 c.if-is_never.true))

pub returns-clause-followed : goal.returns-clause-followed
returns-clause-followed g c =
    let s = g.C.Conditions.sets c.args.conds.now in
    let mid = g.C.Conditions.sets c.apply_and.new.self in
    let new = g.C.Conditions.sets c.put.new.conds in
    let keeps = c.apply_and.ensures.keeps in
    let ends = c.args.ends.now.items in
    let told = c.in_ok-both.ensures.meaning _ _ (Denotes-self s c.args.cond.0 c.requires.cond_own) (Denotes-self s c.args.other.0 c.requires.other_own) in
    on_ok_weaker c.put.result
    (λ p r is. followed-put c.args.cond c.args.other r keeps c.requires.own (λ x listed. told.at x (IsConfig-Keeps keeps listed))
    (subst (λ q. IsPut mid new c.in_ok-both.both.0 q ends c.put.new.readings.items) (c.in_ok-copy.ensures ∙ sym is) p))
    c.put.ensures.put
