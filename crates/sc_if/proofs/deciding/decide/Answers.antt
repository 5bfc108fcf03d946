use Rattle.std.proofs.Common.{All, Bool, List, Result, subst, sym}
use Rattle.sc_base.specs.declared.id.Cond.{Cond}
use Rattle.sc_if.proofs.LineLemmas.{line-alike, line-decided, line-others}
use Rattle.sc_if.specs.Decided.{AreDecided}
use Rattle.sc_model.proofs.SetLemmas.{Keeps-trans}
use Rattle.sc_model.specs.declared.cause.Cause.{Cause}
use Rattle.sc_model.specs.Sets.{IsCond}
use Rattle.sc_if.proofs.deciding.decide.Goals as goal

pub decide_answers-requires : goal.decide_answers-requires
decide_answers-requires g c =
    let mid = g.C.Conditions.sets c.answers.new.conds in
    let P : List (Cond × Result Bool Cause) → Type 0 = λ xs. All (λ (x : Cond × Result Bool Cause). IsCond mid x.0.0) xs in
    subst P (sym c.deref.ensures.value) c.in_ok-answers.ensures.answers.own

pub returns-in_err-decided-clause-keeps : goal.returns-in_err-decided-clause-keeps
returns-in_err-decided-clause-keeps g c = Keeps-trans c.answers.ensures.keeps c.decide_answers.ensures.keeps

pub returns-clause-decided : goal.returns-clause-decided
returns-clause-decided g c =
    let mid = g.C.Conditions.sets c.answers.new.conds in
    let new = g.C.Conditions.sets c.decide_answers.new.conds in
    let done = subst (λ xs. AreDecided mid new c.args.hash xs c.in_ok-decided.decided) c.deref.ensures.value c.in_ok-decided.ensures.decided in
    line-decided c.answers.ensures.keeps c.in_ok-answers.ensures.answers done

pub returns-clause-others : goal.returns-clause-others
returns-clause-others g c =
    let mid = g.C.Conditions.sets c.answers.new.conds in
    let new = g.C.Conditions.sets c.decide_answers.new.conds in
    let done = subst (λ xs. AreDecided mid new c.args.hash xs c.in_ok-decided.decided) c.deref.ensures.value c.in_ok-decided.ensures.decided in
    line-others c.answers.ensures.keeps c.in_ok-answers.ensures.answers done

pub returns-clause-alike : goal.returns-clause-alike
returns-clause-alike g c =
    let mid = g.C.Conditions.sets c.answers.new.conds in
    let new = g.C.Conditions.sets c.decide_answers.new.conds in
    let done = subst (λ xs. AreDecided mid new c.args.hash xs c.in_ok-decided.decided) c.deref.ensures.value c.in_ok-decided.ensures.decided in
    line-alike c.answers.ensures.keeps c.in_ok-answers.ensures.answers done

pub returns-clause-keeps : goal.returns-clause-keeps
returns-clause-keeps g c = Keeps-trans c.answers.ensures.keeps c.decide_answers.ensures.keeps
