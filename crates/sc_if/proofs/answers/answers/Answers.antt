use Rattle.std.proofs.Common.{◌≡◌, ◌&&◌, ◌++◌, ◌∷◌, [], ◌∙◌, Bool, true, false, Err, List, not, refl, ap, subst, sym}
use Rattle.std.proofs.lemmas.Result.{err_from_is_err_and}
use Rattle.sc_if.proofs.LineAnswers.{Answer, answers-none, answers-some, refuses-before}
use Rattle.sc_if.proofs.PutLemmas.{and-not, own-Keeps}
use Rattle.sc_if.specs.Decided.{AreAnswers}
use Rattle.sc_model.proofs.SetLemmas.{Denotes-Keeps, Denotes-self, IsConfig-Keeps, Keeps-trans}
use Rattle.sc_model.specs.declared.cause.Cause.TheVariants.{DefinedFromMacro}
use Rattle.sc_if.proofs.answers.answers.Goals as goal

pub apply_without-requires-clause-a_own : goal.apply_without-requires-clause-a_own
apply_without-requires-clause-a_own g c = c.having_defined.ensures.keeps.own _ c.requires.live_own

pub returns-in_err-rest-clause-keeps : goal.returns-in_err-rest-clause-keeps
returns-in_err-rest-clause-keeps g c = Keeps-trans c.having_defined.ensures.keeps c.apply_without.ensures.keeps

pub read_line-requires-clause-own : goal.read_line-requires-clause-own
read_line-requires-clause-own g c = own-Keeps (Keeps-trans c.having_defined.ensures.keeps c.apply_without.ensures.keeps) c.args.list.now c.requires.own

pub returns-in_err-readings-clause-refused : goal.returns-in_err-readings-clause-refused
returns-in_err-readings-clause-refused g c =
    let found = c.having_defined.ensures.keeps in
    let keeps = Keeps-trans found c.apply_without.ensures.keeps in
    let live = Denotes-Keeps found (Denotes-self (g.C.Conditions.sets c.args.conds.now) c.args.live.0 c.requires.live_own) in
    let left = Denotes-self (g.C.Conditions.sets c.having_defined.new.conds) c.in_ok-left_over.left_over.0 c.in_ok-left_over.ensures.own in
    let rest = c.in_ok-rest.ensures.meaning _ _ live left in
    let p = err_from_is_err_and c.from_residual-in_err-readings.result c.from_residual-in_err-readings.ensures.1 in
    rw (p.1, p.2) (refuses-before c.args.standard c.args.names.now c.args.list.now ((g.C.Conditions.sets c.args.conds.now).has c.args.live.0) ((g.C.Conditions.sets c.apply_without.new.self).has c.in_ok-rest.rest.0) c.args.limit keeps c.requires.own
    (λ x listed has. left-true _ _ (sym (rest.at x (IsConfig-Keeps keeps listed)) ∙ has)) _ c.in_err-readings.ensures.refused)
  where
    left-true : (a b : Bool) → (a && b) ≡ true → a ≡ true
    left-true true b e = refl
    left-true false b e = e

pub returns-in_err-readings-clause-keeps : goal.returns-in_err-readings-clause-keeps
returns-in_err-readings-clause-keeps g c = Keeps-trans (Keeps-trans c.having_defined.ensures.keeps c.apply_without.ensures.keeps) c.read_line.ensures.keeps

pub returns-in_err-answers-clause-keeps : goal.returns-in_err-answers-clause-keeps
returns-in_err-answers-clause-keeps g c = Keeps-trans (Keeps-trans c.having_defined.ensures.keeps c.apply_without.ensures.keeps) c.read_line.ensures.keeps

pub returns-then-is_never-clause-keeps : goal.returns-then-is_never-clause-keeps
returns-then-is_never-clause-keeps g c = Keeps-trans (Keeps-trans c.having_defined.ensures.keeps c.apply_without.ensures.keeps) c.read_line.ensures.keeps

pub returns-in_err-push-clause-keeps : goal.returns-in_err-push-clause-keeps
returns-in_err-push-clause-keeps g c = Keeps-trans (Keeps-trans c.having_defined.ensures.keeps c.apply_without.ensures.keeps) c.read_line.ensures.keeps

pub returns-clause-keeps : goal.returns-clause-keeps
returns-clause-keeps g c = Keeps-trans (Keeps-trans c.having_defined.ensures.keeps c.apply_without.ensures.keeps) c.read_line.ensures.keeps

pub is_never-requires : goal.is_never-requires
is_never-requires g c = (Keeps-trans c.apply_without.ensures.keeps c.read_line.ensures.keeps).own _ c.in_ok-left_over.ensures.own

pub returns-then-is_never-clause-answers : goal.returns-then-is_never-clause-answers
returns-then-is_never-clause-answers g c =
    let old = g.C.Conditions.sets c.args.conds.now in
    let new = g.C.Conditions.sets c.read_line.new.conds in
    let found = c.having_defined.ensures.keeps in
    let later = Keeps-trans c.apply_without.ensures.keeps c.read_line.ensures.keeps in
    let left = c.in_ok-left_over.left_over in
    let own = c.in_ok-left_over.ensures.own in
    let live = Denotes-Keeps found (Denotes-self old c.args.live.0 c.requires.live_own) in
    let rest = c.in_ok-rest.ensures.meaning _ _ live (Denotes-self (g.C.Conditions.sets c.having_defined.new.conds) left.0 own) in
    let keeps = Keeps-trans found c.apply_without.ensures.keeps in
    let told = c.in_ok-left_over.ensures.meaning in
    subst (λ (l : List Answer). AreAnswers c.args.standard old new c.args.names.now c.args.list.now c.args.live.0 l) (sym c.in_ok-answers.ensures)
    (answers-none c.args.live.0 left keeps c.read_line.ensures.keeps c.requires.own (later.own _ own)
    (λ x listed. later.at _ x own (IsConfig-Keeps found listed) ∙ told x listed)
    (λ x listed. rest.at x (IsConfig-Keeps keeps listed) ∙ ((λ j. old.has c.args.live.0 x && not (told x listed j)) ∙ and-not (old.has c.args.live.0 x) _))
    c.in_ok-readings.ensures.read (c.is_never.ensures.0 c.if-is_never.true))

pub returns-clause-answers : goal.returns-clause-answers
returns-clause-answers g c =
    let old = g.C.Conditions.sets c.args.conds.now in
    let new = g.C.Conditions.sets c.read_line.new.conds in
    let found = c.having_defined.ensures.keeps in
    let later = Keeps-trans c.apply_without.ensures.keeps c.read_line.ensures.keeps in
    let left = c.in_ok-left_over.left_over in
    let own = c.in_ok-left_over.ensures.own in
    let live = Denotes-Keeps found (Denotes-self old c.args.live.0 c.requires.live_own) in
    let rest = c.in_ok-rest.ensures.meaning _ _ live (Denotes-self (g.C.Conditions.sets c.having_defined.new.conds) left.0 own) in
    let keeps = Keeps-trans found c.apply_without.ensures.keeps in
    let told = c.in_ok-left_over.ensures.meaning in
    subst (λ (l : List Answer). AreAnswers c.args.standard old new c.args.names.now c.args.list.now c.args.live.0 l) (sym {A = List Answer} (c.in_ok-push.ensures.items ∙ ap (λ (l : List Answer). l ++ (left, Err DefinedFromMacro) ∷ []) c.in_ok-answers.ensures))
    (answers-some c.args.live.0 left keeps c.read_line.ensures.keeps c.requires.own (later.own _ own)
    (λ x listed. later.at _ x own (IsConfig-Keeps found listed) ∙ told x listed)
    (λ x listed. rest.at x (IsConfig-Keeps keeps listed) ∙ ((λ j. old.has c.args.live.0 x && not (told x listed j)) ∙ and-not (old.has c.args.live.0 x) _))
    c.in_ok-readings.ensures.read)
