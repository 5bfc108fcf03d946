use Rattle.std.proofs.Common.{◌≡◌, ◌++◌, ◌∷◌, [], ◌∙◌, List, ap, sym, append-nil, append_assoc, length, refl, arith}
use Rattle.std.specs.Vec.Iter.{into_iter_items}
use Rattle.sc_if.proofs.LineAnswers.{Answer, answers_to}
use Rattle.sc_if.proofs.PutLemmas.{Entry}
use Rattle.sc_if.specs.Readings.{answer_of, seen_reading}
use Rattle.sc_if.proofs.answers.answers_to.Goals as goal

nothing : (xs : List Entry) → length xs ≡ 0 → xs ≡ []
nothing [] none = refl
nothing (x ∷ xs) none = absurd (omega arith)

pub loop-reading-init : goal.loop-reading-init
loop-reading-init c =
    let all = c.into_iter-reading-iterator.ensures.into_iter_gives.0 in
    record {
      can = tt;
      finite = tt;
      long = c.into_iter-reading-iterator.ensures.into_iter_gives.1 ∙ omega (arith, ap length all, c.args.readings.ok.0);
      made = ap (λ (l : List Answer). l ++ answers_to (into_iter_items c.into_iter-reading-iterator.result)) c.new-answers.ensures.items ∙ ap answers_to all;
    }

pub loop-reading-preserved : goal.loop-reading-preserved
loop-reading-preserved c =
    let was = c.loop-reading.invariant in
    let reading = c.in-Some.reading in
    let left = into_iter_items c.loop-reading.reading-iterator in
    let rest = into_iter_items c.next.new.self in
    let steps : left ≡ reading ∷ rest = c.in-Some.ensures.steps.0 in
    let made = c.loop-reading.answers.items in
    record {
      can = tt;
      finite = tt;
      long = omega (arith, ap length steps, c.in-Some.ensures.steps.1, was.long);
      made =
          ap (λ (l : List Answer). l ++ answers_to rest) (c.in_ok-push.ensures.items ∙ ap (λ a. made ++ (reading.0, a) ∷ []) c.answer_to.ensures)
          ∙ (append_assoc made ((reading.0, answer_of (seen_reading reading.1)) ∷ []) (answers_to rest)
          ∙ (ap (λ (l : List Entry). made ++ answers_to l) (sym steps) ∙ was.made));
    }

pub returns : goal.returns
returns c =
    let was = c.loop-reading.invariant in
    let made = c.loop-reading.answers.items in
    let none : into_iter_items c.loop-reading.reading-iterator ≡ [] = nothing (into_iter_items c.loop-reading.reading-iterator) (sym was.long ∙ c.in-None.ensures.steps.0) in
    sym (append-nil made) ∙ (ap (λ (l : List Entry). made ++ answers_to l) (sym none) ∙ was.made)
