use Rattle.std.proofs.Common.{◌≡◌, ◌≤◌, length, inl, inr, ap, arith}
use Rattle.sc_diagram.specs.Diagram.{variable_of}
use Rattle.std.specs.Prelude.{slice_index}
use Rattle.std.proofs.lemmas.List.{length_push}
use Rattle.std.proofs.lemmas.Result.{IfOk-weaker}
use Rattle.sc_diagram.proofs.AppliedLemmas.{IsKnown-Grows}
use Rattle.sc_diagram.proofs.GrownLemmas.{Grows-trans, own-Grows}
use Rattle.sc_diagram.proofs.SimplifiedLemmas.{AreAnswers-Adds, AreAnswers-Grows, AreForOptions-more, IsQuestion-Grows, deeper, deeper-wider, for-option, from-options, from-wider, inner-node, itself, later-options, question-at, same-nodes}
use Rattle.sc_diagram.proofs.simplify.+simplify.Goals as goal

pub returns-then-node-within-clause-simplifies : goal.returns-then-node-within-clause-simplifies
returns-then-node-within-clause-simplifies t c = same-nodes c.count-count.ensures.valid c.args.asked c.requires.question c.if-node-within.true

pub returns-in_err-within-clause-answers : goal.returns-in_err-within-clause-answers
returns-in_err-within-clause-answers t c = AreAnswers-Grows c.widened.ensures.grows c.requires.answers

pub simplify-requires : goal.simplify-requires
simplify-requires t c =
    let wider = c.in_ok-within.ensures.wider in
    let grows = c.widened.ensures.grows in (
      omega (arith, deeper-wider c.requires.question c.count-count.ensures.valid grows wider (omega (arith, c.if-variable.true, c.variable-variable.ensures.variable)), c.decreases),
      (record { node = own-Grows grows c.args.asked.node c.requires.question.node; within = wider.own }, (c.widened.ensures.known, AreAnswers-Grows grows c.requires.answers)),
    )

pub returns-then-variable-clause-simplifies : goal.returns-then-variable-clause-simplifies
returns-then-variable-clause-simplifies t c =
    IfOk-weaker _ _ _ (λ r is. from-wider c.requires.question c.widened.ensures.grows c.simplify.ensures.grows c.in_ok-within.ensures.wider (omega (arith, c.if-variable.true, c.variable-variable.ensures.variable)) is) c.simplify.ensures.simplifies

pub simplify-requires-in-loop-option : goal.simplify-requires-in-loop-option
simplify-requires-in-loop-option t c =
    let i = c.loop-option.invariant in
    let top = c.variable-variable.ensures.variable in
    let inner = inner-node c.count-count.ensures.valid c.requires.question c.if-node-le-ALWAYS.false top in
    let low : c.variable-variable.result ≤ variable_of c.args.table.now c.args.asked.within = omega (arith, c.if-variable.false, c.variable.ensures.variable) in (
      omega (arith, deeper c.requires.question top inner low i.grows c.question_at.result c.option_like-like.result c.option_like-like.ensures.within c.question_at.ensures, c.decreases),
      (question-at c.requires.question top inner low i.grows c.question_at.result c.option_like-like.result c.option_like-like.ensures.within c.question_at.ensures, (i.known, i.answers)),
    )

pub loop-option-preserved : goal.loop-option-preserved
loop-option-preserved t c =
    let i = c.loop-option.invariant in
    let top = c.variable-variable.ensures.variable in
    let inner = inner-node c.count-count.ensures.valid c.requires.question c.if-node-le-ALWAYS.false top in
    let low : c.variable-variable.result ≤ variable_of c.args.table.now c.args.asked.within = omega (arith, c.if-variable.false, c.variable.ensures.variable) in
    let now = c.in_ok-child.ensures in
    let grows = c.simplify-in-loop-option.ensures.grows in
    let one = for-option c.requires.question top inner low i.grows c.loop-option.option c.option_like-like.result grows c.option_like-like.ensures.within c.option_like-like.ensures.like c.option_like-like.ensures.some c.question_at.ensures now.simplifies in
    record {
      grows = Grows-trans i.grows grows;
      known = c.simplify-in-loop-option.ensures.known;
      answers = c.simplify-in-loop-option.ensures.answers;
      full = omega (arith, ap length c.in_ok-push.ensures.ok, length_push c.loop-option.children.items c.in_ok-child.child, i.full);
      each = rw c.in_ok-push.ensures.ok (AreForOptions-more grows (IsQuestion-Grows i.grows c.requires.question) i.each (rw i.full one));
    }

pub choice-requires-clause-later : goal.choice-requires-clause-later
choice-requires-clause-later t c = rw c.as_slice.ensures (later-options c.loop-option.invariant.each)

pub returns-in_err-result-clause-known : goal.returns-in_err-result-clause-known
returns-in_err-result-clause-known t c = IsKnown-Grows c.choice.ensures.grows c.loop-option.invariant.known

pub returns-in_err-result-clause-answers : goal.returns-in_err-result-clause-answers
returns-in_err-result-clause-answers t c = AreAnswers-Grows c.choice.ensures.grows c.loop-option.invariant.answers

pub returns-clause-simplifies : goal.returns-clause-simplifies
returns-clause-simplifies t c =
    let top = c.variable-variable.ensures.variable in
    let inner = inner-node c.count-count.ensures.valid c.requires.question c.if-node-le-ALWAYS.false top in
    let low : c.variable-variable.result ≤ variable_of c.args.table.now c.args.asked.within = omega (arith, c.if-variable.false, c.variable.ensures.variable) in
    let full : length c.loop-option.children.items ≡ slice_index c.loop-option.table.arities c.variable-variable.result = omega (arith, c.loop-option.invariant.full, c.loop-option-test.false, c.loop-option.auto.option-end, c.arity-option-end.ensures, ap (λ ns. slice_index ns c.variable-variable.result) c.loop-option.invariant.grows.arities) in
    from-options c.requires.question top inner low c.loop-option.invariant.grows c.in_ok-result.result c.choice.ensures.grows c.loop-option.invariant.each full c.in_ok-result.ensures.own (rw c.as_slice.ensures at c.in_ok-result.ensures.choice)

pub returns-clause-known : goal.returns-clause-known
returns-clause-known t c = IsKnown-Grows c.choice.ensures.grows c.loop-option.invariant.known

pub returns-clause-answers : goal.returns-clause-answers
returns-clause-answers t c = AreAnswers-Adds c.add.ensures (AreAnswers-Grows c.choice.ensures.grows c.loop-option.invariant.answers) (returns-clause-simplifies t c)

pub returns-then-node-le-ALWAYS-clause-simplifies : goal.returns-then-node-le-ALWAYS-clause-simplifies
returns-then-node-le-ALWAYS-clause-simplifies t c = itself c.count-count.ensures.valid c.args.asked c.requires.question (elim c.then-node-le-ALWAYS.either [ inl low ↦ inl low | inr low ↦ inr low.1 ])

pub returns-in-Some-clause-simplifies : goal.returns-in-Some-clause-simplifies
returns-in-Some-clause-simplifies t c = c.requires.answers.each (c.args.asked, c.in-Some.result) c.in-Some.ensures
