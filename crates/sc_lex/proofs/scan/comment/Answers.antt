use Rattle.std.proofs.Common.{[], ◌∷◌, take, arith, sym, ◌∙◌, subst, ap}
use Rattle.std.proofs.lemmas.List.{take_rest}
use Rattle.std.proofs.lemmas.Bool.{true≢false}
use Rattle.c11_tokens.specs.Lex.{comment_closes}
use Rattle.sc_model.specs.Bytes.{has_no_newline}
use Rattle.sc_lex.specs.Scan.{IsLongestFront}
use Rattle.sc_lex.proofs.Quotes.{starts_with-is, line_comment, block_comment, no_comment, unended}
use Rattle.sc_lex.proofs.scan.comment.Goals as goal

pub returns-then-starts_with-clause-some : goal.returns-then-starts_with-clause-some
returns-then-starts_with-clause-some c =
    line_comment _ _ (starts_with-is (47 ∷ 47 ∷ []) c.args.text.now ∙ sym c.starts_with.ensures.value ∙ c.if-starts_with.true)
    (subst (λ bs. IsLongestFront has_no_newline bs c.line_length.result) (take_rest c.args.text.now 2) c.line_length.ensures)

pub returns-in-Some-clause-some : goal.returns-in-Some-clause-some
returns-in-Some-clause-some c =
    block_comment _ _ (starts_with-is (47 ∷ 42 ∷ []) c.args.text.now ∙ sym c.starts_with-2.ensures.value ∙ c.if-starts_with-2.true)
    (subst (λ bs. IsLongestFront comment_closes bs c.in-Some.end) (take_rest c.args.text.now 2) c.in-Some.ensures.front) c.in-Some.ensures.some

pub returns-in-Some-clause-ended : goal.returns-in-Some-clause-ended
returns-in-Some-clause-ended c =
    let front = block_comment _ _ (starts_with-is (47 ∷ 42 ∷ []) c.args.text.now ∙ sym c.starts_with-2.ensures.value ∙ c.if-starts_with-2.true)
    (subst (λ bs. IsLongestFront comment_closes bs c.in-Some.end) (take_rest c.args.text.now 2) c.in-Some.ensures.front) c.in-Some.ensures.some in
    λ u. true≢false (sym (front.fit (omega arith)) ∙ u.no_end _)

pub returns-in-None-clause-none : goal.returns-in-None-clause-none
returns-in-None-clause-none c =
    unended _ (starts_with-is (47 ∷ 42 ∷ []) c.args.text.now ∙ sym c.starts_with-2.ensures.value ∙ c.if-starts_with-2.true)
    (λ m. ap (λ bs. comment_closes (take m bs)) (sym (take_rest c.args.text.now 2)) ∙ c.in-None.ensures.none m)

pub returns-clause-some : goal.returns-clause-some
returns-clause-some c =
    no_comment _ (starts_with-is (47 ∷ 47 ∷ []) c.args.text.now ∙ sym c.starts_with.ensures.value ∙ c.if-starts_with.false)
    (starts_with-is (47 ∷ 42 ∷ []) c.args.text.now ∙ sym c.starts_with-2.ensures.value ∙ c.if-starts_with-2.false)
