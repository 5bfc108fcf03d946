use Rattle.std.proofs.Common.{sym, ◌∙◌, arith}
use Rattle.sc_lex.proofs.Punctuators.{longest_punctuator, above_three, above_two, above_one, above_none}
use Rattle.sc_lex.proofs.scan.punctuator.Goals as goal

pub returns-then-has_four : goal.returns-then-has_four
returns-then-has_four c = longest_punctuator _ 4 (λ positive. sym c.has_four.ensures ∙ c.if-has_four.true) (λ m more most. absurd (omega arith))

pub returns-then-has_three : goal.returns-then-has_three
returns-then-has_three c = longest_punctuator _ 3 (λ positive. sym c.has_three.ensures ∙ c.if-has_three.true) (above_three _ (sym c.has_four.ensures ∙ c.if-has_four.false))

pub returns-then-has_two : goal.returns-then-has_two
returns-then-has_two c =
    longest_punctuator _ 2 (λ positive. sym c.has_two.ensures ∙ c.if-has_two.true)
    (above_two _ (sym c.has_four.ensures ∙ c.if-has_four.false) (sym c.has_three.ensures ∙ c.if-has_three.false))

pub returns-then-has_one : goal.returns-then-has_one
returns-then-has_one c =
    longest_punctuator _ 1 (λ positive. sym c.has_one.ensures ∙ c.if-has_one.true)
    (above_one _ (sym c.has_four.ensures ∙ c.if-has_four.false) (sym c.has_three.ensures ∙ c.if-has_three.false) (sym c.has_two.ensures ∙ c.if-has_two.false))

pub returns-else-has_one : goal.returns-else-has_one
returns-else-has_one c =
    longest_punctuator _ 0 (λ positive. absurd (omega arith))
    (above_none _ (sym c.has_four.ensures ∙ c.if-has_four.false) (sym c.has_three.ensures ∙ c.if-has_three.false) (sym c.has_two.ensures ∙ c.if-has_two.false) (sym c.has_one.ensures ∙ c.if-has_one.false))
